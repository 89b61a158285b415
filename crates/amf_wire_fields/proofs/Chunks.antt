-- Contents of so many bytes, as they come.
use Rattle.std.proofs.Common.{inl, inr, ◌≡◌, ℕ, zero, suc, ◌+◌, ◌≤◌, ◌<◌, true, false, Bool, cond, leb, List, [], ◌∷◌, ◌++◌, length, take, drop, get_or, Option, Some, None, is_some, refl, sym, ap, ◌∙◌, arith, bytes_eq, ◌||◌, Ok, Err, subst}
use Rattle.std.proofs.lemmas.Bool.{le-leb}
use Rattle.std.proofs.lemmas.List.{take-append-drop, length-take-le}
use Rattle.std.specs.Prelude.{if◌then◌else◌}
use Rattle.amf_graph.specs.declared.wrapped.Wrapped.TheVariants.{ArrayCollection, ArrayList, ObjectProxy}
use Rattle.amf_graph.specs.Graph.{class_name}
use Rattle.amf_graph.specs.Classes.{class_named}
use Rattle.amf3_spelling.specs.Refusals3.{is_served}
use Rattle.amf_io.specs.declared.reason.Reason.{Reason}
use Rattle.amf_io.specs.declared.reason.Reason.TheVariants.{UnknownExternal}
use Rattle.amf_io.specs.declared.ends.CursorEnd.{CursorEnd}
use Rattle.amf_io.specs.declared.ends.CursorEnd.TheVariants.{Ended, TooLarge, ReadFault as Fault, Memory as NoMemory}
use Rattle.amf_io.specs.declared.ends.ReadEnd.{ReadEnd}
use Rattle.amf_io.specs.declared.ends.ReadEnd.TheVariants.{Refused}
use Rattle.amf_io.specs.Cursor.{source_of, place, bound, unread, Appends, GivesBytes}
use Rattle.amf_io.specs.Field.{fixed, whole, AreBytes}
use Rattle.amf_io.specs.ReadEnds.{IsEnd}
use Rattle.amf_graph.specs.declared.wrapped.Wrapped.{Wrapped}
use Rattle.amf_wire_fields.specs.declared.contents.Contents.{Contents}
use Rattle.amf_wire_fields.specs.declared.contents.Contents.TheVariants.{Bytes, Text, Class}
use Rattle.amf_wire_fields.specs.FieldSize.{contents_kind, contents_refusal}
use Rattle.amf_io.specs.Layout.{give}
use Rattle.amf_io.proofs.LayoutAnswers.{done_give, field_answers, field_ends, refused_field}
use Rattle.amf_io.specs.declared.window.Window.{Window}
use Rattle.amf_io.specs.declared.cursor.Cursor.{Cursor}
use Rattle.amf_io.specs.CursorReads.{Answers}
use Rattle.amf_io.proofs.Bytes.{bytes_take}
use Rattle.amf_wire_fields.proofs.Ahead.{Passed, front_le, front_of}
use Rattle.amf3_layout_laws.specs.Layout3Words.{chunk}
use Rattle.amf_io.specs.LayoutAnswer.{FieldEnds, Came, DoneBy, EndsBy}

pub are_bytes : (bytes : List ℕ) → ((i : ℕ) → get_or bytes i 0 < 256) → AreBytes bytes
are_bytes [] h = tt
are_bytes (b ∷ bytes) h = (h 0, are_bytes bytes (λ i. h (suc i)))

fits : (n : ℕ) (bytes : List ℕ) → length bytes ≡ suc n → whole (fixed (suc n)) bytes ≡ Some (length bytes)
fits n bytes e = ap (λ b. cond b (Some (suc n)) None) (le-leb (suc n) (length bytes) (omega arith)) ∙ ap Some (sym e)

lacks : (n : ℕ) (bytes : List ℕ) → length bytes < suc n → whole (fixed (suc n)) bytes ≡ None
lacks n bytes lt = ap (λ b. cond b (Some (suc n)) None) (over (suc n) (length bytes) lt)
  where
    over : (n m : ℕ) → m < n → leb n m ≡ false
    over n m lt = grind arith

-- they came whole
pub came : (told : Type 0) (n : ℕ) (input rest now : List ℕ) (at place limit : ℕ) → length now ≡ suc n → (told → Appends input rest [] now (suc n)) → place ≡ at + suc n → place ≤ limit → AreBytes now
    → Came (fixed (suc n)) told now input rest at place limit
came told n input rest now at place limit e a p le h = record {
  is_whole = fits n now e;
  taken = p ∙ ap (λ k. at + k) (sym e);
  within = le;
  are_bytes = h;
  parts = λ t. sym (take-append-drop (suc n) input) ∙ ap (λ l. l ++ drop (suc n) input) (sym (a t).appended) ∙ ap (λ r. now ++ r) (sym (a t).gone);
}

-- they ended too early
cut : (told : Type 0) (n : ℕ) (input rest now : List ℕ) (at limit : ℕ) (end : CursorEnd) (e : ReadEnd) → IsEnd end at e → (told → GivesBytes input rest [] now at limit (suc n) (Err end)) → FieldEnds (fixed (suc n)) told input rest at limit e
cut told n input rest now at limit Ended e h g = rw h (λ t. let a = (g t).0 in (a.front, rest, record { parts = a.parted; is_short = lacks n a.front a.fewer; within = a.within }, refl, inl (refl, (g t).1)))
cut told n input rest now at limit TooLarge e h g = rw h (λ t. let a = (g t).0 in (a.front, rest, record { parts = a.parted; is_short = lacks n a.front a.fewer; within = a.within }, refl, inr (refl, (g t).1, (g t).2)))
cut told n input rest now at limit Fault e h g = rw h (λ t. let a = g t in (a.front, record { parts = a.parted; is_short = lacks n a.front a.fewer; within = a.within }))
cut told n input rest now at limit NoMemory e h g = rw h tt

-- a served name is that of a class
pub served_named : (x : List ℕ) → is_served x ≡ is_some (class_named x)
served_named x = by_first (bytes_eq (class_name ArrayCollection) x) (bytes_eq (class_name ArrayList) x) (bytes_eq (class_name ObjectProxy) x)
  where
    by_first : (a b c : Bool) → (a || (b || (c || false))) ≡ is_some (if a then Some ArrayCollection else (if b then Some ArrayList else (if c then Some ObjectProxy else None)))
    by_first true b c = refl
    by_first false true c = refl
    by_first false false true = refl
    by_first false false false = refl

pub class_refused : (k : Contents) (x : List ℕ) (w : Option Wrapped) (b : Bool) → k ≡ Class → w ≡ class_named x → is_some w ≡ b → cond b None (Some UnknownExternal) ≡ contents_refusal k x
class_refused k x w b e n t = sym (ap (λ j. contents_refusal j x) e ∙ ap (λ c. cond c None (Some UnknownExternal)) (served_named x ∙ ap is_some (sym n) ∙ t))

kind_size : (k : Contents) (n : ℕ) → (contents_kind k n).size ≡ fixed n
kind_size Bytes n = refl
kind_size Text n = refl
kind_size Class n = refl

kind_refusal : (k : Contents) (n : ℕ) (x : List ℕ) → (contents_kind k n).refusal x ≡ contents_refusal k x
kind_refusal Bytes n x = refl
kind_refusal Text n x = refl
kind_refusal Class n x = refl

module _ (told : Type 0) (k : Contents) (input rest now : List ℕ) (at place limit : ℕ) where
  came_as : (n : ℕ) → length now ≡ suc n → (told → Appends input rest [] now (suc n)) → place ≡ at + suc n → place ≤ limit → AreBytes now → Came (contents_kind k (suc n)).size told now input rest at place limit
  came_as n e a p le h = subst (λ s. Came s told now input rest at place limit) (sym (kind_size k (suc n))) (came told n input rest now at place limit e a p le h)

  pub chunk_done : (n : ℕ) → 0 < n → length now ≡ 0 + n → (told → Appends input rest [] now n) → place ≡ at + n → place ≤ limit → AreBytes now → None ≡ contents_refusal k now → DoneBy told (chunk (contents_kind k) n (λ x. give x)) now input rest at place limit
  chunk_done zero lt e a p le h r = absurd (omega arith)
  chunk_done (suc n) lt e a p le h r =
      field_answers told told (λ t. t) (contents_kind k (suc n)) (λ x. give x) now input rest at place limit (came_as n (e ∙ omega arith) a p le h) (kind_refusal k (suc n) now ∙ sym r)
      (λ (x : List ℕ). x) rest place (Ok now) (done_give told now rest place limit le)

  pub chunk_refused : (n : ℕ) (reason : Reason) (e : ReadEnd) → 0 < n → length now ≡ 0 + n → (told → Appends input rest [] now n) → place ≡ at + n → place ≤ limit → AreBytes now → Some reason ≡ contents_refusal k now
      → e ≡ Refused (record { reason = reason; at = at }) → EndsBy told (chunk (contents_kind k) n (λ x. give x)) input rest at limit e
  chunk_refused zero reason e lt l a p le h r s = absurd (omega arith)
  chunk_refused (suc n) reason e lt l a p le h r s =
      rw s (refused_field told (contents_kind k (suc n)) (λ x. give x) now input rest rest at place limit reason (came_as n (l ∙ omega arith) a p le h) (kind_refusal k (suc n) now ∙ sym r))

pub chunk_cut : (told : Type 0) (k : Contents) (n : ℕ) (input rest now : List ℕ) (at limit : ℕ) (end : CursorEnd) (e : ReadEnd) → 0 < n → IsEnd end at e → (told → GivesBytes input rest [] now at limit n (Err end)) → EndsBy told (chunk (contents_kind k) n (λ x. give x)) input rest at limit e
chunk_cut told k zero input rest now at limit end e lt h g = absurd (omega arith)
chunk_cut told k (suc n) input rest now at limit end e lt h g =
    field_ends told (contents_kind k (suc n)) (λ x. give x) input rest at limit e (subst (λ s. FieldEnds s told input rest at limit e) (sym (kind_size k (suc n))) (cut told n input rest now at limit end e h g))

-- they were ahead of the cursor
pub chunk_ahead : {S : Type 0} (tells : S → Type 0) (left : S → List ℕ) (k : Contents) (n : ℕ) (c d : Cursor S Window) (bytes : List ℕ) → Passed left c d bytes n → AreBytes bytes → contents_refusal k (take n bytes) ≡ None
    → Answers {X = List ℕ} tells left (λ x. x) (chunk (contents_kind k) n (λ x. give x)) c d (Ok (take n bytes))
chunk_ahead tells left k zero c d bytes p h r =
    let same : place d ≡ place c = omega (arith, p.taken) in
    subst (λ rest. DoneBy {Y = List ℕ} (tells (source_of c).now) (give []) [] (unread left c) rest (place c) (place d) (bound c)) (sym p.gone)
    (subst (λ at. DoneBy {Y = List ℕ} (tells (source_of c).now) (give []) [] (unread left c) (unread left c) (place c) at (bound c)) (sym same)
    (done_give (tells (source_of c).now) [] (unread left c) (place c) (bound c) (omega (arith, p.within))))
chunk_ahead tells left k (suc n) c d bytes p h r =
    let long : length (take (suc n) bytes) ≡ suc n = length-take-le (suc n) bytes p.some in
    chunk_done (tells (source_of c).now) k (unread left c) (unread left d) (take (suc n) bytes) (place c) (place d) (bound c) (suc n) (omega arith) (omega (arith, long))
    (λ t. record { there = omega (arith, p.some, front_le bytes (unread left c) p.front); appended = front_of bytes (unread left c) (suc n) p.front p.some; gone = p.gone })
    p.taken (omega (arith, p.within, p.some, p.taken)) (bytes_take (suc n) bytes h) (sym r)
