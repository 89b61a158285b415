-- A chunk in two steps: what is read of it, and what it does to the state.
use Rattle.std.proofs.Common.{◌≡◌, ℕ, zero, suc, ◌-◌, Bool, true, false, cond, eqb, List, [], length, refl, sym, ap, ◌∙◌, subst, Some, None, Result, Ok}
use Rattle.std.specs.Result.{IsErrAnd}
use Rattle.std.specs.Int.{from_be_bytes, w32}
use Rattle.amf_io.specs.declared.window.Window.{Window}
use Rattle.amf_io.specs.declared.cursor.Cursor.{Cursor}
use Rattle.amf_io.specs.declared.reason.Reason.TheVariants.{BadChunk}
use Rattle.amf_io.specs.declared.ends.ReadEnd.{ReadEnd}
use Rattle.amf_io.specs.declared.ends.ReadEnd.TheVariants.{Refused}
use Rattle.amf_io.specs.Cursor.{place}
use Rattle.amf_io.specs.Field.{basic}
use Rattle.amf_io.specs.Layout.{Layout, give, want, bind}
use Rattle.amf_io.specs.ReadEnds.{GoesBy, IsPlaced}
use Rattle.amf_io.specs.CursorReads.{Answers, AnswersField, Ends, EndsField}
use Rattle.amf_io.proofs.CursorReads.{gives, then_reads, end_reads, field_reads, field_refused, field_ended}
use Rattle.amf_io.proofs.FieldReads.{passed_on}
use Rattle.rtmp_chunks.specs.Chunk.{lesser, header_kind, extended_kind, basic_kind, format_of, id_of, stamp_in, is_extended, Head, filled}
use Rattle.rtmp_chunks.specs.Stream.{header_before}
use Rattle.rtmp_chunks.specs.Machine.{Slot, Fresh, Idle, Busy, State, came_to, data_of, data_layout, passed, stamp_layout, begins, behind_basic, chunk_layout, refused_in}
use Rattle.rtmp_chunks.specs.Table.{Met, begun, taken, taken_by, part_layout}

abbrev ends_in : ℕ → State → Met → Layout State
ends_in id s m = give (came_to id m.head m.bytes s)

data_law : (n id : ℕ) (h : Head) (came : List ℕ) (s : State) → bind (taken n h came) (ends_in id s) ≡ data_of n id h came s
data_law zero id h came s = refl
data_law (suc n) id h came s = refl

module _ (id : ℕ) (s : State) where
  goes_on : (e : Bool) (h : Head) (came : List ℕ) → bind (bind (passed e) (λ u. taken_by s.size h came)) (ends_in id s) ≡ bind (passed e) (λ u. data_layout id h came s)
  goes_on true h came = ap (λ l. want extended_kind (λ b. l)) (data_law (lesser s.size (h.size - length came)) id h came s)
  goes_on false h came = data_law (lesser s.size (h.size - length came)) id h came s

  again : (e : Bool) (h : Head) → bind (bind (bind (passed e) (λ u. give h)) (λ h. taken_by s.size h [])) (ends_in id s) ≡ bind (passed e) (λ u. data_layout id h [] s)
  again true h = ap (λ l. want extended_kind (λ b. l)) (data_law (lesser s.size (h.size - 0)) id h [] s)
  again false h = data_law (lesser s.size (h.size - 0)) id h [] s

  stamped : (b : Bool) (n : ℕ) (F : ℕ → Head) → bind (bind (bind (cond b (want extended_kind (λ b. give (from_be_bytes w32 b))) (give n)) (λ stamp. give (F stamp))) (λ h. taken_by s.size h [])) (ends_in id s)
      ≡ bind (cond b (want extended_kind (λ b. give (from_be_bytes w32 b))) (give n)) (λ stamp. data_layout id (F stamp) [] s)
  stamped true n F = λ i. want extended_kind (λ b. data_law (lesser s.size ((F (from_be_bytes w32 b)).size - 0)) id (F (from_be_bytes w32 b)) [] s i)
  stamped false n F = data_law (lesser s.size ((F n).size - 0)) id (F n) [] s

  begun_law : (format : ℕ) (before : Head) → bind (bind (begun format before) (λ h. taken_by s.size h [])) (ends_in id s) ≡ begins format id before s
  begun_law format before = by (eqb format 3)
    where
      by : (t : Bool) → bind (bind (cond t (bind (passed before.extended) (λ u. give (filled 3 [] 0 before))) (want (header_kind format) (λ header. bind (stamp_layout (stamp_in header)) (λ stamp. give (filled format header stamp before))))) (λ h. taken_by s.size h [])) (ends_in id s)
          ≡ cond t (bind (passed before.extended) (λ u. data_layout id (filled 3 [] 0 before) [] s)) (want (header_kind format) (λ header. bind (stamp_layout (stamp_in header)) (λ stamp. data_layout id (filled format header stamp before) [] s)))
      by true = again before.extended (filled 3 [] 0 before)
      by false = λ i. want (header_kind format) (λ header. stamped (is_extended (stamp_in header)) (stamp_in header) (λ stamp. filled format header stamp before) i)

  pub part_law : (format : ℕ) (slot : Slot) → bind (part_layout s.size format slot) (ends_in id s) ≡ behind_basic format id slot s
  part_law format Fresh = begun_law format (header_before None)
  part_law format (Idle before) = begun_law format before
  part_law format (Busy h came) = goes_on h.extended h came

pub same_state : (a b : State) → a.size ≡ b.size → ((j : ℕ) → a.slots j ≡ b.slots j) → a.messages ≡ b.messages → a ≡ b
same_state a b p q m = λ i. record { size = p i; slots = λ j. q j i; messages = m i }

module _ {S Z : Type 0} (tells : S → Type 0) (left : S → List ℕ) (faults : S → ℕ) (view : Z → State) (s : State) (c d : Cursor S Window) where
  pub basic_ended : (r : Result Z ReadEnd) (e : ReadEnd) → IsErrAnd r (λ x. x ≡ e) → EndsField tells left basic c d e → Answers tells left view (chunk_layout s) c d r
  basic_ended r e is a = passed_on tells left faults view (chunk_layout s) c d r e is (field_ended tells left faults (basic_kind (λ format id. refused_in (s.slots id) format)) (λ b. behind_basic (format_of b) (id_of b) (s.slots (id_of b)) s) c d e a)

  module _ {X : Type 0} (seen : X → List ℕ) (x : X) (field : AnswersField tells left seen basic c d (Ok x)) (format id : ℕ) (slot : Slot) (f : format ≡ format_of (seen x)) (n : id ≡ id_of (seen x)) (l : slot ≡ s.slots id) where
    test : (r b : Bool) → r ≡ refused_in slot format → r ≡ b → cond (refused_in (s.slots (id_of (seen x))) (format_of (seen x))) (Some BadChunk) None ≡ cond b (Some BadChunk) None
    test r b e t = ap (λ v. cond v (Some BadChunk) None) (ap (λ k. refused_in (s.slots (id_of (seen x))) k) (sym f) ∙ ap (λ k. refused_in (s.slots k) format) (sym n) ∙ ap (λ w. refused_in w format) (sym l) ∙ sym e ∙ t)

    pub basic_refused : (r : Bool) → r ≡ refused_in slot format → r ≡ true → (start : ℕ) (e : ReadEnd) → start ≡ place c → e ≡ Refused (record { reason = BadChunk; at = start }) → Ends tells left (chunk_layout s) c d e
    basic_refused r g t start e p is =
        subst (λ v. Ends tells left (chunk_layout s) c d v) (ap (λ k. let y : ReadEnd = Refused (record { reason = BadChunk; at = k }) in y) (sym p) ∙ sym is)
        (field_refused tells left faults seen (basic_kind (λ format id. refused_in (s.slots id) format)) (λ b. behind_basic (format_of b) (id_of b) (s.slots (id_of b)) s) c d d x BadChunk field (test r true g t))

    module _ (goes : GoesBy tells left faults c d (Ok x)) (r : Bool) (g : r ≡ refused_in slot format) (t : r ≡ false) (size : ℕ) (z : size ≡ s.size) (e : Cursor S Window) where
      behind : (q : Result Z ReadEnd) → Answers tells left view (bind (part_layout size format slot) (ends_in id s)) d e q → Answers tells left view (chunk_layout s) c e q
      behind q a = field_reads tells left faults seen view (basic_kind (λ format id. refused_in (s.slots id) format)) (λ b. behind_basic (format_of b) (id_of b) (s.slots (id_of b)) s) c d e x q goes field (test r false g t)
          (subst (λ y. Answers tells left view y d e q) (ap (λ k. bind (part_layout k format slot) (ends_in id s)) z ∙ part_law id s format slot ∙ ap (λ w. behind_basic format id w s) l ∙ ap (λ k. behind_basic k id (s.slots id) s) f ∙ ap (λ k. behind_basic (format_of (seen x)) k (s.slots k) s) n) a)

      pub part_ended : (q : Result Z ReadEnd) (end : ReadEnd) → IsErrAnd q (λ x. x ≡ end) → Ends tells left (part_layout size format slot) d e end → Answers tells left view (chunk_layout s) c e q
      part_ended q end is a = behind q (passed_on tells left faults view (bind (part_layout size format slot) (ends_in id s)) d e q end is (end_reads tells left faults (part_layout size format slot) (ends_in id s) d e end a))

      pub part_came : {P : Type 0} (part : P → Met) (p : P) → GoesBy tells left faults d e (Ok p) → Answers tells left part (part_layout size format slot) d e (Ok p) → IsPlaced e
          → (y : Z) → view y ≡ came_to id (part p).head (part p).bytes s → Answers tells left view (chunk_layout s) c e (Ok y)
      part_came part p h a w y same = behind (Ok y) (then_reads tells left faults part view (part_layout size format slot) (ends_in id s) d e e p (Ok y) h a (gives tells left faults view e y (came_to id (part p).head (part p).bytes s) w same))
