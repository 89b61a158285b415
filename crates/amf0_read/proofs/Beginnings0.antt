-- How a value begins: what was read first, with its bytes, and whether these begin a call.
use Rattle.std.proofs.Common.{◌≡◌, ℕ, ◌≤◌, Bool, true, false, List, [], ◌∷◌, ◌++◌, length, take, drop, get_or, append-nil, refl, sym, ap, ◌∙◌, subst, arith, length-append, append_assoc, Ok, Option, Some}
use Rattle.std.specs.Prelude.{slice_index}
use Rattle.std.specs.Int.{from_be_bytes, to_be_bytes, w32}
use Rattle.std.proofs.lemmas.Nat.{be_bytes_4}
use Rattle.std.proofs.lemmas.Option.{same_Some}
use Rattle.amf_io.specs.declared.window.Window.{Window}
use Rattle.amf_io.specs.declared.cursor.Cursor.{Cursor}
use Rattle.amf_io.specs.Cursor.{place, unread}
use Rattle.amf_io.specs.Field.{Field, flat, AreBytes}
use Rattle.amf_io.specs.Layout.{Layout, give, bind, Runs}
use Rattle.amf_io.specs.ReadEnds.{GoesBy}
use Rattle.amf_io.specs.CursorReads.{Answers, Leads}
use Rattle.amf_io.proofs.Whole.{whole_fixed}
use Rattle.amf_io.proofs.Paths.{path_join, path_bind, flat-append}
use Rattle.amf_io.proofs.Ables.{bytes_flat}
use Rattle.amf3_layout_laws.proofs.Layout3SoundOpenings.{all_below}
use Rattle.amf0_spelling.specs.Form.{call_front}
use Rattle.amf0_layout_laws.proofs.Layout0Forms.{code0, code0_at}
use Rattle.amf0_spelling.specs.declared.marker.Marker0.{Marker0}
use Rattle.amf0_spelling.specs.declared.marker.Marker0.TheVariants as marker
use Rattle.amf0_read.specs.Markers0.{marker_layout}
use Rattle.amf0_read.specs.Leaves0.{count_layout}
use Rattle.amf0_read.specs.Beginnings0.{LeadsWith, TellsCall}
use Rattle.amf0_spelling.specs.Markers0.{marker0_at}

module _ {S : Type 0} (tells : S → Type 0) (left : S → List ℕ) (faults : S → ℕ) where
  -- what was answered leads on
  pub with_answer : {X Y Z : Type 0} (view : X → Y) (t : Layout Y) (next : Y → Layout Z) (c d : Cursor S Window) (x : X) (a : Answers tells left view t c d (Ok x)) → LeadsWith tells left (bind t next) (next (view x)) (flat a.fields) c d
  with_answer view t next c d x a = record {
    leads = record { fields = a.fields; path = path_bind t (give (view x)) next a.fields a.runs; bytes = a.bytes; taken = a.taken; within = a.within; parts = a.parts };
    are = refl;
  }

  pub with_leads : {Y : Type 0} (t u : Layout Y) (c d : Cursor S Window) (l : Leads tells left t u c d) → LeadsWith tells left t u (flat l.fields) c d
  with_leads t u c d l = record { leads = l; are = refl }

  pub with_bound : {X Y : Type 0} (t u : Layout X) (f : X → Layout Y) (b : List ℕ) (c d : Cursor S Window) → LeadsWith tells left t u b c d → LeadsWith tells left (bind t f) (bind u f) b c d
  with_bound t u f b c d w =
      let l = w.leads in
      record { leads = record { fields = l.fields; path = path_bind t u f l.fields l.path; bytes = l.bytes; taken = l.taken; within = l.within; parts = l.parts }; are = w.are }

  pub with_on : {X Y : Type 0} (t u v : Layout Y) (a b : List ℕ) (c d e : Cursor S Window) (x : X) → GoesBy tells left faults c d (Ok x) → LeadsWith tells left t u a c d → LeadsWith tells left u v b d e → LeadsWith tells left t v (a ++ b) c e
  with_on t u v a b c d e x g p q =
      let l = p.leads in
      let m = q.leads in
      let all : flat (l.fields ++ m.fields) ≡ flat l.fields ++ flat m.fields = flat-append l.fields m.fields in
      let rest = unread left e in
      record {
        leads = record {
          fields = l.fields ++ m.fields;
          path = path_join t u v l.fields m.fields l.path m.path;
          bytes = bytes_flat l.fields m.fields l.bytes m.bytes;
          taken = let y = l.taken in let z = m.taken in omega (arith, ap length all, length-append (flat l.fields) (flat m.fields));
          within = subst (λ n. place e ≤ n) g.same_bound m.within;
          parts = λ s. l.parts s ∙ ap (λ k. flat l.fields ++ k) (m.parts (g.told s)) ∙ sym (append_assoc (flat l.fields) (flat m.fields) rest) ∙ ap (λ k. k ++ rest) (sym all);
        };
        are = all ∙ ap (λ k. k ++ flat m.fields) p.are ∙ ap (λ k. a ++ k) q.are;
      }

  -- what was read first, and then the rest
  pub with_done : {X Z Y : Type 0} (view : Z → Y) (t u : Layout Y) (b : List ℕ) (c d e : Cursor S Window) (x : X) (z : Z) → GoesBy tells left faults c d (Ok x) → LeadsWith tells left t u b c d → Answers tells left view u d e (Ok z)
      → (a : Answers tells left view t c e (Ok z)) × (more : List ℕ) × (flat a.fields ≡ b ++ more)
  with_done view t u b c d e x z g w m =
      let y = with_on t u (give (view z)) b (flat m.fields) c d e x g w (record { leads = record { fields = m.fields; path = m.runs; bytes = m.bytes; taken = m.taken; within = m.within; parts = m.parts }; are = refl }) in
      let l = y.leads in
      (record { fields = l.fields; runs = l.path; bytes = l.bytes; taken = l.taken; within = l.within; parts = l.parts }, flat m.fields, y.are)

-- The bytes of a marker, and of a count.

one_byte : (b : List ℕ) → length b ≡ 1 → b ++ [] ≡ slice_index b 0 ∷ []
one_byte [] e = absurd (omega arith)
one_byte (x ∷ []) e = refl
one_byte (x ∷ y ∷ b) e = absurd (omega arith)

give_same : {X : Type 0} (x y : X) → give x ≡ give y → x ≡ y
give_same x y e = cc

record MarkerByte (fs : List Field) (f : Option Marker0) : Type 0 where
  byte : ℕ
  are : flat fs ≡ byte ∷ []
  is : marker0_at byte ≡ f
  code : code0 f ≡ byte

marker_byte : (may_end : Bool) (n : ℕ) (fs : List Field) (f : Option Marker0) → Runs (marker_layout may_end n) fs f → MarkerByte fs f
marker_byte may_end n [] f r = absurd cc
marker_byte may_end n (g ∷ h ∷ fs) f r = absurd r.1
marker_byte may_end n (g ∷ []) f r =
    let long : length g.bytes ≡ 1 = sym (whole_fixed 1 g.bytes (length g.bytes) r.0.is_whole) in
    let x = slice_index g.bytes 0 in
    let is : marker0_at x ≡ f = give_same (marker0_at x) f r.1 in
    record { byte = x; are = one_byte g.bytes long; is = is; code = ap code0 (sym is) ∙ code0_at may_end n x r.0.clean }

count_whole : (fs : List Field) (k : ℕ) → Runs count_layout fs k → (length (flat fs) ≡ 4) × (k ≡ from_be_bytes w32 (flat fs))
count_whole [] k r = absurd cc
count_whole (g ∷ h ∷ fs) k r = absurd r.1
count_whole (g ∷ []) k r =
    let e : flat (g ∷ []) ≡ g.bytes = append-nil g.bytes in
    (ap length e ∙ sym (whole_fixed 4 g.bytes (length g.bytes) r.0.is_whole), sym (give_same (from_be_bytes w32 g.bytes) k r.1) ∙ ap (from_be_bytes w32) (sym e))

count_bytes : (fs : List Field) (k : ℕ) → AreBytes (flat fs) → Runs count_layout fs k → flat fs ≡ to_be_bytes w32 k
count_bytes fs k b r = let w = count_whole fs k r in sym (be_bytes_4 (flat fs) k w.0 (all_below (flat fs) b) w.1)

-- What they tell.

heads_same : (x y : ℕ) (a b : List ℕ) → x ∷ a ≡ y ∷ b → x ≡ y
heads_same x y a b e = cc

-- another marker than that of an array with items
pub other_call : (may_end : Bool) (n : ℕ) (m : Marker0) (fs : List Field) (b : List ℕ) → Runs (marker_layout may_end n) fs (Some m) → (m ≡ marker.Strict → ⊥) → TellsCall false (flat fs ++ b)
other_call may_end n m fs b r other = λ more e.
    let k = marker_byte may_end n fs (Some m) r in
    let first : k.byte ∷ take 5 (b ++ more) ≡ call_front = ap (λ l. take 6 ((l ++ b) ++ more)) (sym k.are) ∙ e in
    let same : k.byte ≡ 0x0A = heads_same k.byte 0x0A (take 5 (b ++ more)) _ first in
    other (same_Some m marker.Strict (sym k.is ∙ ap marker0_at same))

-- an array whose items are not one
pub count_call : (fs : List Field) (k : ℕ) (b : List ℕ) → Runs count_layout fs k → (k ≡ 1 → ⊥) → TellsCall false ((0x0A ∷ []) ++ (flat fs ++ b))
count_call fs k b r other = λ more e. let w = count_whole fs k r in other (w.1 ∙ by (flat fs) w.0 (b ++ more) (ap (λ l. take 6 (0x0A ∷ l)) (sym (append_assoc (flat fs) b more)) ∙ e))
  where
    by : (x : List ℕ) → length x ≡ 4 → (y : List ℕ) → take 6 (0x0A ∷ (x ++ y)) ≡ call_front → from_be_bytes w32 x ≡ 1
    by [] l y e = absurd (omega arith)
    by (p ∷ []) l y e = absurd (omega arith)
    by (p ∷ q ∷ []) l y e = absurd (omega arith)
    by (p ∷ q ∷ r ∷ []) l y e = absurd (omega arith)
    by (p ∷ q ∷ r ∷ s ∷ t ∷ x) l y e = absurd (omega arith)
    by (p ∷ q ∷ r ∷ s ∷ []) l y e =
        let same : p ∷ q ∷ r ∷ s ∷ [] ≡ 0 ∷ 0 ∷ 0 ∷ 1 ∷ [] = ap (λ l. take 4 (drop 1 l)) e in
        ap (from_be_bytes w32) same

-- an array of one item, by the marker of that
one_front : (fs gs : List Field) (x : ℕ) (more : List ℕ) → AreBytes (flat fs) → Runs count_layout fs 1 → flat gs ≡ x ∷ [] → take 6 (((0x0A ∷ []) ++ (flat fs ++ flat gs)) ++ more) ≡ 0x0A ∷ 0 ∷ 0 ∷ 0 ∷ 1 ∷ x ∷ []
one_front fs gs x more b r e = ap (λ l. take 6 (((0x0A ∷ []) ++ (l ++ flat gs)) ++ more)) (count_bytes fs 1 b r) ∙ ap (λ l. take 6 (((0x0A ∷ []) ++ ((0 ∷ 0 ∷ 0 ∷ 1 ∷ []) ++ l)) ++ more)) e

pub item_call : (n : ℕ) (m : Marker0) (fs gs : List Field) → AreBytes (flat fs) → Runs count_layout fs 1 → Runs (marker_layout false n) gs (Some m) → (is_call : Bool) → (is_call ≡ true → m ≡ marker.Switch) → (is_call ≡ false → m ≡ marker.Switch → ⊥) → TellsCall is_call ((0x0A ∷ []) ++ (flat fs ++ flat gs))
item_call n m fs gs b r q true so not_so = λ more.
    let k = marker_byte false n gs (Some m) q in
    one_front fs gs k.byte more b r k.are ∙ ap (λ x. 0x0A ∷ 0 ∷ 0 ∷ 0 ∷ 1 ∷ x ∷ []) (sym k.code ∙ ap (λ y. code0 (Some y)) (so refl))
item_call n m fs gs b r q false so not_so = λ more e.
    let k = marker_byte false n gs (Some m) q in
    let last : k.byte ≡ 0x11 = ap (λ l. get_or l 5 0) (sym (one_front fs gs k.byte more b r k.are) ∙ e) in
    not_so refl (same_Some m marker.Switch (sym k.is ∙ ap marker0_at last))

-- the marker of an array with items
pub strict_byte : (may_end : Bool) (n : ℕ) (m : Marker0) (fs : List Field) → Runs (marker_layout may_end n) fs (Some m) → m ≡ marker.Strict → flat fs ≡ 0x0A ∷ []
strict_byte may_end n m fs r e = let k = marker_byte may_end n fs (Some m) r in k.are ∙ ap (λ x. x ∷ []) (sym k.code ∙ ap (λ y. code0 (Some y)) e)
