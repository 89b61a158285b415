-- Names that are read, by what was read as a text.
use Rattle.std.proofs.Common.{◌≡◌, ℕ, ◌/◌, ◌%◌, ◌<◌, Bool, true, false, eqb, List, [], ◌∷◌, length, take, slice_index, Option, Some, None, sym, ap, cond, refl, subst, arith, Ok}
use Rattle.std.proofs.lemmas.Bool.{eqb-true}
use Rattle.std.specs.Bool.{OnTrue}
use Rattle.amf_wire.specs.U29.{u29_value, one}
use Rattle.amf_wire.specs.U29Answer.{IsWholeU29}
use Rattle.amf_io.specs.declared.window.Window.{Window}
use Rattle.amf_io.specs.declared.cursor.Cursor.{Cursor}
use Rattle.amf_io.specs.declared.ends.ReadEnd.{ReadEnd}
use Rattle.amf_io.specs.Field.{u29, text_kind}
use Rattle.amf_io.specs.Layout.{give}
use Rattle.amf_io.specs.ReadEnds.{IsPlaced, GoesBy}
use Rattle.amf_io.specs.CursorReads.{Answers, AnswersField, Ends}
use Rattle.amf_io.proofs.CursorReads.{gives, end_reads, leads_answers, leads_behind}
use Rattle.amf_graph.specs.declared.value.TextId.{TextId}
use Rattle.amf_graph.specs.Arena.{Arena, text_at}
use Rattle.amf3_spelling.specs.KeptTables.{KeptTables}
use Rattle.amf3_spelling.specs.Refusals3.{text_header_refusal}
use Rattle.amf3_layout_laws.specs.Layout3State.{State3, state_of}
use Rattle.amf3_layout_laws.specs.Layout3Words.{TextRead, chunk, new_text, text_layout}
use Rattle.amf3_layout_laws.specs.Layout3.{is_empty}
use Rattle.amf_wire_fields.proofs.Ahead.{Passed, passed_goes, passed_placed, passed_field, number_bytes}
use Rattle.amf3_read.specs.Ready.{text_read}
use Rattle.amf3_read.specs.Names.{no_name, some_name, name_of, name_layout, name_read}
use Rattle.amf3_read.proofs.TextReads.{new_header, new_text_reads}

pub is_named : (s : State3) (a : Arena) (t : KeptTables) (x : TextId) → is_empty (text_at a x.0) ≡ false → name_of s (text_read a t x) ≡ name_read a t (Some x)
is_named s a t x e = ap (λ b. cond b (no_name s) (some_name (text_read a t x))) e

-- an empty text of the table
pub is_unnamed : (a : Arena) (t : KeptTables) (x : TextId) → is_empty (text_at a x.0) ≡ true → name_of (state_of a t) (text_read a t x) ≡ name_read a t None
is_unnamed a t x e = ap (λ b. cond b (no_name (state_of a t)) (some_name (text_read a t x))) e

pub some_bytes : (x : List ℕ) → 0 < length x → is_empty x ≡ false
some_bytes [] lt = absurd (omega arith)
some_bytes (b ∷ x) lt = refl

module _ {S : Type 0} (tells : S → Type 0) (left : S → List ℕ) (faults : S → ℕ) (s : State3) where
  pub name_ends : (c d : Cursor S Window) (e : ReadEnd) → Ends tells left (text_layout s) c d e → Ends tells left (name_layout s) c d e
  name_ends c d e h = end_reads tells left faults (text_layout s) (λ x. give (name_of s x)) c d e h

  pub name_answers : {X : Type 0} (view : X → TextRead) (a : Arena) (t : KeptTables) (c d : Cursor S Window) (x : X) (name : Option TextId) → name_of s (view x) ≡ name_read a t name → Answers tells left view (text_layout s) c d (Ok x) → Answers tells left (λ n. name_read a t n) (name_layout s) c d (Ok name)
  name_answers view a t c d x name e h = leads_answers tells left faults (λ n. name_read a t n) (name_layout s) (name_of s (view x)) c d name e (leads_behind tells left faults view (text_layout s) (λ y. give (name_of s y)) c d x h)

  -- a header that names no bytes
  pub empty_reads : (c d : Cursor S Window) (b : List ℕ) (h : ℕ) → GoesBy {X = List ℕ} tells left faults c d (Ok b) → AnswersField {X = List ℕ} tells left (λ x. x) u29 c d (Ok b) → IsPlaced d → h ≡ u29_value b → h % 2 ≡ 1 → h / 2 ≡ 0
      → Answers tells left (λ (k : ℕ). new_text s []) (text_layout s) c d (Ok h)
  empty_reads c d b h g f p is odd none =
      let view = λ (k : ℕ). new_text s [] in
      let half : 0 ≡ h / 2 = omega arith in
      new_text_reads tells left faults view (text_header_refusal (length s.words.texts)) text_kind s c d d b h (Ok h) g f is (new_header (length s.words.texts) h odd) odd
      (subst (λ n. Answers tells left view (chunk text_kind n (λ x. give (new_text s x))) d d (Ok h)) half (gives tells left faults view d h (new_text s []) p refl))

-- The empty name that was ahead.

pub empty_front : (t : Bool) (bytes : List ℕ) → eqb (length bytes) 0 ≡ false → t ≡ eqb (slice_index bytes 0) 1 → OnTrue t (IsWholeU29 bytes 1 1)
empty_front false bytes some e = tt
empty_front true [] some e = absurd cc
empty_front true (b ∷ bytes) some e = subst (λ x. IsWholeU29 (x ∷ bytes) 1 1) (sym (eqb-true b 1 (sym e))) (record { there = omega arith; spelled = one 1 (omega arith) refl refl; ends = refl; is_value = refl })

pub empty_passed : {S : Type 0} (tells : S → Type 0) (left : S → List ℕ) (faults : S → ℕ) (a : Arena) (t : KeptTables) (c d : Cursor S Window) (bytes : List ℕ) → Passed left c d bytes 1 → IsWholeU29 bytes 1 1
    → Answers tells left (λ n. name_read a t n) (name_layout (state_of a t)) c d (Ok None)
empty_passed tells left faults a t c d bytes p w =
    let s : State3 = state_of a t in
    name_answers tells left faults s (λ (k : ℕ). new_text s []) a t c d 1 None refl
    (empty_reads tells left faults s c d (take 1 bytes) 1 (passed_goes tells left faults c d bytes 1 p (take 1 bytes)) (passed_field tells left faults c d bytes 1 p u29 w.ends (number_bytes 1 (take 1 bytes) w.spelled))
    (passed_placed tells left faults c d bytes 1 p) (sym w.is_value) refl refl)
