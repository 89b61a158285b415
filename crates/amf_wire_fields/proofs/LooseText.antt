-- Texts that enter no table: room for them, and those that are ahead of a cursor.
use Rattle.std.proofs.Common.{◌≡◌, ℕ, ◌≤◌, ◌<◌, ◌^◌, ◌⊎◌, inl, inr, Bool, true, false, cond, List, length, Some, None, sym, ap, ◌∙◌, subst, arith, take, Result, Ok, Err, IfOk, IfErr, OnOk}
use Rattle.std.proofs.lemmas.Result.{IfOk-at_ok}
use Rattle.std.specs.Bool.{OnTrue}
use Rattle.amf_wire.specs.Text.{IsText, is_text as is_text_now}
use Rattle.amf_wire.proofs.TextTest.{is_text-is}
use Rattle.amf_io.specs.declared.window.Window.{Window}
use Rattle.amf_io.specs.declared.cursor.Cursor.{Cursor}
use Rattle.amf_io.specs.declared.reason.Reason.TheVariants.{BadText}
use Rattle.amf_io.specs.declared.ends.ReadEnd.{ReadEnd}
use Rattle.amf_io.specs.declared.ends.ReadEnd.TheVariants.{Memory}
use Rattle.amf_io.specs.Field.{text_kind, AreBytes}
use Rattle.amf_io.specs.Layout.{give}
use Rattle.amf_io.specs.CursorReads.{Answers, Ends}
use Rattle.amf_graph.specs.declared.value.TextId.{TextId}
use Rattle.amf_graph.specs.declared.build_end.BuildEnd.{BuildEnd}
use Rattle.amf_graph.specs.Arena.{Arena, text_at}
use Rattle.amf_graph.specs.Building.{kept_text}
use Rattle.amf3_layout_laws.specs.Layout3Words.{chunk}
use Rattle.amf3_layout_laws.proofs.Reader3Tables.{new_text_there as there_now}
use Rattle.amf_wire_fields.specs.declared.contents.Contents.TheVariants.{Text}
use Rattle.amf_wire_fields.specs.FieldSize.{BeginsWithText}
use Rattle.amf_wire_fields.specs.KeptText.{KeptText}
use Rattle.amf_wire_fields.proofs.Ahead.{Passed}
use Rattle.amf_wire_fields.proofs.Chunks.{chunk_ahead}

-- there is room for one more text
pub room_for_text : (n m : ℕ) → n < 2 ^ 27 → m < 2 ^ 28 → (268435455 ≤ n) ⊎ (268435455 < m) → ⊥
room_for_text n m a b (inl h) = omega arith
room_for_text n m a b (inr h) = omega arith

-- A text that was ahead.

pub begins_text : (b : Bool) (bytes : List ℕ) (n : ℕ) → n ≤ length bytes → AreBytes bytes → b ≡ is_text_now (take n bytes) → OnTrue b (BeginsWithText bytes n)
begins_text true bytes n le h e = record { there = le; are_bytes = h; passes = sym e }
begins_text false bytes n le h e = tt

pub slice_text : (n : ℕ) (bytes : List ℕ) → BeginsWithText bytes n → IsText (take n bytes)
slice_text n bytes t = (is_text-is (take n bytes)).0 t.passes

-- where there was memory it is kept
module _ (answer : Result TextId BuildEnd) (a z : Arena) (bytes : List ℕ) (id : IfOk answer (λ x. x.0 ≡ length a.texts)) (ok : OnOk answer (z ≡ kept_text a bytes)) where
  place_is : (x : TextId) → answer ≡ Ok x → x.0 ≡ length a.texts
  place_is x h = IfOk-at_ok (λ (t : TextId). t.0 ≡ length a.texts) h id

  arena_is : (x : TextId) → answer ≡ Ok x → z ≡ kept_text a bytes
  arena_is x h = IfOk-at_ok (λ (t : TextId). z ≡ kept_text a bytes) h ok

  text_is : (x : TextId) → answer ≡ Ok x → text_at z x.0 ≡ bytes
  text_is x h = ap (λ y. text_at y x.0) (arena_is x h) ∙ ap (text_at (kept_text a bytes)) (place_is x h) ∙ there_now a bytes

  pub kept_there : (r : Result TextId ReadEnd) → IfOk r (λ x. answer ≡ Ok x) → IfOk r (λ x. text_at z x.0 ≡ bytes)
  kept_there (Err e) h = tt
  kept_there (Ok x) h = text_is x h

  pub kept_as : (r : Result TextId ReadEnd) → IfOk r (λ x. answer ≡ Ok x) → IfOk r (λ x. KeptText a z x.0)
  kept_as (Err e) h = tt
  kept_as (Ok x) h = record { place = place_is x h; kept = arena_is x h ∙ ap (kept_text a) (sym (text_is x h)) }

pub text_ahead : {S : Type 0} (tells : S → Type 0) (left : S → List ℕ) (n : ℕ) (c d : Cursor S Window) (bytes : List ℕ) (z : Arena) → Passed left c d bytes n → BeginsWithText bytes n
    → (r : Result TextId ReadEnd) → IfOk r (λ x. text_at z x.0 ≡ take n bytes) → IfErr r (λ e. e ≡ Memory) → Answers tells left (λ (x : TextId). text_at z x.0) (chunk text_kind n (λ x. give x)) c d r
text_ahead tells left n c d bytes z p t (Ok x) e m =
    subst (λ b. Answers {X = List ℕ} tells left (λ y. y) (chunk text_kind n (λ y. give y)) c d (Ok b)) (sym e) (chunk_ahead tells left Text n c d bytes p t.are_bytes (ap (λ b. cond b None (Some BadText)) t.passes))
text_ahead tells left n c d bytes z p t (Err e) h m = subst (λ x. Ends tells left (chunk text_kind n (λ y. give y)) c d x) (sym m) tt
