-- An empty text, and an end that is passed on.
use Rattle.std.proofs.Common.{◌≡◌, ℕ, suc, false, Bool, List, [], ◌∷◌, length, eqb, sym, ap, ◌∙◌, arith, subst, Result, Ok, Err}
use Rattle.std.specs.Result.{IsErrAnd}
use Rattle.amf_io.specs.declared.window.Window.{Window}
use Rattle.amf_io.specs.declared.cursor.Cursor.{Cursor}
use Rattle.amf_io.specs.declared.ends.ReadEnd.{ReadEnd}
use Rattle.amf_io.specs.Layout.{Layout}
use Rattle.amf_io.specs.CursorReads.{Ends}
use Rattle.amf3_layout_laws.specs.Layout3State.{State3}
use Rattle.amf3_layout_laws.specs.Layout3.{ValueRead, is_empty}
use Rattle.amf3_read.specs.declared.opening.Parts.{Parts}
use Rattle.amf3_read.specs.declared.fill.Step.{Step}
use Rattle.amf3_read.specs.declared.node.Start.{Start}
use Rattle.amf3_read.specs.Frames.{todo, GoesOn, StartsBy}

pub tells_empty : (x y : List ℕ) (t : Bool) → x ≡ y → eqb (length y) 0 ≡ t → is_empty x ≡ t
tells_empty x y t e h = by x (ap (λ l. eqb (length l) 0) e ∙ h)
  where
    no_zero : (n : ℕ) → eqb (suc n) 0 ≡ false
    no_zero n = grind arith

    by : (l : List ℕ) → eqb (length l) 0 ≡ t → is_empty l ≡ t
    by [] k = k
    by (z ∷ l) k = sym (no_zero (length l)) ∙ k

pub ended_step : {S : Type 0} (tells : S → Type 0) (left : S → List ℕ) (v : State3 → Layout ValueRead) (m i : ℕ) (p : Parts) (s z : State3) (c d : Cursor S Window) (r : Result Step ReadEnd) (e : ReadEnd) → IsErrAnd r (λ x. x ≡ e) → Ends tells left (todo v m i p s) c d e → GoesOn tells left v m i p s z c d r
ended_step tells left v m i p s z c d (Ok x) e h a = absurd h
ended_step tells left v m i p s z c d (Err x) e h a = subst (Ends tells left (todo v m i p s) c d) (sym h) a

pub ended_start : {S : Type 0} (tells : S → Type 0) (left : S → List ℕ) (v : State3 → Layout ValueRead) (m : ℕ) (t : Layout ValueRead) (z : State3) (c d : Cursor S Window) (r : Result Start ReadEnd) (e : ReadEnd) → IsErrAnd r (λ x. x ≡ e) → Ends tells left t c d e → StartsBy tells left v m t z c d r
ended_start tells left v m t z c d (Ok x) e h a = absurd h
ended_start tells left v m t z c d (Err x) e h a = subst (Ends tells left t c d) (sym h) a
