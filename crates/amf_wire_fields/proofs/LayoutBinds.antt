-- Layouts one after the other, as equal layouts.
use Rattle.std.proofs.Common.{◌≡◌, ℕ, zero, suc, List, refl, sym, ap, subst, Result, Ok, Err}
use Rattle.std.specs.Result.{IsErrAnd}
use mathlib.Core.Path.{fun_ext}
use Rattle.amf_io.specs.declared.window.Window.{Window}
use Rattle.amf_io.specs.declared.cursor.Cursor.{Cursor}
use Rattle.amf_io.specs.declared.ends.ReadEnd.{ReadEnd}
use Rattle.amf_io.specs.Field.{Kind}
use Rattle.amf_io.specs.Layout.{Layout, give, want, stuck, bind}
use Rattle.amf_io.specs.ReadEnds.{IsPlaced, GoesBy}
use Rattle.amf_io.specs.CursorReads.{Answers, Ends}
use Rattle.amf_io.proofs.CursorReads.{gives, then_reads, end_reads}
use Rattle.amf3_layout_laws.specs.Layout3Words.{chunk}

pub bind_give : {X : Type 0} (t : Layout X) → bind t (λ x. give x) ≡ t
bind_give (give x) = refl
bind_give (want kind next) = ap (want kind) (fun_ext λ b. bind_give (next b))
bind_give stuck = refl

pub bind_bind : {X Y Z : Type 0} (t : Layout X) (f : X → Layout Y) (g : Y → Layout Z) → bind (bind t f) g ≡ bind t (λ x. bind (f x) g)
bind_bind (give x) f g = refl
bind_bind (want kind next) f g = ap (want kind) (fun_ext λ b. bind_bind (next b) f g)
bind_bind stuck f g = refl

pub bind_same : {X Y : Type 0} (t : Layout X) (f g : X → Layout Y) → ((x : X) → f x ≡ g x) → bind t f ≡ bind t g
bind_same t f g h = ap (bind t) (fun_ext h)

-- so many bytes, and what is made of them
pub bind_chunk : {X : Type 0} (kind : ℕ → Kind) (size : ℕ) (f : List ℕ → X) → bind (chunk kind size (λ b. give b)) (λ b. give (f b)) ≡ chunk kind size (λ b. give (f b))
bind_chunk kind zero f = refl
bind_chunk kind (suc n) f = refl

module _ {S : Type 0} (tells : S → Type 0) (left : S → List ℕ) (faults : S → ℕ) where
  -- an error that is passed on
  pub passed_on : {X Y : Type 0} (view : X → Y) (t : Layout Y) (c d : Cursor S Window) (r : Result X ReadEnd) (e : ReadEnd) → IsErrAnd r (λ x. x ≡ e) → Ends tells left t c d e → Answers tells left view t c d r
  passed_on view t c d (Ok x) e h a = absurd h
  passed_on view t c d (Err x) e h a = subst (Ends tells left t c d) (sym h) a

  pub chunk_reads : {X Z W : Type 0} (seen : X → List ℕ) (other : Z → W) (kind : ℕ → Kind) (size : ℕ) (f : List ℕ → W) (c d : Cursor S Window) (x : X) (z : Z)
      → GoesBy tells left faults c d (Ok x) → Answers tells left seen (chunk kind size (λ b. give b)) c d (Ok x) → IsPlaced d → other z ≡ f (seen x) → Answers tells left other (chunk kind size (λ b. give (f b))) c d (Ok z)
  chunk_reads seen other kind size f c d x z g a p e =
      subst (λ t. Answers tells left other t c d (Ok z)) (bind_chunk kind size f)
      (then_reads tells left faults seen other (chunk kind size (λ b. give b)) (λ b. give (f b)) c d d x (Ok z) g a (gives tells left faults other d z (f (seen x)) p e))

  pub chunk_ends : {W : Type 0} (kind : ℕ → Kind) (size : ℕ) (f : List ℕ → W) (c d : Cursor S Window) (e : ReadEnd) → Ends tells left (chunk kind size (λ b. give b)) c d e → Ends tells left (chunk kind size (λ b. give (f b))) c d e
  chunk_ends kind size f c d e a = subst (λ t. Ends tells left t c d e) (bind_chunk kind size f) (end_reads tells left faults (chunk kind size (λ b. give b)) (λ b. give (f b)) c d e a)
