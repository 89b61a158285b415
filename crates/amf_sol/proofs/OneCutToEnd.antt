-- Bytes have one cut into the fields of a format that repeats a step up to the end of the input.
use Rattle.std.proofs.Common.{◌≡◌, ℕ, zero, suc, ◌+◌, List, [], ◌∷◌, ◌++◌, length, take, drop, Some, None, refl, sym, ap, ◌∙◌, arith, subst}
use Rattle.std.proofs.lemmas.List.{take_at, drop_at}
use Rattle.amf_io.specs.Field.{Field, field, Kind, flat, whole}
use Rattle.amf_io.specs.Layout.{Layout, give, want, stuck, bind, Takes, Runs}
use Rattle.amf_io.specs.Repeated.{steps, after_head, IsRepeated, AnyNumber}
use Rattle.amf_io.proofs.RepeatedVerdicts.{none_whole}
use Rattle.amf_io.proofs.Whole.{whole_more}

-- two fields of one kind at the front of the same bytes are one
same_field : (kind : Kind) (f g : Field) (rest more : List ℕ) → Takes kind f → Takes kind g → f.bytes ++ rest ≡ g.bytes ++ more → (f ≡ g) × (rest ≡ more)
same_field kind f g rest more t u e =
    let one = whole_more kind.size f.bytes rest (length f.bytes) t.is_whole in
    let two = whole_more kind.size g.bytes more (length g.bytes) u.is_whole in
    let both : Some (length f.bytes) ≡ Some (length g.bytes) = sym one ∙ ap (whole kind.size) e ∙ two in
    let n : length f.bytes ≡ length g.bytes = cc in
    let bytes : f.bytes ≡ g.bytes = sym (take_at f.bytes rest (length g.bytes) n) ∙ ap (take (length g.bytes)) e ∙ take_at g.bytes more (length g.bytes) refl in (
      ap (λ k. field k f.bytes) (t.is_kind ∙ sym u.is_kind) ∙ ap (field g.kind) bytes,
      sym (drop_at f.bytes rest (length g.bytes) n) ∙ ap (drop (length g.bytes)) e ∙ drop_at g.bytes more (length g.bytes) refl,
    )

none_is_some : (n : ℕ) → None ≡ Some n → ⊥
none_is_some n e = cc

-- no field is empty
some_bytes : (kind : Kind) (b more : List ℕ) → whole kind.size b ≡ Some (length b) → [] ≡ b ++ more → ⊥
some_bytes kind [] more w e = none_is_some 0 (sym (none_whole kind) ∙ w)
some_bytes kind (x ∷ b) more w e = cc

no_bytes : {X : Type 0} (t : Layout X) (f : Field) (fs : List Field) (y : X) → Runs t (f ∷ fs) y → [] ≡ flat (f ∷ fs) → ⊥
no_bytes (give x) f fs y r e = absurd r
no_bytes (want kind next) f fs y r e = some_bytes kind f.bytes (flat fs) r.0.is_whole e
no_bytes stuck f fs y r e = absurd r

none_read : {X : Type 0} (t : Layout X) (fs : List Field) (y : X) → Runs t fs y → [] ≡ flat fs → [] ≡ fs
none_read t [] y r e = refl
none_read t (f ∷ fs) y r e = absurd (no_bytes t f fs y r e)

module _ {X Y : Type 0} (p q : X → Layout Y) (then_same : (u : X) (fs gs : List Field) (x y : Y) → Runs (p u) fs x → Runs (q u) gs y → flat fs ≡ flat gs → fs ≡ gs) where
  -- the same layout first
  same_then : (t : Layout X) (fs gs : List Field) (x y : Y) → Runs (bind t p) fs x → Runs (bind t q) gs y → flat fs ≡ flat gs → fs ≡ gs
  same_then (give u) fs gs x y r s e = then_same u fs gs x y r s e
  same_then (want kind next) [] gs x y r s e = absurd cc
  same_then (want kind next) (f ∷ fs) [] x y r s e = absurd cc
  same_then (want kind next) (f ∷ fs) (g ∷ gs) x y r s e =
      let one = same_field kind f g (flat fs) (flat gs) r.0 s.0 e in
      ap (λ h. h ∷ fs) one.0 ∙ ap (λ hs. g ∷ hs) (same_then (next g.bytes) fs gs x y (subst (λ h. Runs (bind (next h.bytes) p) fs x) one.0 r.1) s.1 one.1)
  same_then stuck [] gs x y r s e = absurd cc
  same_then stuck (f ∷ fs) gs x y r s e = absurd r

module _ {S : Type 0} (step : S → Layout S) where
  same_steps : (m k : ℕ) (s : S) (fs gs : List Field) (x y : S) → Runs (steps step m s) fs x → Runs (steps step k s) gs y → flat fs ≡ flat gs → fs ≡ gs
  same_steps zero k s [] gs x y r q e = none_read (steps step k s) gs y q e
  same_steps zero k s (f ∷ fs) gs x y r q e = absurd r
  same_steps (suc m) zero s fs [] x y r q e = sym (none_read (steps step (suc m) s) fs x r (sym e))
  same_steps (suc m) zero s fs (g ∷ gs) x y r q e = absurd q
  same_steps (suc m) (suc k) s fs gs x y r q e = same_then (λ u. steps step m u) (λ u. steps step k u) (λ u cs ds x y r q e. same_steps m k u cs ds x y r q e) (step s) fs gs x y r q e

  same_after : (head : Layout S) (m k : ℕ) (fs gs : List Field) (x y : S) → Runs (after_head head step m) fs x → Runs (after_head head step k) gs y → flat fs ≡ flat gs → fs ≡ gs
  same_after head m k fs gs x y r q e = same_then (λ u. steps step m u) (λ u. steps step k u) (λ u cs ds x y r q e. same_steps m k u cs ds x y r q e) head fs gs x y r q e

pub one_cut_to_end : {S : Type 0} (head : ℕ → Layout S) (step : ℕ → S → Layout S) (counted : ℕ → List Field → Type 0) → IsRepeated head step counted → (fs gs : List Field) → AnyNumber counted fs → AnyNumber counted gs → flat fs ≡ flat gs → fs ≡ gs
one_cut_to_end head step counted r fs gs (m, p) (k, q) e =
    let n = length (flat fs) + length (flat gs) + 1 in
    let x = (r.layouts m).complete n fs p (omega arith) in
    let y = (r.layouts k).complete n gs q (omega arith) in
    same_after (step n) (head n) m k fs gs x.0 y.0 x.1 y.1 e
