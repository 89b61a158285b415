-- Bytes have one cut into the fields of a layout.
use Rattle.std.proofs.Common.{◌≡◌, ℕ, ◌+◌, List, [], ◌∷◌, ◌++◌, length, take, drop, Some, refl, sym, ap, ◌∙◌, arith, subst, append_assoc}
use Rattle.std.proofs.lemmas.List.{take_at, drop_at}
use Rattle.amf_io.specs.Field.{Field, field, Kind, flat, whole}
use Rattle.amf_io.specs.Layout.{Layout, give, want, stuck, Takes, Runs, IsLayout}
use Rattle.amf_io.proofs.Whole.{whole_more}
use Rattle.amf3_layout_laws.specs.VerdictLaws3.{HasOneCut}

-- two fields of one kind at the front of the same bytes are one
same_field : (kind : Kind) (f g : Field) (rest more : List ℕ) → Takes kind f → Takes kind g → f.bytes ++ rest ≡ g.bytes ++ more → (f ≡ g) × (rest ≡ more)
same_field kind f g rest more t u e =
    let one = whole_more kind.size f.bytes rest (length f.bytes) t.is_whole in
    let two = whole_more kind.size g.bytes more (length g.bytes) u.is_whole in
    let both : Some (length f.bytes) ≡ Some (length g.bytes) = sym one ∙ ap (whole kind.size) e ∙ two in
    let n : length f.bytes ≡ length g.bytes = cc in
    let bytes : f.bytes ≡ g.bytes = sym (take_at f.bytes rest (length g.bytes) n) ∙ ap (take (length g.bytes)) e ∙ take_at g.bytes more (length g.bytes) refl in (
      ap (λ k. field k f.bytes) (t.is_kind ∙ sym u.is_kind) ∙ ap (field g.kind) bytes,
      sym (drop_at f.bytes rest (length g.bytes) n) ∙ ap (drop (length g.bytes)) e ∙ drop_at g.bytes more (length g.bytes) refl,
    )

-- a layout that gives a value wants no field
no_field : {X : Type 0} (t : Layout X) (x y : X) (f : Field) (fs : List Field) → Runs t [] x → Runs t (f ∷ fs) y → ⊥
no_field (give z) x y f fs p q = absurd q
no_field (want kind next) x y f fs p q = absurd cc
no_field stuck x y f fs p q = absurd q

pub same_fields : {X : Type 0} (t : Layout X) (fs gs : List Field) (x y : X) (rest more : List ℕ) → Runs t fs x → Runs t gs y → flat fs ++ rest ≡ flat gs ++ more → fs ≡ gs
same_fields t [] [] x y rest more p q e = refl
same_fields t [] (g ∷ gs) x y rest more p q e = absurd (no_field t x y g gs p q)
same_fields t (f ∷ fs) [] x y rest more p q e = absurd (no_field t y x f fs q p)
same_fields (give z) (f ∷ fs) (g ∷ gs) x y rest more p q e = absurd p
same_fields (want kind next) (f ∷ fs) (g ∷ gs) x y rest more p q e =
    let s = same_field kind f g (flat fs ++ rest) (flat gs ++ more) p.0 q.0 (sym (append_assoc f.bytes (flat fs) rest) ∙ e ∙ append_assoc g.bytes (flat gs) more) in
    ap (λ h. h ∷ fs) s.0 ∙ ap (λ hs. g ∷ hs) (same_fields (next g.bytes) fs gs x y rest more (subst (λ h. Runs (next h.bytes) fs x) s.0 p.1) q.1 s.1)
same_fields stuck (f ∷ fs) (g ∷ gs) x y rest more p q e = absurd p

module _ {X : Type 0} (t : ℕ → Layout X) (P : List Field → Type 0) (g : IsLayout t P) where
  front : (fs gs : List Field) (rest more : List ℕ) → P fs → P gs → flat fs ++ rest ≡ flat gs ++ more → fs ≡ gs
  front fs gs rest more p q e =
      let m = length (flat fs) + length (flat gs) + 1 in
      let x = g.complete m fs p (omega arith) in
      let y = g.complete m gs q (omega arith) in
      same_fields (t m) fs gs x.0 y.0 rest more x.1 y.1 e

  pub has_one_cut : HasOneCut P
  has_one_cut = record { same = λ fs gs p q e. front fs gs [] [] p q (ap (λ b. b ++ []) e); front = front }
