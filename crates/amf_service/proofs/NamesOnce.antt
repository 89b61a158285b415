-- Names that stand in a list, none twice, and the first that repeats.
use Rattle.std.proofs.Common.{◌≡◌, ◌≢◌, ℕ, zero, suc, ◌+◌, ◌<◌, ◌⊎◌, Bool, true, false, cond, List, [], ◌∷◌, ◌++◌, length, map, slice_get, Option, Some, None, refl, sym, ap, ◌∙◌, subst, arith, inl, inr}
use Rattle.std.specs.Prelude.{bytes_eq, is_some}
use Rattle.std.specs.Map.{lookup}
use Rattle.std.proofs.lemmas.Option.{same_Some, slice_get_within}
use Rattle.std.proofs.lemmas.List.{map-append}
use Rattle.std.specs.Cmp.Lexicographic.{bytes_decides}
use Rattle.amf_graph.proofs.Lists.{at_left, at_push}
use Rattle.amf_service.specs.Registry.{AreDistinct, IsFirstRepeated}

module _ {K B : Type 0} (name : K → List ℕ) where
  abbrev pub names_of : List (K × B) → List (List ℕ)
  names_of es = map (λ e. name e.0) es

  module _ (test : K → Bool) (x : List ℕ) (same : (k : K) → test k ≡ bytes_eq x (name k)) where
    pub stands : (es : List (K × B)) → is_some (lookup test es) ≡ true → (k : ℕ) × (slice_get (names_of es) k ≡ Some x)
    stands [] e = cc
    stands (p ∷ es) e = go (test p.0) refl (stands es) e
      where
        go : (t : Bool) → test p.0 ≡ t → (is_some (lookup test es) ≡ true → (k : ℕ) × (slice_get (names_of es) k ≡ Some x)) → is_some (cond t (Some p.1) (lookup test es)) ≡ true → (k : ℕ) × (slice_get (names_of (p ∷ es)) k ≡ Some x)
        go true t r e = (0, ap (λ w. Some w) (sym ((bytes_decides x (name p.0)).0 (sym (same p.0) ∙ t))))
        go false t r e = let s = r e in (suc s.0, s.1)

    pub absent : (es : List (K × B)) → is_some (lookup test es) ≡ false → (k : ℕ) → slice_get (names_of es) k ≢ Some x
    absent [] e k f = cc
    absent (p ∷ es) e k f = go (test p.0) refl (absent es) e k f
      where
        go : (t : Bool) → test p.0 ≡ t → (is_some (lookup test es) ≡ false → (k : ℕ) → slice_get (names_of es) k ≢ Some x) → is_some (cond t (Some p.1) (lookup test es)) ≡ false → (k : ℕ) → slice_get (names_of (p ∷ es)) k ≢ Some x
        go true t r e k f = cc
        go false t r e zero f = let m : true ≡ false = sym ((bytes_decides x (name p.0)).1 (sym (same_Some (name p.0) x f))) ∙ sym (same p.0) ∙ t in cc
        go false t r e (suc k) f = r e k f

pub distinct_push : (xs : List (List ℕ)) (x : List ℕ) → AreDistinct xs → ((k : ℕ) → slice_get xs k ≢ Some x) → AreDistinct (xs ++ x ∷ [])
distinct_push xs x d n j k y e f = go (at_push xs x j y e) (at_push xs x k y f)
  where
    go : (slice_get xs j ≡ Some y) ⊎ ((j ≡ length xs) × (x ≡ y)) → (slice_get xs k ≡ Some y) ⊎ ((k ≡ length xs) × (x ≡ y)) → j ≡ k
    go (inl a) (inl b) = d j k y a b
    go (inl a) (inr b) = absurd (n j (a ∙ ap (λ w. Some w) (sym b.1)))
    go (inr a) (inl b) = absurd (n k (b ∙ ap (λ w. Some w) (sym a.1)))
    go (inr a) (inr b) = a.0 ∙ sym b.0

pub none_distinct : AreDistinct []
none_distinct j k x e f = cc

at_seam : (xs ys : List (List ℕ)) (x : List ℕ) → slice_get (xs ++ x ∷ ys) (length xs) ≡ Some x
at_seam [] ys x = refl
at_seam (y ∷ xs) ys x = at_seam xs ys x

in_front : (xs ys : List (List ℕ)) (k : ℕ) (x : List ℕ) → k < length xs → slice_get (xs ++ ys) k ≡ Some x → slice_get xs k ≡ Some x
in_front [] ys k x l e = absurd (omega (arith, l))
in_front (y ∷ xs) ys zero x l e = e
in_front (y ∷ xs) ys (suc k) x l e = in_front xs ys k x (omega (arith, l)) e

pub repeated : (all xs ys : List (List ℕ)) (x : List ℕ) (k : ℕ) → all ≡ xs ++ x ∷ ys → AreDistinct xs → slice_get xs k ≡ Some x → IsFirstRepeated all x
repeated all xs ys x k e d s = subst (λ zs. IsFirstRepeated zs x) (sym e) (record {
  place = length xs;
  earlier = k;
  less = slice_get_within xs k x s;
  here = at_seam xs ys x;
  there = at_left xs (x ∷ ys) k x s;
  first = λ i j y l m f g. let z : i ≡ j = d i j y (in_front xs (x ∷ ys) i y (omega (arith, l, m)) f) (in_front xs (x ∷ ys) j y m g) in absurd (omega (arith, z, l));
})

-- One entry more.

abbrev pub firsts : {B : Type 0} → List (List ℕ × B) → List (List ℕ)
firsts ps = map (λ p. p.0) ps

module _ {K B : Type 0} (name : K → List ℕ) where
  abbrev pub pairs_of : List (K × B) → List (List ℕ × B)
  pairs_of es = map (λ e. (name e.0, e.1)) es

  same_names : (es : List (K × B)) → names_of name es ≡ firsts (pairs_of es)
  same_names [] = refl
  same_names (e ∷ es) = ap (λ w. name e.0 ∷ w) (same_names es)

  pub step_entries : (es new : List (K × B)) (ys : List (List ℕ × B)) (k : K) (b : B) (x : List ℕ) → new ≡ es ++ (k, b) ∷ [] → name k ≡ x → pairs_of es ≡ ys → pairs_of new ≡ ys ++ (x, b) ∷ []
  step_entries es new ys k b x n e i =
      ap pairs_of n ∙ map-append (λ (e : K × B). (name e.0, e.1)) es ((k, b) ∷ []) ∙ ap (λ w. w ++ (name k, b) ∷ []) i ∙ ap (λ z. ys ++ (z, b) ∷ []) e

  module _ (test : K → Bool) (x : List ℕ) (same : (k : K) → test k ≡ bytes_eq x (name k)) (es : List (K × B)) (ys : List (List ℕ × B)) (b : B) (i : pairs_of es ≡ ys) where
    pub step_distinct : is_some (lookup test es) ≡ false → AreDistinct (firsts ys) → AreDistinct (firsts (ys ++ (x, b) ∷ []))
    step_distinct n d =
        subst AreDistinct (sym (map-append (λ (p : List ℕ × B). p.0) ys ((x, b) ∷ [])))
        (distinct_push (firsts ys) x d (subst (λ zs. (k : ℕ) → slice_get zs k ≢ Some x) (same_names es ∙ ap firsts i) (absent name test x same es n)))

    pub step_repeated : (all rest : List (List ℕ × B)) → is_some (lookup test es) ≡ true → AreDistinct (firsts ys) → ys ++ (x, b) ∷ rest ≡ all → IsFirstRepeated (firsts all) x
    step_repeated all rest s d e =
        let there = stands name test x same es s in
        repeated (firsts all) (firsts ys) (firsts rest) x there.0 (ap firsts (sym e) ∙ map-append (λ (p : List ℕ × B). p.0) ys ((x, b) ∷ rest)) d
        (subst (λ zs. slice_get zs there.0 ≡ Some x) (same_names es ∙ ap firsts i) there.1)

pub not_found : {K B : Type 0} (test : K → Bool) (es : List (K × B)) → is_some (lookup test es) ≡ false → lookup test es ≡ None
not_found test es = go (lookup test es)
  where
    go : {B : Type 0} (o : Option B) → is_some o ≡ false → o ≡ None
    go None e = refl
    go (Some x) e = cc
