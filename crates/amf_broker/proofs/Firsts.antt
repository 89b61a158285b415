-- A change of the first element that passes a test is a write at its place.
use Rattle.std.proofs.Common.{◌≡◌, ℕ, suc, ◌+◌, ◌≤◌, Bool, true, false, List, [], ◌∷◌, length, get_or, set, refl, sym, ◌∙◌, ap, arith}
use Rattle.std.specs.Prelude.{slice_set, slice_index_or, nat_lt, Option, Some, None, position, if◌then◌else◌}
use Rattle.std.specs.List.{position_or_len, list_any}
use Rattle.std.proofs.lemmas.Bool.Decides.{nat_tests}

pub not-some : (o : Option ℕ) → ((i : ℕ) → o ≡ Some i → ⊥) → None ≡ o
not-some None h = refl
not-some (Some i) h = absurd (h i refl)

module _ {X : Type 0} (p : X → Bool) where
  abbrev pub at_first : (X → X) → List X → List X
  at_first g [] = []
  at_first g (x ∷ xs) = if p x then g x ∷ xs else x ∷ at_first g xs

  abbrev pub the_place : List X → ℕ
  the_place xs = position_or_len p xs

  pub within-any : (xs : List X) → nat_lt (the_place xs) (length xs) ≡ list_any p xs
  within-any [] = refl
  within-any (x ∷ xs) = let ih = within-any xs in grind (arith, nat_tests, ih)

  at-suc : (x : X) (xs : List X) (n : ℕ) (v : X) → set (x ∷ xs) (1 + n) v ≡ x ∷ set xs n v
  at-suc x xs n v = let e : 1 + n ≡ suc n = omega arith in rw e refl

  get-suc : (x : X) (xs : List X) (n : ℕ) (d : X) → get_or (x ∷ xs) (1 + n) d ≡ get_or xs n d
  get-suc x xs n d = let e : 1 + n ≡ suc n = omega arith in rw e refl

  at-place : (g : X → X) (d : X) (xs : List X) → list_any p xs ≡ true → slice_set xs (the_place xs) (g (slice_index_or xs (the_place xs) d)) ≡ at_first g xs
  at-place g d [] here = cc
  at-place g d (x ∷ xs) here = step (p x) refl (at-place g d xs)
    where
      step : (b : Bool) → p x ≡ b → (list_any p xs ≡ true → slice_set xs (the_place xs) (g (slice_index_or xs (the_place xs) d)) ≡ at_first g xs)
          → slice_set (x ∷ xs) (the_place (x ∷ xs)) (g (slice_index_or (x ∷ xs) (the_place (x ∷ xs)) d)) ≡ at_first g (x ∷ xs)
      step true e ih = grind (arith, e)
      step false e ih =
          let more : list_any p xs ≡ true = grind (arith, e, here) in
          let later = ih more in
          let one = at-suc x xs (the_place xs) (g (get_or xs (the_place xs) d)) in
          let two = get-suc x xs (the_place xs) d in
          grind (arith, e, one, two, later)

  place-is : (xs : List X) (i : ℕ) (b : Bool) → Some i ≡ (if b then Some (the_place xs) else None) → (i ≡ the_place xs) × (b ≡ true)
  place-is xs i true is = (cc, refl)
  place-is xs i false is = cc

  pub found-any : (xs : List X) (i : ℕ) → Some i ≡ position p xs → list_any p xs ≡ true
  found-any xs i is = sym (within-any xs) ∙ (place-is xs i (nat_lt (the_place xs) (length xs)) is).1

  not-there : (xs : List X) (b : Bool) → None ≡ (if b then Some (the_place xs) else None) → b ≡ false
  not-there xs true is = cc
  not-there xs false is = refl

  pub absent-any : (xs : List X) → None ≡ position p xs → list_any p xs ≡ false
  absent-any xs is = sym (within-any xs) ∙ not-there xs (nat_lt (the_place xs) (length xs)) is

  pub first-changed : (g : X → X) (d : X) (xs : List X) (i : ℕ) → Some i ≡ position p xs → slice_set xs i (g (slice_index_or xs i d)) ≡ at_first g xs
  first-changed g d xs i is =
      let here = place-is xs i (nat_lt (the_place xs) (length xs)) is in
      rw here.0 (at-place g d xs (found-any xs i is))

  pub no-place : (xs : List X) → list_any p xs ≡ false → None ≡ position p xs
  no-place xs none = ap (λ b. if b then Some (the_place xs) else None) (sym (within-any xs ∙ none))

  pub place-of : (xs : List X) (i : ℕ) → Some i ≡ position p xs → i ≡ the_place xs
  place-of xs i is = (place-is xs i (nat_lt (the_place xs) (length xs)) is).0

  pub place-none : (xs : List X) → list_any p xs ≡ false → the_place xs ≡ length xs
  place-none [] none = refl
  place-none (x ∷ xs) none = let ih = place-none xs in grind (arith, none, ih)

  pub place-le : (xs : List X) → the_place xs ≤ length xs
  place-le [] = omega arith
  place-le (x ∷ xs) = let ih = place-le xs in grind (arith, nat_tests, ih)
