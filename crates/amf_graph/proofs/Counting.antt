-- How many numbers below n are not in a list.
use Rattle.std.proofs.Common.{◌≡◌, ℕ, zero, suc, ◌+◌, ◌<◌, ◌≤◌, Bool, true, false, cond, eqb, List, [], ◌∷◌, ◌++◌, length, slice_get, Some, sym, refl, ap, ◌∙◌, inl, inr, arith, eq-eqb}
use Rattle.std.proofs.lemmas.Option.{same_Some}
use Rattle.std.proofs.lemmas.Bool.{cases_lt, eqb-true}
use Rattle.amf_graph.specs.Order.{Absent}
use Rattle.amf_graph.proofs.Lists.{at_left, at_end}

has : List ℕ → ℕ → Bool
has [] i = false
has (x ∷ xs) i = cond (eqb x i) true (has xs i)

weight : Bool → ℕ
weight true = 0
weight false = 1

pub missing : ℕ → List ℕ → ℕ
missing zero xs = 0
missing (suc n) xs = weight (has xs n) + missing n xs

has_place : (xs : List ℕ) (i : ℕ) → has xs i ≡ true → (k : ℕ) × (slice_get xs k ≡ Some i)
unfolding has
has_place [] i e = cc
has_place (x ∷ xs) i e = step (eqb x i) refl (has_place xs i) e
  where
    step : (t : Bool) → eqb x i ≡ t → (has xs i ≡ true → (k : ℕ) × (slice_get xs k ≡ Some i)) → cond t true (has xs i) ≡ true → (k : ℕ) × (slice_get (x ∷ xs) k ≡ Some i)
    step true f r e = (0, ap (λ w. Some w) (eqb-true x i f))
    step false f r e = let p = r e in (suc p.0, p.1)

place_has : (xs : List ℕ) (k i : ℕ) → slice_get xs k ≡ Some i → has xs i ≡ true
unfolding has
place_has [] k i e = cc
place_has (x ∷ xs) zero i e = ap (λ t. cond t true (has xs i)) (eq-eqb x i (same_Some x i e))
place_has (x ∷ xs) (suc k) i e = step (eqb x i) (place_has xs k i e)
  where
    step : (t : Bool) → has xs i ≡ true → cond t true (has xs i) ≡ true
    step true r = refl
    step false r = r

weight_less : (a b : Bool) → (a ≡ true → b ≡ true) → weight b ≤ weight a
unfolding weight
weight_less true true h = omega arith
weight_less true false h = let e : false ≡ true = h refl in cc
weight_less false true h = omega arith
weight_less false false h = omega arith

abbrev pub Stays : List ℕ → List ℕ → Type 0
Stays xs ys = (k i : ℕ) → slice_get xs k ≡ Some i → slice_get ys k ≡ Some i

has_stays : (xs ys : List ℕ) (i : ℕ) → Stays xs ys → has xs i ≡ true → has ys i ≡ true
has_stays xs ys i h e = let p = has_place xs i e in place_has ys p.0 i (h p.0 i p.1)

pub missing_less : (n : ℕ) (xs ys : List ℕ) → Stays xs ys → missing n ys ≤ missing n xs
unfolding missing
missing_less zero xs ys h = omega arith
missing_less (suc n) xs ys h = omega (arith, missing_less n xs ys h, weight_less (has xs n) (has ys n) (has_stays xs ys n h))

absent_has : (xs : List ℕ) (i : ℕ) → Absent xs i → has xs i ≡ false
absent_has xs i a = step (has xs i) refl
  where
    step : (t : Bool) → has xs i ≡ t → has xs i ≡ false
    step true e = let p = has_place xs i e in absurd (a p.0 p.1)
    step false e = e

pub missing_push : (n i : ℕ) (xs : List ℕ) → i < n → Absent xs i → missing n (xs ++ i ∷ []) < missing n xs
unfolding missing weight
missing_push zero i xs l a = absurd (omega arith)
missing_push (suc n) i xs l a =
    let stays : (k j : ℕ) → slice_get xs k ≡ Some j → slice_get (xs ++ i ∷ []) k ≡ Some j = at_left xs (i ∷ []) in
    elim (cases_lt i n) [
      | inl below ↦ omega (arith, missing_push n i xs below a, weight_less (has xs n) (has (xs ++ i ∷ []) n) (has_stays xs (xs ++ i ∷ []) n stays))
      | inr above ↦
          let same : i ≡ n = omega arith in
          let before : weight (has xs n) ≡ 1 = ap weight (ap (λ w. has xs w) (sym same) ∙ absent_has xs i a) in
          let now : weight (has (xs ++ i ∷ []) n) ≡ 0 = ap weight (ap (λ w. has (xs ++ i ∷ []) w) (sym same) ∙ place_has (xs ++ i ∷ []) (length xs) i (at_end xs i)) in
          omega (arith, before, now, missing_less n xs (xs ++ i ∷ []) stays)
    ]

pub missing_none : (n : ℕ) → missing n [] ≡ n
unfolding missing has weight
missing_none zero = refl
missing_none (suc n) = omega (arith, missing_none n)
