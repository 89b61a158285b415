-- How often a node stands among values.
use Rattle.std.proofs.Common.{◌≡◌, ℕ, zero, suc, ◌+◌, ◌<◌, ◌≤◌, Bool, true, false, cond, List, [], ◌∷◌, ◌++◌, length, slice_get, Some, refl, ap, ◌∙◌, arith}
use Rattle.std.specs.Prelude.{◌==◌}
use Rattle.std.specs.List.{zip}
use Rattle.std.proofs.lemmas.Option.{same_Some}
use Rattle.amf_graph.specs.Graph.{Value, leaf, node}
use Rattle.amf_graph.specs.ByName.{insert_stable, stable_sort}
use Rattle.amf_graph.specs.Order.{seconds}

abbrev pub counted : Bool → ℕ → ℕ
counted true n = suc n
counted false n = n

abbrev pub count : ℕ → List Value → ℕ
count i [] = 0
count i (leaf x ∷ vs) = count i vs
count i (node j ∷ vs) = counted (j == i) (count i vs)

more : (b : Bool) (n : ℕ) → n ≤ counted b n
more true n = omega arith
more false n = omega arith

moved : (b : Bool) (n m k : ℕ) → n ≡ m + k → counted b n ≡ counted b m + k
moved true n m k e = omega (arith, e)
moved false n m k e = e

pub count_append : (i : ℕ) (xs ys : List Value) → count i (xs ++ ys) ≡ count i xs + count i ys
count_append i [] ys = omega arith
count_append i (leaf x ∷ xs) ys = count_append i xs ys
count_append i (node j ∷ xs) ys = moved (j == i) (count i (xs ++ ys)) (count i xs) (count i ys) (count_append i xs ys)

same_test : (i : ℕ) → (i == i) ≡ true
same_test i = grind arith

equal : (a b : ℕ) → (a == b) ≡ true → a ≡ b
equal a b e = grind arith

count_first : (i : ℕ) (v : Value) (vs : List Value) → v ≡ node i → count i (v ∷ vs) ≡ suc (count i vs)
count_first i v vs e = ap (λ u. count i (u ∷ vs)) e ∙ ap (λ b. counted b (count i vs)) (same_test i)

count_less : (i : ℕ) (v : Value) (vs : List Value) → count i vs ≤ count i (v ∷ vs)
count_less i (leaf x) vs = omega arith
count_less i (node j) vs = more (j == i) (count i vs)

pub counts_one : (i : ℕ) (vs : List Value) (k : ℕ) → slice_get vs k ≡ Some (node i) → 1 ≤ count i vs
counts_one i [] k e = cc
counts_one i (v ∷ vs) zero e = omega (arith, count_first i v vs (same_Some v (node i) e))
counts_one i (v ∷ vs) (suc k) e = omega (arith, count_less i v vs, counts_one i vs k e)

pub counts_two : (i : ℕ) (vs : List Value) (j k : ℕ) → j < k → slice_get vs j ≡ Some (node i) → slice_get vs k ≡ Some (node i) → 2 ≤ count i vs
counts_two i [] j k l e f = cc
counts_two i (v ∷ vs) j zero l e f = absurd (omega (arith, l))
counts_two i (v ∷ vs) zero (suc k) l e f = omega (arith, count_first i v vs (same_Some v (node i) e), counts_one i vs k f)
counts_two i (v ∷ vs) (suc j) (suc k) l e f = omega (arith, count_less i v vs, counts_two i vs j k (omega (arith, l)) e f)

-- where there is one, where there are two

abbrev One : ℕ → List Value → Type 0
One i vs = (k : ℕ) × (slice_get vs k ≡ Some (node i))

abbrev Two : ℕ → List Value → Type 0
Two i vs = (j : ℕ) × (k : ℕ) × (j < k) × (slice_get vs j ≡ Some (node i)) × (slice_get vs k ≡ Some (node i))

pub one_of : (i : ℕ) (vs : List Value) → 1 ≤ count i vs → (k : ℕ) × (slice_get vs k ≡ Some (node i))
one_of i [] h = absurd (omega (arith, h))
one_of i (leaf x ∷ vs) h = let o = one_of i vs h in (suc o.0, o.1)
one_of i (node j ∷ vs) h = go (j == i) refl h (one_of i vs)
  where
    go : (b : Bool) → (j == i) ≡ b → 1 ≤ counted b (count i vs) → (1 ≤ count i vs → One i vs) → One i (node j ∷ vs)
    go true e h m = (0, ap (λ n. Some (node n)) (equal j i e))
    go false e h m = let o = m h in (suc o.0, o.1)

pub two_of : (i : ℕ) (vs : List Value) → 2 ≤ count i vs → (j : ℕ) × (k : ℕ) × (j < k) × (slice_get vs j ≡ Some (node i)) × (slice_get vs k ≡ Some (node i))
two_of i [] h = absurd (omega (arith, h))
two_of i (leaf x ∷ vs) h = let o = two_of i vs h in (suc o.0, suc o.1, omega (arith, o.2), o.3, o.4)
two_of i (node j ∷ vs) h = go (j == i) refl h (two_of i vs)
  where
    go : (b : Bool) → (j == i) ≡ b → 2 ≤ counted b (count i vs) → (2 ≤ count i vs → Two i vs) → Two i (node j ∷ vs)
    go true e h m = let o = one_of i vs (omega (arith, h)) in (0, suc o.0, omega arith, ap (λ n. Some (node n)) (equal j i e), o.1)
    go false e h m = let o = m h in (suc o.0, suc o.1, omega (arith, o.2), o.3, o.4)

-- sorting and pairing keep it

swapped : (a b : Bool) (n : ℕ) → counted a (counted b n) ≡ counted b (counted a n)
swapped true true n = refl
swapped true false n = refl
swapped false true n = refl
swapped false false n = refl

count_swap : (i : ℕ) (u v : Value) (vs : List Value) → count i (u ∷ v ∷ vs) ≡ count i (v ∷ u ∷ vs)
count_swap i (leaf x) v vs = go v
  where
    go : (v : Value) → count i (v ∷ vs) ≡ count i (v ∷ leaf x ∷ vs)
    go (leaf y) = refl
    go (node k) = refl
count_swap i (node j) (leaf y) vs = refl
count_swap i (node j) (node k) vs = swapped (j == i) (k == i) (count i vs)

count_behind : (i : ℕ) (v : Value) (vs ws : List Value) → count i vs ≡ count i ws → count i (v ∷ vs) ≡ count i (v ∷ ws)
count_behind i (leaf x) vs ws e = e
count_behind i (node j) vs ws e = ap (counted (j == i)) e

module _ (lt : List ℕ × Value → List ℕ × Value → Bool) where
  count_insert : (i : ℕ) (p : List ℕ × Value) (qs : List (List ℕ × Value)) → count i (seconds (insert_stable lt p qs)) ≡ count i (p.1 ∷ seconds qs)
  count_insert i p [] = refl
  count_insert i p (q ∷ qs) = go (lt q p) (count_insert i p qs)
    where
      go : (b : Bool) → count i (seconds (insert_stable lt p qs)) ≡ count i (p.1 ∷ seconds qs) → count i (seconds (cond b (q ∷ insert_stable lt p qs) (p ∷ q ∷ qs))) ≡ count i (p.1 ∷ q.1 ∷ seconds qs)
      go false e = refl
      go true e = count_behind i q.1 (seconds (insert_stable lt p qs)) (p.1 ∷ seconds qs) e ∙ count_swap i q.1 p.1 (seconds qs)

  pub count_sort : (i : ℕ) (ps : List (List ℕ × Value)) → count i (seconds (stable_sort lt ps)) ≡ count i (seconds ps)
  count_sort i [] = refl
  count_sort i (p ∷ ps) = count_insert i p (stable_sort lt ps) ∙ count_behind i p.1 (seconds (stable_sort lt ps)) (seconds ps) (count_sort i ps)

pub seconds_zip : (names : List (List ℕ)) (vs : List Value) → length vs ≡ length names → seconds (zip names vs) ≡ vs
seconds_zip [] [] l = refl
seconds_zip [] (v ∷ vs) l = absurd (omega (arith, l))
seconds_zip (x ∷ names) [] l = absurd (omega (arith, l))
seconds_zip (x ∷ names) (v ∷ vs) l = ap (λ ws. v ∷ ws) (seconds_zip names vs (omega (arith, l)))
