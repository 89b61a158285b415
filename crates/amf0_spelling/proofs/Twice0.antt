-- A number is met again exactly if its node stands at two places among all values that are met.
use Rattle.std.specs.List.{flat_map}
use Rattle.std.proofs.Common.{◌≡◌, ◌↔◌, ◌⊎◌, ℕ, zero, suc, ◌+◌, ◌<◌, ◌≤◌, Bool, true, false, eqb, List, [], ◌∷◌, ◌++◌, length, slice_get, Some, sym, refl, ap, ◌∙◌, subst, inl, inr, arith, eq-eqb, append_assoc, append-nil}
use Rattle.std.proofs.lemmas.Option.{same_Some, slice_get_within}
use Rattle.std.proofs.lemmas.Bool.{cases_lt, eqb-true}
use Rattle.amf_graph.specs.Graph.{Value, leaf, node, Graph, node_at}
use Rattle.amf_graph.specs.Order.{values_met, IsDistinct}
use Rattle.amf_graph.proofs.Lists.{no_entry}
use Rattle.amf0_spelling.specs.Met.{all_met, IsTwice}
use Rattle.amf0_spelling.specs.Meets.{Meets, over, past, again, first, IsMet, IsAgain}
use Rattle.amf0_spelling.proofs.Meeting.{meets_stays, meets_first}

abbrev one_if : Bool → ℕ
one_if true = 1
one_if false = 0

abbrev count : ℕ → List Value → ℕ
count i [] = 0
count i (leaf x ∷ vs) = count i vs
count i (node j ∷ vs) = one_if (eqb j i) + count i vs

abbrev times : ℕ → List ℕ → ℕ
times n [] = 0
times n (k ∷ ks) = one_if (eqb k n) + times n ks

count_append : (i : ℕ) (vs ws : List Value) → count i (vs ++ ws) ≡ count i vs + count i ws
count_append i [] ws = let e : 0 + count i ws ≡ count i ws = omega arith in sym e
count_append i (leaf x ∷ vs) ws = count_append i vs ws
count_append i (node j ∷ vs) ws = let r = count_append i vs ws in omega (arith, r)

eqb_is : (j i : ℕ) (b : Bool) → ((j ≡ i) → b ≡ true) → (b ≡ true → j ≡ i) → eqb j i ≡ b
eqb_is j i b f h = go (eqb j i) refl
  where
    go : (t : Bool) → eqb j i ≡ t → t ≡ b
    go true e = sym (f (eqb-true j i e))
    go false e = other b refl
      where
        other : (c : Bool) → b ≡ c → false ≡ b
        other true d = let x : eqb j i ≡ true = eq-eqb j i (h d) in cc
        other false d = sym d

-- how often a node stands among what is still to be met: m is 1 for one that has not been met, and 0 for one that has
abbrev Counted : Graph → List ℕ → List Value → List ℕ → List ℕ → List ℕ → Type 0
Counted g xs vs all ks more = (n i m : ℕ) → slice_get all n ≡ Some i → (n < length xs → m ≡ 0) → (length xs ≤ n → m ≡ 1) → count i (vs ++ flat_map (λ i. values_met (node_at g i)) more) ≡ m + times n ks

length_push : (xs : List ℕ) (i : ℕ) → length (xs ++ i ∷ []) ≡ suc (length xs)
length_push [] i = refl
length_push (x ∷ xs) i = ap suc (length_push xs i)

counted : {g : Graph} {xs all ks : List ℕ} {vs : List Value} → IsDistinct all → Meets g xs vs all ks → (more : List ℕ) × (all ≡ xs ++ more) × Counted g xs vs all ks more
counted {xs = xs} d over = ([], sym (append-nil xs), λ n i m e f h. let l = slice_get_within xs n i e in let z = f l in omega (arith, z))
counted d (past x w) = counted d w
counted {g} {xs = xs} {all = all} d (again {more = ks} {vs = vs} j k e w) =
    let o = counted d w in (
      o.0,
      o.1,
      λ n i m a f h.
          let here : slice_get all k ≡ Some j = meets_stays w k j e in
          let same : eqb j i ≡ eqb k n = eqb_is j i (eqb k n) (λ p. eq-eqb k n (d k n i (here ∙ ap (λ z. Some z) p) a)) (λ p. same_Some j i (sym here ∙ ap (λ z. slice_get all z) (eqb-true k n p) ∙ a)) in
          let r = o.2 n i m a f h in
          let s : one_if (eqb j i) ≡ one_if (eqb k n) = ap one_if same in
          omega (arith, r, s),
    )
counted {g} {xs = xs} {all = all} {ks = ks} d (first {vs = vs} j l new w) =
    let o = counted d w in (
      j ∷ o.0,
      o.1 ∙ append_assoc xs (j ∷ []) o.0,
      λ n i m a f h. step o.0 o.2 n i m a f h (meets_first xs j w) (cases n),
    )
  where
    cases : (n : ℕ) → (n < length xs) ⊎ ((n ≡ length xs) ⊎ (length xs < n))
    cases n = elim (cases_lt n (length xs)) [ inl b ↦ inl b | inr c ↦ elim (cases_lt (length xs) n) [ inl e ↦ inr (inr e) | inr e ↦ inr (inl (omega (arith, c, e))) ] ]

    step : (more : List ℕ) → Counted g (xs ++ j ∷ []) (values_met (node_at g j) ++ vs) all ks more → (n i m : ℕ) → slice_get all n ≡ Some i → (n < length xs → m ≡ 0) → (length xs ≤ n → m ≡ 1) → slice_get all (length xs) ≡ Some j → (n < length xs) ⊎ ((n ≡ length xs) ⊎ (length xs < n)) →
        one_if (eqb j i) + count i (vs ++ (values_met (node_at g j) ++ flat_map (λ i. values_met (node_at g i)) more)) ≡ m + times n ks
    step more c n i m a f h here place =
        let us = values_met (node_at g j) in
        let rest = flat_map (λ i. values_met (node_at g i)) more in
        let size = length_push xs j in
        let p = count_append i vs (us ++ rest) in
        let q = count_append i us rest in
        let x = count_append i (us ++ vs) rest in
        let y = count_append i us vs in
        elim place [
          | inl below ↦ (
              let r = c n i 0 a (λ z. refl) (λ z. absurd (omega (arith, z, size, below))) in
              let b : eqb j i ≡ false = eqb_is j i false (λ e. let s = d (length xs) n i (here ∙ ap (λ z. Some z) e) a in absurd (omega (arith, s, below))) (λ e. cc) in
              let k : one_if (eqb j i) ≡ 0 = ap one_if b in
              let v = f below in
              omega (arith, r, k, p, q, x, y, v))
          | inr (inl e) ↦ (
              let r = c n i 0 a (λ z. refl) (λ z. absurd (omega (arith, z, size, e))) in
              let b : eqb j i ≡ true = eqb_is j i true (λ z. refl) (λ z. same_Some j i (sym here ∙ ap (λ w. slice_get all w) (sym e) ∙ a)) in
              let k : one_if (eqb j i) ≡ 1 = ap one_if b in
              let v = h (omega (arith, e)) in
              omega (arith, r, k, p, q, x, y, v))
          | inr (inr above) ↦ (
              let r = c n i 1 a (λ z. absurd (omega (arith, z, size, above))) (λ z. refl) in
              let b : eqb j i ≡ false = eqb_is j i false (λ e. let s = d (length xs) n i (here ∙ ap (λ z. Some z) e) a in absurd (omega (arith, s, above))) (λ e. cc) in
              let k : one_if (eqb j i) ≡ 0 = ap one_if b in
              let v = h (omega (arith, above)) in
              omega (arith, r, k, p, q, x, y, v))
        ]

-- how often a node stands among all values that are met: once more than its number is met again
pub count_met : (g : Graph) (order more : List ℕ) → IsDistinct order → IsMet g order more → (n i : ℕ) → slice_get order n ≡ Some i → count i (all_met g order) ≡ 1 + times n more
count_met g order more d w n i e =
    let o = counted d w in
    let r = o.2 n i 1 e (λ z. absurd (omega (arith, z))) (λ z. refl) in
    subst (λ z. count i (g.root ∷ flat_map (λ i. values_met (node_at g i)) z) ≡ 1 + times n more) (sym o.1) r

some_times : (n : ℕ) (ks : List ℕ) → 0 < times n ks → IsAgain ks n
some_times n [] l = absurd (omega (arith, l))
some_times n (k ∷ ks) l = go (eqb k n) refl (some_times n ks) l
  where
    go : (b : Bool) → eqb k n ≡ b → (0 < times n ks → IsAgain ks n) → 0 < one_if b + times n ks → IsAgain (k ∷ ks) n
    go true e r l = (0, ap (λ z. Some z) (eqb-true k n e))
    go false e r l = let o = r (omega (arith, l)) in (suc o.0, o.1)

times_some : (n : ℕ) (ks : List ℕ) (j : ℕ) → slice_get ks j ≡ Some n → 0 < times n ks
times_some n [] j e = absurd (no_entry j n e)
times_some n (k ∷ ks) zero e = let b : one_if (eqb k n) ≡ 1 = ap one_if (eq-eqb k n (same_Some k n e)) in omega (arith, b)
times_some n (k ∷ ks) (suc j) e = let r = times_some n ks j e in omega (arith, r)

count_some : (i : ℕ) (vs : List Value) (j : ℕ) → slice_get vs j ≡ Some (node i) → 0 < count i vs
count_some i [] j e = absurd (no_entry j (node i) e)
count_some i (leaf x ∷ vs) zero e = cc
count_some i (leaf x ∷ vs) (suc j) e = count_some i vs j e
count_some i (node k ∷ vs) zero e = let s : node k ≡ node i = same_Some (node k) (node i) e in let t : k ≡ i = cc in let b : one_if (eqb k i) ≡ 1 = ap one_if (eq-eqb k i t) in omega (arith, b)
count_some i (node k ∷ vs) (suc j) e = let r = count_some i vs j e in omega (arith, r)

some_count : (i : ℕ) (vs : List Value) → 0 < count i vs → (j : ℕ) × (slice_get vs j ≡ Some (node i))
some_count i [] l = absurd (omega (arith, l))
some_count i (leaf x ∷ vs) l = let o = some_count i vs l in (suc o.0, o.1)
some_count i (node k ∷ vs) l = go (eqb k i) refl (some_count i vs) l
  where
    go : (b : Bool) → eqb k i ≡ b → (0 < count i vs → (j : ℕ) × (slice_get vs j ≡ Some (node i))) → 0 < one_if b + count i vs → (j : ℕ) × (slice_get (node k ∷ vs) j ≡ Some (node i))
    go true e r l = (0, ap (λ z. Some (node z)) (eqb-true k i e))
    go false e r l = let o = r (omega (arith, l)) in (suc o.0, o.1)

twice_count : (i : ℕ) (vs : List Value) (j k : ℕ) → j < k → slice_get vs j ≡ Some (node i) → slice_get vs k ≡ Some (node i) → 1 < count i vs
twice_count i [] j k l e f = absurd (no_entry j (node i) e)
twice_count i (v ∷ vs) j zero l e f = absurd (omega (arith, l))
twice_count i (leaf x ∷ vs) zero (suc k) l e f = cc
twice_count i (leaf x ∷ vs) (suc j) (suc k) l e f = twice_count i vs j k (omega (arith, l)) e f
twice_count i (node m ∷ vs) zero (suc k) l e f =
    let s : node m ≡ node i = same_Some (node m) (node i) e in let t : m ≡ i = cc in let b : one_if (eqb m i) ≡ 1 = ap one_if (eq-eqb m i t) in let r = count_some i vs k f in omega (arith, b, r)
twice_count i (node m ∷ vs) (suc j) (suc k) l e f = let r = twice_count i vs j k (omega (arith, l)) e f in omega (arith, r)

count_twice : (i : ℕ) (vs : List Value) → 1 < count i vs → IsTwice vs (node i)
count_twice i [] l = absurd (omega (arith, l))
count_twice i (leaf x ∷ vs) l = let o = count_twice i vs l in (suc o.0, suc o.1, (let z = o.2 in omega (arith, z)), o.3, o.4)
count_twice i (node k ∷ vs) l = go (eqb k i) refl (count_twice i vs) l
  where
    go : (b : Bool) → eqb k i ≡ b → (1 < count i vs → IsTwice vs (node i)) → 1 < one_if b + count i vs → IsTwice (node k ∷ vs) (node i)
    go true e r l = let o = some_count i vs (omega (arith, l)) in (0, suc o.0, omega arith, ap (λ z. Some (node z)) (eqb-true k i e), o.1)
    go false e r l = let o = r (omega (arith, l)) in (suc o.0, suc o.1, (let z = o.2 in omega (arith, z)), o.3, o.4)

-- to be met again is to stand at two places
pub again_is_twice : (g : Graph) (order more : List ℕ) → IsDistinct order → IsMet g order more → (n i : ℕ) → slice_get order n ≡ Some i → IsAgain more n ↔ IsTwice (all_met g order) (node i)
again_is_twice g order more d w n i e = (
  (λ a. let c = count_met g order more d w n i e in let t = times_some n more a.0 a.1 in count_twice i (all_met g order) (omega (arith, c, t))),
  (λ t. let c = count_met g order more d w n i e in let k = twice_count i (all_met g order) t.0 t.1 t.2 t.3 t.4 in some_times n more (omega (arith, c, k))),
)
