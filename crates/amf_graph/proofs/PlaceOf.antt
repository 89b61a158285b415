-- The places of numbers in a list in which none stands twice.
use Rattle.std.proofs.Common.{◌≡◌, ◌≢◌, ℕ, zero, suc, ◌+◌, ◌<◌, ◌≤◌, ◌||◌, Bool, true, false, eqb, List, [], ◌∷◌, length, get_or, set, slice_get, Some, replicate, sym, refl, ap, ◌∙◌, subst, inl, inr, arith, eq-eqb, get_or-set_same, get_or-set_other}
use Rattle.std.specs.List.{AllByRecursion, IsDistinct, list_any}
use Rattle.std.proofs.lemmas.Bool.{cases_eq, eqb-true, ne_eqb}
use Rattle.std.proofs.lemmas.List.{length-replicate, length-set, get_or-replicate}
use Rattle.std.proofs.lemmas.List.Sums.{position_or_len_is}
use Rattle.std.proofs.lemmas.Map.Keys.{IsDistinct-cons}
use Rattle.std.proofs.lemmas.Map.Steps.{length-le_from_distinct_below}
use Rattle.std.proofs.lemmas.Option.{same_Some, slice_get_within, slice_get-get_or, get_or_from_slice_get}
use Rattle.amf_graph.specs.Order.{Absent, IsDistinct as Distinct}
use Rattle.amf_graph.specs.declared.value.NodeId.{NodeId}
use Rattle.amf_graph.specs.Renumbered.{numbers_of, place_of, number_in}
use Rattle.amf_graph.proofs.Lists.{search_for}

-- Numbers below n of which none stands twice are at most n.

others : (x : ℕ) (xs : List ℕ) → Absent xs x → AllByRecursion (λ y. eqb x y ≡ false) xs
others x [] h = tt
others x (y ∷ xs) h = (ne_eqb x y (λ e. h 0 (ap (λ w. Some w) (sym e))), others x xs (λ k. h (suc k)))

apart : (xs : List ℕ) → Distinct xs → IsDistinct eqb xs
unfolding IsDistinct
apart [] d = tt
apart (x ∷ xs) d =
    IsDistinct-cons eqb x xs (others x xs (λ k e. let z : 0 ≡ suc k = d 0 (suc k) x refl e in cc)) (apart xs (λ j k y e f. let z : suc j ≡ suc k = d (suc j) (suc k) y e f in omega arith))

listed_below : (n q : ℕ) (xs : List ℕ) → AllByRecursion (λ i. i < n) xs → list_any (eqb q) xs ≡ true → q < n
listed_below n q [] h e = cc
listed_below n q (x ∷ xs) h e = step (eqb q x) refl e (listed_below n q xs h.1)
  where
    step : (t : Bool) → eqb q x ≡ t → (t || list_any (eqb q) xs) ≡ true → (list_any (eqb q) xs ≡ true → q < n) → q < n
    step true f g r = subst (λ w. w < n) (sym (eqb-true q x f)) h.0
    step false f g r = r g

pub few_distinct : (n : ℕ) (xs : List ℕ) → AllByRecursion (λ i. i < n) xs → Distinct xs → length xs ≤ n
few_distinct n xs h d = length-le_from_distinct_below xs n (apart xs d) (λ q e. listed_below n q xs h e)

-- Where a number stands is its place, and the length where it does not.

pub place_there : (order : List ℕ) (k i : ℕ) → Distinct order → slice_get order k ≡ Some i → place_of order i ≡ k
place_there order k i d e =
    position_or_len_is (λ n. eqb n i) order k 0 (let within = slice_get_within order k i e in omega arith) (λ j l. ne_eqb (get_or order j 0) i (earlier j l)) (λ l. eq-eqb (get_or order k 0) i (get_or_from_slice_get order k i 0 e))
  where
    earlier : (j : ℕ) → j < k → get_or order j 0 ≡ i → ⊥
    earlier j l f =
        let within : k < length order = slice_get_within order k i e in
        let same : j ≡ k = d j k i (slice_get-get_or order j 0 (omega arith) ∙ ap (λ w. Some w) f) e in
        omega arith

pub place_absent : (order : List ℕ) (i : ℕ) → Absent order i → place_of order i ≡ length order
place_absent order i a =
    position_or_len_is (λ n. eqb n i) order (length order) 0 (omega arith) (λ j l. ne_eqb (get_or order j 0) i (λ f. a j (slice_get-get_or order j 0 l ∙ ap (λ w. Some w) f))) (λ l. absurd (omega arith))

-- the first numbers of the list have their places, and the others its length
pub record AreFirst (order : List ℕ) (n : ℕ) (numbers : List ℕ) : Type 0 where
  pub placed : (k i : ℕ) → k < n → slice_get order k ≡ Some i → number_in numbers i ≡ k
  pub others : (i : ℕ) → i < length numbers → ((k : ℕ) → k < n → slice_get order k ≢ Some i) → number_in numbers i ≡ length order

pub none_first : (order : List ℕ) (n : ℕ) → AreFirst order 0 (replicate n (length order))
none_first order n = record { placed = λ k i l e. absurd (omega arith); others = λ i l h. get_or-replicate n i (length order) 0 (rw length-replicate at l) }

pub one_more : (order : List ℕ) (n i : ℕ) (numbers : List ℕ) → Distinct order → slice_get order n ≡ Some i → i < length numbers → AreFirst order n numbers → AreFirst order (n + 1) (set numbers i n)
one_more order n i numbers d e w h = record {
  placed = λ k j l f.
      elim (cases_eq j i) [
        | inl s ↦
            let same : k ≡ n = d k n i (f ∙ ap (λ w. Some w) s) e in
            ap (λ z. number_in (set numbers i n) z) s ∙ get_or-set_same numbers i n 0 w ∙ sym same
        | inr o ↦
            let other : k ≢ n = λ s. o (same_Some j i (sym f ∙ ap (λ z. slice_get order z) s ∙ e)) in
            get_or-set_other numbers i j n 0 o ∙ h.placed k j (omega arith) f
      ];
  others = λ j l a.
      let o : j ≢ i = λ s. a n (omega arith) (e ∙ ap (λ w. Some w) (sym s)) in
      get_or-set_other numbers i j n 0 o ∙ h.others j (rw length-set at l) (λ k m. a k (omega arith));
}

pub all_first : (order : List ℕ) (n i : ℕ) (numbers : List ℕ) → length order ≤ n → Distinct order → AreFirst order n numbers → i < length numbers → number_in numbers i ≡ place_of order i
all_first order n i numbers m d h l =
    elim (search_for cases_eq order i) [
      | inl p ↦ h.placed p.0 i (let within = slice_get_within order p.0 i p.1 in omega arith) p.1 ∙ sym (place_there order p.0 i d p.1)
      | inr a ↦ h.others i l (λ k m. a k) ∙ sym (place_absent order i a)
    ]

-- Nodes by their numbers.

pub number_there : (order : List NodeId) (k : ℕ) (d : NodeId) → k < length order → slice_get (numbers_of order) k ≡ Some (get_or order k d).0
number_there [] k d l = absurd (omega arith)
number_there (n ∷ order) zero d l = refl
number_there (n ∷ order) (suc k) d l = number_there order k d (omega arith)

pub number_below : (order : List NodeId) (k n : ℕ) (d : NodeId) → k < length order → AllByRecursion (λ i. i < n) (numbers_of order) → (get_or order k d).0 < n
number_below [] k n d l h = absurd (omega arith)
number_below (i ∷ order) zero n d l h = h.0
number_below (i ∷ order) (suc k) n d l h = number_below order k n d (omega arith) h.1
