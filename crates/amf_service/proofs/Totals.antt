-- Sums of numbers, one after another.
use Rattle.std.proofs.Common.{◌≡◌, ℕ, zero, suc, ◌+◌, ◌*◌, ◌<◌, ◌≤◌, Bool, List, [], ◌∷◌, ◌++◌, length, map, take, get_or, Option, Some, None, ℤ, pos, negsuc, refl, sym, ap, ◌∙◌, subst, arith, add-one}
use Rattle.std.specs.Prelude.{◌+ℤ◌}
use Rattle.std.proofs.Math.IntN.{+ℤ_assoc, +ℤ_idl, +ℤ_idr}
use Rattle.std.proofs.Math.Seq.{take-suc}
use Rattle.std.proofs.lemmas.List.{map-append}
use Rattle.amf_graph.specs.declared.value.Value.{Value as Stored}
use Rattle.amf_graph.specs.Graph.{Value, Graph}
use Rattle.amf_graph.specs.Arena.{Arena, value_content}
use Rattle.amf_service.specs.Shipped.{number_of, and_number, total_of, or_fault, items_of, summed_total, summed}
use Rattle.amf_service.specs.Made.{totalled}

and_assoc : (x y z : Option ℤ) → and_number x (and_number y z) ≡ and_number (and_number x y) z
and_assoc None y z = refl
and_assoc (Some x) None z = refl
and_assoc (Some x) (Some y) None = refl
and_assoc (Some x) (Some y) (Some z) = ap (λ w. Some w) (sym (+ℤ_assoc x y z))

and_zero : (x : Option ℤ) → and_number x (Some (pos 0)) ≡ x
and_zero None = refl
and_zero (Some x) = ap (λ w. Some w) (+ℤ_idr x)

total_push : (vs : List Value) (v : Value) → total_of (vs ++ v ∷ []) ≡ and_number (total_of vs) (number_of v)
total_push [] v = and_zero (number_of v) ∙ sym (go (number_of v))
  where
    go : (x : Option ℤ) → and_number (Some (pos 0)) x ≡ x
    go None = refl
    go (Some x) = ap (λ w. Some w) (+ℤ_idl x)
total_push (u ∷ vs) v = ap (and_number (number_of u)) (total_push vs v) ∙ and_assoc (number_of u) (total_of vs) (number_of v)

module _ (a : Arena) (vs : List Stored) (k : ℕ) (d : Stored) (l : k < length vs) where
  pub total_more : (n m : ℤ) → total_of (map (value_content a) (take k vs)) ≡ Some n → number_of (value_content a (get_or vs k d)) ≡ Some m → total_of (map (value_content a) (take (k + 1) vs)) ≡ Some (n +ℤ m)
  total_more n m t e =
      ap (λ ws. total_of (map (value_content a) ws)) (ap (λ j. take j vs) (add-one k) ∙ take-suc vs k d l)
      ∙ ap total_of (map-append (value_content a) (take k vs) (get_or vs k d ∷ []))
      ∙ total_push (map (value_content a) (take k vs)) (value_content a (get_or vs k d))
      ∙ ap (λ x. and_number x (number_of (value_content a (get_or vs k d)))) t ∙ ap (and_number (Some n)) e

pub total_none : (a : Arena) (vs : List Stored) (k : ℕ) (d : Stored) → k < length vs → number_of (value_content a (get_or vs k d)) ≡ None → None ≡ total_of (map (value_content a) vs)
total_none a [] k d l e = absurd (omega (arith, l))
total_none a (v ∷ vs) zero d l e = ap (λ x. and_number x (total_of (map (value_content a) vs))) (sym e)
total_none a (v ∷ vs) (suc k) d l e = go (number_of (value_content a v)) ∙ ap (and_number (number_of (value_content a v))) (total_none a vs k d (omega (arith, l)) e)
  where
    go : (x : Option ℤ) → None ≡ and_number x None
    go None = refl
    go (Some x) = refl

pub all_taken : {X : Type 0} (xs : List X) (i : ℕ) → length xs ≤ i → take i xs ≡ xs
all_taken [] zero l = refl
all_taken [] (suc i) l = refl
all_taken (x ∷ xs) zero l = absurd (omega arith)
all_taken (x ∷ xs) (suc i) l = ap (λ w. x ∷ w) (all_taken xs i (omega arith))

-- The answer of the sum, by its total.

pub summed_is : (g : Graph) → summed g ≡ or_fault (totalled (items_of g)) summed_total
summed_is g = go (items_of g)
  where
    go : (x : Option (List Value)) → or_fault x (λ vs. or_fault (total_of vs) summed_total) ≡ or_fault (totalled x) summed_total
    go None = refl
    go (Some vs) = refl
