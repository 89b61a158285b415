-- Numbers and their places, one more.
use Rattle.std.proofs.Common.{◌≡◌, ℕ, zero, suc, ◌<◌, ◌≤◌, nat_lt, Bool, true, false, if◌then◌else◌, List, [], ◌∷◌, ◌++◌, length, set, get_or, slice_get, Option, Some, None, sym, refl, ap, ◌∙◌, subst, inl, inr, arith}
use Rattle.std.specs.Prelude.{is_some}
use Rattle.std.specs.List.{AllByRecursion}
use Rattle.std.proofs.lemmas.Bool.{cases_eq}
use Rattle.std.proofs.lemmas.List.{length-set}
use Rattle.std.proofs.lemmas.Option.{same_Some, slice_get_within, slice_get-get_or, slice_get_read}
use Rattle.amf_graph.specs.Order.{Absent, IsDistinct}
use Rattle.amf_graph.specs.Renumbered.{place_of}
use Rattle.amf_graph.proofs.Alls.{all_by_place}
use Rattle.amf_graph.proofs.Lists.{at_left, at_end, at_push}
use Rattle.amf_graph.proofs.PlaceOf.{place_there, place_absent, few_distinct}
use Rattle.amf_graph.specs.Gather.{ArePlaces, with_entry}

pub set_at : {X : Type 0} (xs : List X) (i : ℕ) (x y : X) → slice_get xs i ≡ Some x → slice_get (set xs i y) i ≡ Some y
set_at [] i x y e = cc
set_at (z ∷ xs) zero x y e = refl
set_at (z ∷ xs) (suc i) x y e = set_at xs i x y e

pub set_elsewhere : {X : Type 0} (xs : List X) (i j : ℕ) (y : X) → (j ≡ i → ⊥) → slice_get (set xs i y) j ≡ slice_get xs j
set_elsewhere [] i j y n = refl
set_elsewhere (z ∷ xs) zero zero y n = absurd (n refl)
set_elsewhere (z ∷ xs) zero (suc j) y n = refl
set_elsewhere (z ∷ xs) (suc i) zero y n = refl
set_elsewhere (z ∷ xs) (suc i) (suc j) y n = set_elsewhere xs i j y (λ e. n (ap suc e))

pub once_placed : (items : List ℕ) (places : List (Option ℕ)) → ArePlaces items places → IsDistinct items
once_placed items places h j k i e f =
    same_Some j k (same_Some (Some j) (Some k) (sym (h.placed j i e) ∙ h.placed k i f))

pub all_below : (items : List ℕ) (places : List (Option ℕ)) → ArePlaces items places → AllByRecursion (λ i. i < length places) items
all_below items places h = all_by_place (λ i. i < length places) items 0 (λ k l. slice_get_within places (get_or items k 0) (Some k) (h.placed k (get_or items k 0) (slice_get-get_or items k 0 l)))

pub few_placed : (items : List ℕ) (places : List (Option ℕ)) → ArePlaces items places → length items ≤ length places
few_placed items places h =
    few_distinct (length places) items (all_below items places h) (once_placed items places h)

pub absent : (items : List ℕ) (places : List (Option ℕ)) (i : ℕ) → ArePlaces items places → slice_get places i ≡ Some None → Absent items i
absent items places i h e k f = let g : slice_get places i ≡ Some (Some k) = h.placed k i f in let d : Some (Some k) ≡ Some None = sym g ∙ e in cc

pub by_test : (t : Bool) (xs ys : List ℕ) → t ≡ true → (if t then xs else ys) ≡ xs
by_test true xs ys e = refl
by_test false xs ys e = cc

by_no_test : (t : Bool) (xs ys : List ℕ) → t ≡ false → (if t then xs else ys) ≡ ys
by_no_test true xs ys e = cc
by_no_test false xs ys e = refl

pub is_below : (k n : ℕ) → k < n → nat_lt k n ≡ true
is_below k n l = grind arith

is_not_below : (k n : ℕ) → n ≤ k → nat_lt k n ≡ false
is_not_below k n l = grind arith

pub entry_there : (k i : ℕ) (xs : List ℕ) → IsDistinct xs → slice_get xs k ≡ Some i → with_entry i xs ≡ xs
entry_there k i xs d e =
    by_test (nat_lt (place_of xs i) (length xs)) xs (xs ++ i ∷ []) (ap (λ w. nat_lt w (length xs)) (place_there xs k i d e) ∙ is_below k (length xs) (slice_get_within xs k i e))

pub entry_absent : (i : ℕ) (xs : List ℕ) → Absent xs i → with_entry i xs ≡ xs ++ i ∷ []
entry_absent i xs a =
    by_no_test (nat_lt (place_of xs i) (length xs)) xs (xs ++ i ∷ []) (ap (λ w. nat_lt w (length xs)) (place_absent xs i a) ∙ is_not_below (length xs) (length xs) (omega arith))

pub entry_stays : (k i : ℕ) (xs : List ℕ) (places : List (Option ℕ)) → ArePlaces xs places → slice_get places i ≡ Some (Some k) → with_entry i xs ≡ xs
entry_stays k i xs places h e = entry_there k i xs (once_placed xs places h) (h.back k i e)

pub entry_new : (i : ℕ) (xs : List ℕ) (places : List (Option ℕ)) → ArePlaces xs places → slice_get places i ≡ Some None → with_entry i xs ≡ xs ++ i ∷ []
entry_new i xs places h e = entry_absent i xs (absent xs places i h e)

pub places_push : (items : List ℕ) (places : List (Option ℕ)) (i : ℕ) → ArePlaces items places → slice_get places i ≡ Some None → ArePlaces (items ++ i ∷ []) (set places i (Some (length items)))
places_push items places i h e = record {
  few = rw length-set h.few;
  placed = λ k j f.
      elim (at_push items i k j f) [
        | inl p ↦ set_elsewhere places i j (Some (length items)) (λ s. absent items places i h e k (p ∙ ap (λ w. Some w) s)) ∙ h.placed k j p
        | inr p ↦ subst (λ w. slice_get (set places i (Some (length items))) w ≡ Some (Some k)) p.1 (set_at places i None (Some (length items)) e ∙ ap (λ w. Some (Some w)) (sym p.0))
      ];
  back = λ k j f.
      elim (cases_eq j i) [
        | inl s ↦
            let g : Some (Some (length items)) ≡ Some (Some k) = sym (set_at places i None (Some (length items)) e) ∙ ap (λ w. slice_get (set places i (Some (length items))) w) (sym s) ∙ f in
            let at : length items ≡ k = same_Some (length items) k (same_Some (Some (length items)) (Some k) g) in
            subst (λ w. slice_get (items ++ i ∷ []) w ≡ Some j) at (at_end items i ∙ ap (λ w. Some w) (sym s))
        | inr n ↦ at_left items (i ∷ []) k j (h.back k j (sym (set_elsewhere places i j (Some (length items)) n) ∙ f))
      ];
}

pub some_is : (o : Option ℕ) → is_some o ≡ true → (k : ℕ) × (o ≡ Some k)
some_is None e = cc
some_is (Some k) e = (k, refl)

pub none_is : (o : Option ℕ) → is_some o ≡ false → o ≡ None
none_is None e = refl
none_is (Some k) e = cc

pub read_below : (items : List ℕ) (places : List (Option ℕ)) (k i : ℕ) → ArePlaces items places → k < length items → i ≡ get_or items k i → i < length places
read_below items places k i h l e = slice_get_within places i (Some k) (h.placed k i (slice_get-get_or items k i l ∙ ap (λ w. Some w) (sym e)))

-- what is read of a number is its place

read_is : (places : List (Option ℕ)) (i : ℕ) (o p : Option ℕ) → i < length places → o ≡ get_or places i o → o ≡ p → slice_get places i ≡ Some p
read_is places i o p l e f = slice_get_read places (length places) i o refl l e ∙ ap (λ w. Some w) f

pub place_read : (items : List ℕ) (places : List (Option ℕ)) (i k : ℕ) (o : Option ℕ) → ArePlaces items places → i < length places → o ≡ get_or places i o → o ≡ Some k → k ≡ place_of items i
place_read items places i k o h l e f = sym (place_there items k i (once_placed items places h) (h.back k i (read_is places i o (Some k) l e f)))

pub place_few : (items : List ℕ) (places : List (Option ℕ)) (i k : ℕ) (o : Option ℕ) → ArePlaces items places → i < length places → o ≡ get_or places i o → o ≡ Some k → k < length places
place_few items places i k o h l e f = let w = slice_get_within items k i (h.back k i (read_is places i o (Some k) l e f)) in let m = few_placed items places h in omega arith

pub place_none : (items : List ℕ) (places : List (Option ℕ)) (i : ℕ) (o : Option ℕ) → ArePlaces items places → i < length places → o ≡ get_or places i o → o ≡ None → length items ≡ place_of items i
place_none items places i o h l e f = sym (place_absent items i (absent items places i h (read_is places i o None l e f)))
