-- Texts of which the last are not hashed yet: one more of them is hashed, and where a text stands first.
use Rattle.std.specs.Prelude.{◌≡◌, ◌≢◌, ℕ, zero, suc, ◌+◌, ◌-◌, ◌<◌, ◌≤◌, ◌⊎◌, List, [], ◌∷◌, ◌++◌, length, drop, slice_get, get_or, Some}
use Rattle.std.proofs.Common.{refl, ap, sym, ◌∙◌, subst, inl, inr, arith}
use Rattle.std.proofs.lemmas.Bool.{cases_eq}
use Rattle.std.proofs.lemmas.List.{append_assoc, length-append, length-drop, drop_more, get_or-drop, get_or-append-add}
use Rattle.std.proofs.lemmas.Option.{same_Some, slice_get_within, slice_get_read, slice_get-get_or, get_or_from_slice_get}
use Rattle.amf_graph.specs.Order.{Absent}
use Rattle.amf_graph.proofs.Lists.{at_left}
use Rattle.amf3_spelling.specs.Words3.{NoPlaceBelow}
use Rattle.amf_tables.specs.FirstPlace.{IsFirstPlace}
use Rattle.amf_tables.specs.LateTexts.{AreLate}
use Rattle.amf_tables.specs.declared.first_places.TheConstants.{MAX_ENTRIES}

-- What stands in one list behind another.

at_either : {X : Type 0} (xs ys : List X) (k : ℕ) (x : X) → slice_get (xs ++ ys) k ≡ Some x → (slice_get xs k ≡ Some x) ⊎ ((j : ℕ) × (k ≡ length xs + j) × (slice_get ys j ≡ Some x))
at_either [] ys k x e = inr (k, omega arith, e)
at_either (z ∷ xs) ys zero x e = inl e
at_either (z ∷ xs) ys (suc k) x e = elim (at_either xs ys k x e) [ inl f ↦ inl f | inr p ↦ let at = p.1 in inr (p.0, omega (arith, at), p.2) ]

at_behind : {X : Type 0} (xs ys : List X) (k : ℕ) (x : X) → slice_get ys k ≡ Some x → slice_get (xs ++ ys) (length xs + k) ≡ Some x
at_behind xs ys k x e =
    let within = slice_get_within ys k x e in
    let long = length-append xs ys in
    slice_get_read (xs ++ ys) (length (xs ++ ys)) (length xs + k) x refl (omega (arith, within, long)) (sym (get_or-append-add xs ys k x ∙ get_or_from_slice_get ys k x x e))

pub first_front : {X : Type 0} (xs ys : List X) (x : X) (k : ℕ) → IsFirstPlace xs x k → IsFirstPlace (xs ++ ys) x k
first_front xs ys x k first = (
  at_left xs ys k x first.0,
  λ j before e.
      elim (at_either xs ys j x e) [
        | inl f ↦ first.1 j before f
        | inr p ↦ let within = slice_get_within xs k x first.0 in let at = p.1 in absurd (omega (arith, within, before, at))
      ],
)

pub first_behind : {X : Type 0} (xs ys : List X) (x : X) (k : ℕ) → Absent xs x → IsFirstPlace ys x k → IsFirstPlace (xs ++ ys) x (length xs + k)
first_behind xs ys x k none first = (
  at_behind xs ys k x first.0,
  λ j before e.
      elim (at_either xs ys j x e) [
        | inl f ↦ none j f
        | inr p ↦ let at = p.1 in let l : p.0 < k = omega (arith, before, at) in first.1 p.0 l p.2
      ],
)

pub absent_both : {X : Type 0} (xs ys : List X) (x : X) → Absent xs x → Absent ys x → Absent (xs ++ ys) x
absent_both xs ys x none other j e = elim (at_either xs ys j x e) [ inl f ↦ none j f | inr p ↦ other p.0 p.2 ]

-- One late text more is hashed.

pub one_moved : (hashed hashed' late : List (List ℕ)) (moved : ℕ) (x : List ℕ) → moved < length late → x ≡ get_or late moved [] → hashed' ≡ hashed ++ x ∷ [] → hashed' ++ drop (moved + 1) late ≡ hashed ++ drop moved late
one_moved hashed hashed' late moved x there at is =
    ap (λ w. w ++ drop (moved + 1) late) is ∙ append_assoc hashed (x ∷ []) (drop (moved + 1) late)
    ∙ ap (λ w. hashed ++ w) (ap (λ y. y ∷ drop (moved + 1) late) at ∙ sym (drop_more late moved [] there))

pub late_moved : (hashed hashed' late : List (List ℕ)) (moved moved' : ℕ) → AreLate hashed late moved → hashed' ++ drop moved' late ≡ hashed ++ drop moved late → moved' ≤ length late → AreLate hashed' late moved'
late_moved hashed hashed' late moved moved' h same within = record { within = within; few = subst (λ w. length w ≤ MAX_ENTRIES) (sym same) h.few }

-- The late ones that are not hashed.

pub dropped_get : (late : List (List ℕ)) (moved k : ℕ) → moved ≤ k → k < length late → slice_get (drop moved late) (k - moved) ≡ Some (get_or late k [])
dropped_get late moved k l there =
    let long = length-drop moved late in
    let back : moved + (k - moved) ≡ k = omega (arith, l) in
    slice_get-get_or (drop moved late) (k - moved) [] (omega (arith, long, l, there)) ∙ ap (λ w. Some w) (get_or-drop moved late (k - moved) [] ∙ ap (λ n. get_or late n []) back)

pub none_below_more : {X : Type 0} (xs : List X) (x y : X) (k : ℕ) → NoPlaceBelow k xs x → slice_get xs k ≡ Some y → y ≢ x → NoPlaceBelow (k + 1) xs x
none_below_more xs x y k none there other j before e =
    elim (cases_eq j k) [
      | inl s ↦ other (same_Some y x (sym there ∙ ap (λ n. slice_get xs n) (sym s) ∙ e))
      | inr n ↦ none j (omega (arith, before, n)) e
    ]

pub dropped_first : (late : List (List ℕ)) (moved k : ℕ) (x : List ℕ) → moved ≤ k → k < length late → get_or late k [] ≡ x → NoPlaceBelow (k - moved) (drop moved late) x → IsFirstPlace (drop moved late) x (k - moved)
dropped_first late moved k x l there is none = (dropped_get late moved k l there ∙ ap (λ w. Some w) is, none)

pub dropped_next : (late : List (List ℕ)) (moved k : ℕ) (x : List ℕ) → moved ≤ k → k < length late → get_or late k [] ≢ x → NoPlaceBelow (k - moved) (drop moved late) x → NoPlaceBelow (k + 1 - moved) (drop moved late) x
dropped_next late moved k x l there other none =
    let next : (k - moved) + 1 ≡ k + 1 - moved = omega (arith, l) in
    subst (λ n. NoPlaceBelow n (drop moved late) x) next (none_below_more (drop moved late) x (get_or late k []) (k - moved) none (dropped_get late moved k l there) other)

pub dropped_nowhere : (late : List (List ℕ)) (moved k : ℕ) (x : List ℕ) → length late ≤ k → NoPlaceBelow (k - moved) (drop moved late) x → Absent (drop moved late) x
dropped_nowhere late moved k x all none j e =
    let within = slice_get_within (drop moved late) j x e in
    let long = length-drop moved late in
    none j (omega (arith, within, long, all)) e
