-- The first places of nodes, one more.
use Rattle.std.specs.Prelude.{◌≡◌, ℕ, zero, suc, ◌+◌, ◌-◌, ◌<◌, ◌≤◌, ◌≢◌, List, [], ◌∷◌, ◌++◌, length, slice_get, get_or, ltb, true, false, Some}
use Rattle.std.proofs.Common.{refl, set, ap, sym, ◌∙◌, subst, inl, inr, arith}
use Rattle.std.proofs.lemmas.List.{length-set}
use Rattle.std.proofs.lemmas.Bool.{cases_eq, cases_lt, ltb-true, ltb-false}
use Rattle.std.proofs.lemmas.Option.{same_Some, slice_get_within, slice_get_read}
use Rattle.amf_graph.specs.Order.{Absent}
use Rattle.amf_graph.proofs.Lists.{at_left, at_end, at_push, length_pushed}
use Rattle.amf_tables.specs.FirstPlace.{IsFirstPlace}
use Rattle.amf_tables.specs.NodePlaces.{ArePlacesOf}
use Rattle.amf_tables.specs.declared.node_table.TheConstants.{NONE, MAX_NODES}

pub set_at : {X : Type 0} (xs : List X) (i : ℕ) (x y : X) → slice_get xs i ≡ Some x → slice_get (set xs i y) i ≡ Some y
set_at [] i x y e = cc
set_at (z ∷ xs) zero x y e = refl
set_at (z ∷ xs) (suc i) x y e = set_at xs i x y e

pub set_elsewhere : {X : Type 0} (xs : List X) (i j : ℕ) (y : X) → (j ≡ i → ⊥) → slice_get (set xs i y) j ≡ slice_get xs j
set_elsewhere [] i j y n = refl
set_elsewhere (z ∷ xs) zero zero y n = absurd (n refl)
set_elsewhere (z ∷ xs) zero (suc j) y n = refl
set_elsewhere (z ∷ xs) (suc i) zero y n = refl
set_elsewhere (z ∷ xs) (suc i) (suc j) y n = set_elsewhere xs i j y (λ e. n (ap suc e))

-- one more behind all
pub absent_more : {X : Type 0} (xs : List X) (x y : X) → Absent xs x → (y ≡ x → ⊥) → Absent (xs ++ y ∷ []) x
absent_more xs x y none other k e = elim (at_push xs y k x e) [ inl f ↦ none k f | inr p ↦ other p.1 ]

pub first_more : {X : Type 0} (xs : List X) (x y : X) (k : ℕ) → IsFirstPlace xs x k → IsFirstPlace (xs ++ y ∷ []) x k
first_more xs x y k first = (
  at_left xs (y ∷ []) k x first.0,
  λ j before e.
      elim (at_push xs y j x e) [
        | inl f ↦ first.1 j before f
        | inr p ↦ let within = slice_get_within xs k x first.0 in let at = p.0 in absurd (omega (arith, within, before, at))
      ],
)

pub first_new : {X : Type 0} (xs : List X) (x : X) → Absent xs x → IsFirstPlace (xs ++ x ∷ []) x (length xs)
first_new xs x none = (
  at_end xs x,
  λ j before e.
      elim (at_push xs x j x e) [
        | inl f ↦ none j f
        | inr p ↦ let at = p.0 in absurd (omega (arith, before, at))
      ],
)

no_noting : (k : ℕ) → Some NONE ≡ Some k → k ≢ NONE → ⊥
no_noting k e other = other (sym (same_Some NONE k e))

other_sum : (own i j : ℕ) → (j ≡ i → ⊥) → own + i ≡ own + j → ⊥
other_sum own i j n e = n (omega (arith, e))

-- no table has a place
pub no_places : ArePlacesOf 0 [] []
no_places = record { own_place = λ k l. absurd (omega (arith, l)); noted = λ i k e other. cc; blank = λ i e. cc; past = λ i long k e. cc }

-- room for one number more
pub room_more : (own : ℕ) (nodes places : List ℕ) → ArePlacesOf own nodes places → ArePlacesOf own nodes (places ++ NONE ∷ [])
room_more own nodes places h = record {
  own_place = h.own_place;
  noted = λ i k e other. elim (at_push places NONE i k e) [ inl f ↦ h.noted i k f other | inr p ↦ absurd (other (sym p.1)) ];
  blank = λ i e. elim (at_push places NONE i NONE e) [ inl f ↦ h.blank i f | inr p ↦ let at = p.0 in h.past i (omega (arith, at)) ];
  past = λ i long. h.past i (omega (arith, length_pushed places NONE));
}

-- a node that has its number for its place
pub own_first : (own : ℕ) (nodes places : List ℕ) (k : ℕ) → ArePlacesOf own nodes places → k < own → IsFirstPlace nodes k k
own_first own nodes places k h l = (
  h.own_place k l,
  λ j before e. let s = same_Some j k (sym (h.own_place j (omega (arith, before, l))) ∙ e) in absurd (omega (arith, before, s)),
)

pub own_within : (own : ℕ) (nodes places : List ℕ) (k : ℕ) → ArePlacesOf own nodes places → length nodes ≤ MAX_NODES → k < own → k < MAX_NODES
own_within own nodes places k h few l = let within = slice_get_within nodes k k (h.own_place k l) in omega (arith, within, few)

-- one more such node, where there are no others
pub own_next : (own next : ℕ) (nodes places : List ℕ) → ArePlacesOf own nodes places → length nodes ≡ own → next ≡ own + 1 → ArePlacesOf next (nodes ++ own ∷ []) places
own_next own next nodes places h all e = record {
  own_place = λ k l.
      elim (cases_eq k own) [
        | inl s ↦ subst (λ w. slice_get (nodes ++ own ∷ []) w ≡ Some w) (sym s) (subst (λ w. slice_get (nodes ++ own ∷ []) w ≡ Some own) all (at_end nodes own))
        | inr n ↦ at_left nodes (own ∷ []) k k (h.own_place k (below k l n))
      ];
  noted = λ i k f other. absurd (none_behind k (own + i) (omega arith) (h.noted i k f other).0.0);
  blank = λ i f. behind i;
  past = λ i long. behind i;
}
  where
    below : (k : ℕ) → k < next → (k ≡ own → ⊥) → k < own
    below k l n = elim (cases_lt k own) [ inl b ↦ b | inr b ↦ absurd (n (omega (arith, b, l, e))) ]

    none_behind : (k x : ℕ) → own ≤ x → slice_get nodes k ≡ Some x → ⊥
    none_behind k x far f =
        let within = slice_get_within nodes k x f in
        let s = same_Some k x (sym (h.own_place k (omega (arith, within, all))) ∙ f) in
        omega (arith, within, all, far, s)

    behind : (i : ℕ) → Absent (nodes ++ own ∷ []) (next + i)
    behind i = absent_more nodes (next + i) own (λ k f. none_behind k (next + i) (omega (arith, e)) f) (λ s. omega (arith, s, e))

-- one more that has its number for its place already
pub own_more : (own : ℕ) (nodes places : List ℕ) (i : ℕ) → ArePlacesOf own nodes places → i < own → ArePlacesOf own (nodes ++ i ∷ []) places
own_more own nodes places i h l = record {
  own_place = λ k m. at_left nodes (i ∷ []) k k (h.own_place k m);
  noted = λ j n e other. let old = h.noted j n e other in (first_more nodes (own + j) i n old.0, old.1);
  blank = λ j e. absent_more nodes (own + j) i (h.blank j e) (λ s. omega (arith, l, s));
  past = λ j long. absent_more nodes (own + j) i (h.past j long) (λ s. omega (arith, l, s));
}

-- one more whose place is noted
pub known_more : (own : ℕ) (nodes places : List ℕ) (i k : ℕ) → ArePlacesOf own nodes places → slice_get places i ≡ Some k → k ≢ NONE → ArePlacesOf own (nodes ++ (own + i) ∷ []) places
known_more own nodes places i k h at there = record {
  own_place = λ j m. at_left nodes ((own + i) ∷ []) j j (h.own_place j m);
  noted = λ j n e other. let old = h.noted j n e other in (first_more nodes (own + j) (own + i) n old.0, old.1);
  blank = λ j e. absent_more nodes (own + j) (own + i) (h.blank j e) (other_sum own i j (λ s. no_noting k (sym (subst (λ w. slice_get places w ≡ Some NONE) s e) ∙ at) there));
  past = λ j long. absent_more nodes (own + j) (own + i) (h.past j long) (other_sum own i j (λ s. let within = slice_get_within places i k at in absurd (omega (arith, within, long, s))));
}

-- one more that had no place
pub new_more : (own : ℕ) (nodes places : List ℕ) (i : ℕ) → ArePlacesOf own nodes places → slice_get places i ≡ Some NONE → length nodes < MAX_NODES → ArePlacesOf own (nodes ++ (own + i) ∷ []) (set places i (length nodes))
new_more own nodes places i h at few = record {
  own_place = λ j m. at_left nodes ((own + i) ∷ []) j j (h.own_place j m);
  noted = λ j k e other.
      elim (cases_eq j i) [
        | inl s ↦
            let n : length nodes ≡ k = same_Some (length nodes) k (sym (set_at places i NONE (length nodes) at) ∙ ap (λ w. slice_get (set places i (length nodes)) w) (sym s) ∙ e) in
            (subst (λ w. IsFirstPlace (nodes ++ (own + i) ∷ []) (own + w) k) (sym s) (subst (λ w. IsFirstPlace (nodes ++ (own + i) ∷ []) (own + i) w) n (first_new nodes (own + i) (h.blank i at))), subst (λ w. w < MAX_NODES) n few)
        | inr n ↦
            let old = h.noted j k (sym (set_elsewhere places i j (length nodes) n) ∙ e) other in
            (first_more nodes (own + j) (own + i) k old.0, old.1)
      ];
  blank = λ j e.
      elim (cases_eq j i) [
        | inl s ↦
            let n : length nodes ≡ NONE = same_Some (length nodes) NONE (sym (set_at places i NONE (length nodes) at) ∙ ap (λ w. slice_get (set places i (length nodes)) w) (sym s) ∙ e) in
            absurd (omega (arith, few, n))
        | inr n ↦ absent_more nodes (own + j) (own + i) (h.blank j (sym (set_elsewhere places i j (length nodes) n) ∙ e)) (other_sum own i j n)
      ];
  past = λ j long.
      let within = slice_get_within places i NONE at in
      let same = length-set places i (length nodes) in
      absent_more nodes (own + j) (own + i) (h.past j (omega (arith, long, same))) (other_sum own i j (λ s. absurd (omega (arith, within, long, same, s))));
}

-- a node of which nothing is noted
pub blank_absent : (own : ℕ) (nodes places : List ℕ) (node : ℕ) → ArePlacesOf own nodes places → own ≤ node → slice_get places (node - own) ≡ Some NONE → Absent nodes node
blank_absent own nodes places node h l e = let back : own + (node - own) ≡ node = omega (arith, l) in subst (Absent nodes) back (h.blank (node - own) e)

pub past_absent : (own : ℕ) (nodes places now : List ℕ) (node : ℕ) → ArePlacesOf own nodes places → own ≤ node → now ≡ places → false ≡ ltb (node - own) (length now) → Absent nodes node
past_absent own nodes places now node h l same e =
    let back : own + (node - own) ≡ node = omega (arith, l) in
    subst (Absent nodes) back (h.past (node - own) (subst (λ w. length w ≤ node - own) same (ltb-false (node - own) (length now) (sym e))))

-- what `get` gives
pub place_read : (xs : List ℕ) (i x : ℕ) → true ≡ ltb i (length xs) → x ≡ get_or xs i x → slice_get xs i ≡ Some x
place_read xs i x within e = slice_get_read xs (length xs) i x refl (ltb-true i (length xs) (sym within)) e
