-- The steps of a walk over a stack of values.
use Rattle.std.proofs.Common.{◌≡◌, ℕ, zero, suc, ◌<◌, Bool, true, false, List, [], ◌∷◌, ◌++◌, length, reverse, set, slice_get, Some, sym, refl, ap, ◌∙◌, subst, inl, inr, arith}
use Rattle.std.specs.List.{AllByRecursion}
use Rattle.std.proofs.lemmas.List.{map-append, reverse-append, reverse-reverse}
use Rattle.std.proofs.lemmas.Bool.{cases_eq}
use Rattle.amf_graph.specs.declared.value.Value.{Value as Stored}
use Rattle.amf_graph.specs.declared.value.NodeId.{NodeId}
use Rattle.amf_graph.specs.declared.value.Value.TheVariants.{Node as NodeRef}
use Rattle.amf_graph.specs.Graph.{Value, Graph, node_at}
use Rattle.amf_graph.specs.Order.{Absent, values_met, Walks, past, again, first}
use Rattle.amf_graph.specs.Renumbered.{numbers_of}
use Rattle.amf_graph.specs.Arena.{Arena, value_content}
use Rattle.amf_graph.proofs.Lists.{at_left, at_end, at_push}
use Rattle.amf_graph.proofs.Walks.{each_left, each_right}
use Rattle.amf_iso.specs.Contents.{values_of}
use Rattle.amf3_write.specs.Found.{AreSeen}
use Rattle.amf3_write.proofs.Wrote.{each_append}

pub all_reverse : {X : Type 0} (P : X → Type 0) (xs : List X) → AllByRecursion P xs → AllByRecursion P (reverse xs)
all_reverse P [] h = tt
all_reverse P (x ∷ xs) h = rw (reverse-append (x ∷ []) xs) (each_append P (reverse xs) (x ∷ []) (all_reverse P xs h.1) (h.0, tt))

-- the stack, the top first
abbrev pub stacked : Arena → List Stored → List Value
stacked a ws = values_of a (reverse ws)

popped : (a : Arena) (ws : List Stored) (v : Stored) → stacked a (ws ++ v ∷ []) ≡ value_content a v ∷ stacked a ws
popped a ws v = ap (values_of a) (reverse-append ws (v ∷ []))

pushed : (a : Arena) (ws vs : List Stored) → stacked a (ws ++ reverse vs) ≡ values_of a vs ++ stacked a ws
pushed a ws vs = ap (values_of a) (reverse-append ws (reverse vs) ∙ ap (λ w. w ++ reverse ws) (reverse-reverse vs)) ∙ map-append (value_content a) vs (reverse ws)

-- the nodes met before, and those found since
abbrev pub met_then : List NodeId → List NodeId → List ℕ
met_then met found = numbers_of met ++ numbers_of found

-- where a walk over these ends, one over what the walk began with does
abbrev pub Ends : Graph → List ℕ → List Value → List ℕ → List Value → Type 0
Ends g met0 from met vs = (all : List ℕ) → Walks g met vs all → Walks g met0 from all

module _ (g : Graph) (a : Arena) (met0 : List ℕ) (from : List Value) (met : List ℕ) where
  pub past_leaf : (all_values ws : List Stored) (v : Stored) → all_values ≡ ws ++ v ∷ [] → ((n : NodeId) → v ≡ NodeRef n → ⊥) → Ends g met0 from met (stacked a all_values) → Ends g met0 from met (stacked a ws)
  past_leaf all_values ws v e n h all w = go v n (ap (stacked a) e ∙ popped a ws v)
    where
      go : (u : Stored) → ((n : NodeId) → u ≡ NodeRef n → ⊥) → stacked a all_values ≡ value_content a u ∷ stacked a ws → Walks g met0 from all
      go (NodeRef i) n p = absurd (n i refl)
      go _ n p = h all (subst (λ z. Walks g met z all) (sym p) (past _ w))

  pub met_again : (all_values ws : List Stored) (i : NodeId) (k : ℕ) → all_values ≡ ws ++ NodeRef i ∷ [] → slice_get met k ≡ Some i.0 → Ends g met0 from met (stacked a all_values) → Ends g met0 from met (stacked a ws)
  met_again all_values ws i k e f h all w = h all (subst (λ z. Walks g met z all) (sym (ap (stacked a) e ∙ popped a ws (NodeRef i))) (again i.0 k f w))

  pub met_first : (all_values ws vs : List Stored) (i : NodeId) → all_values ≡ ws ++ NodeRef i ∷ [] → i.0 < length g.nodes → Absent met i.0 → values_of a vs ≡ values_met (node_at g i.0) → Ends g met0 from met (stacked a all_values)
      → Ends g met0 from (met ++ i.0 ∷ []) (stacked a (ws ++ reverse vs))
  met_first all_values ws vs i e l n s h all w =
      h all (subst (λ z. Walks g met z all) (sym (ap (stacked a) e ∙ popped a ws (NodeRef i))) (first i.0 l n (subst (λ z. Walks g (met ++ i.0 ∷ []) z all) (pushed a ws vs ∙ ap (λ z. z ++ stacked a ws) s) w)))

-- Which nodes were met.

set_there : (xs : List Bool) (i : ℕ) (y : Bool) → i < length xs → slice_get (set xs i y) i ≡ Some y
set_there [] i y l = absurd (omega arith)
set_there (z ∷ xs) zero y l = refl
set_there (z ∷ xs) (suc i) y l = set_there xs i y (omega arith)

set_elsewhere : (xs : List Bool) (i j : ℕ) (y : Bool) → (j ≡ i → ⊥) → slice_get (set xs i y) j ≡ slice_get xs j
set_elsewhere [] i j y n = refl
set_elsewhere (z ∷ xs) zero zero y n = absurd (n refl)
set_elsewhere (z ∷ xs) zero (suc j) y n = refl
set_elsewhere (z ∷ xs) (suc i) zero y n = refl
set_elsewhere (z ∷ xs) (suc i) (suc j) y n = set_elsewhere xs i j y (λ e. n (ap suc e))

pub not_seen : (met : List ℕ) (seen : List Bool) (i : ℕ) → AreSeen met seen → slice_get seen i ≡ Some false → Absent met i
not_seen met seen i s e k f = let g : slice_get seen i ≡ Some true = s.marked k i f in let d : Some true ≡ Some false = sym g ∙ e in cc

pub seen_push : (met : List ℕ) (seen : List Bool) (i : ℕ) → AreSeen met seen → i < length seen → AreSeen (met ++ i ∷ []) (set seen i true)
seen_push met seen i s l = record {
  marked = λ k j e. elim (at_push met i k j e) [
    | inl p ↦ elim (cases_eq j i) [
      | inl q ↦ subst (λ w. slice_get (set seen i true) w ≡ Some true) (sym q) (set_there seen i true l)
      | inr n ↦ set_elsewhere seen i j true n ∙ s.marked k j p
    ]
    | inr p ↦ subst (λ w. slice_get (set seen i true) w ≡ Some true) p.1 (set_there seen i true l)
  ];
  among = λ j e. elim (cases_eq j i) [
    | inl q ↦ (length met, at_end met i ∙ ap (λ w. Some w) (sym q))
    | inr n ↦ let o = s.among j (sym (set_elsewhere seen i j true n) ∙ e) in (o.0, at_left met (i ∷ []) o.0 j o.1)
  ];
}

-- What the stack keeps.

pub rest_of : {X : Type 0} (P : X → Type 0) (all ws : List X) (v : X) → all ≡ ws ++ v ∷ [] → AllByRecursion P all → AllByRecursion P ws
rest_of P all ws v e h = each_left P ws (v ∷ []) (subst (λ w. AllByRecursion P w) e h)

pub top_of : {X : Type 0} (P : X → Type 0) (all ws : List X) (v : X) → all ≡ ws ++ v ∷ [] → AllByRecursion P all → P v
top_of P all ws v e h = (each_right P ws (v ∷ []) (subst (λ w. AllByRecursion P w) e h)).0
