-- Which values are met more than once: those for which AMF 0 owes an index (2.9).
use Rattle.std.specs.Prelude.{◌≡◌, ℕ, ◌<◌, List, ◌∷◌, slice_get, Some}
use Rattle.std.specs.List.{flat_map}
use Rattle.amf_graph.specs.Graph.{Value, Graph, node_at}
use Rattle.amf_graph.specs.Order.{values_met}

-- all values that are met, the root and those of the nodes in this order
abbrev pub all_met : Graph → List ℕ → List Value
all_met g order = g.root ∷ flat_map (λ i. values_met (node_at g i)) order

-- the value stands at two places
abbrev pub IsTwice : {X : Type 0} → List X → X → Type 0
IsTwice xs x = (j : ℕ) × (k : ℕ) × (j < k) × (slice_get xs j ≡ Some x) × (slice_get xs k ≡ Some x)
