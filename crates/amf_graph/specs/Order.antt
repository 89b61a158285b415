-- The canonical order of the reached nodes: the order in which AMF 3 lays out their values (3.11, 3.12, 3.15, 3.16).
use Rattle.std.specs.Prelude.{◌≡◌, ◌≢◌, ℕ, ◌<◌, Bool, true, false, cond, List, [], ◌∷◌, ◌++◌, map, length, slice_get, Some}
use Rattle.amf_graph.specs.Graph.{Leaf, Value, leaf, node, Head, array, Node, Graph, node_at}
use Rattle.amf_graph.specs.ByName.{by_name}

-- x is not in the list
abbrev pub Absent : {X : Type 0} → List X → X → Type 0
Absent xs x = (k : ℕ) → slice_get xs k ≢ Some x

-- no number stands twice
abbrev pub IsDistinct : List ℕ → Type 0
IsDistinct xs = (j k i : ℕ) → slice_get xs j ≡ Some i → slice_get xs k ≡ Some i → j ≡ k

abbrev pub is_array : Head → Bool
is_array array = true
is_array _ = false

abbrev pub seconds : List (List ℕ × Value) → List Value
seconds ps = map (λ p. p.1) ps

-- the values of a node in the order in which they are met: named pairs in by-name order, an array's before its items, an object's members behind its sealed values
abbrev pub values_met : Node → List Value
values_met a = cond (is_array a.head) (seconds (by_name a.names) ++ a.values) (a.values ++ seconds (by_name a.names))

-- from the nodes met before, over the values still to be gone through, to the nodes met in the end
pub data Walks (g : Graph) : List ℕ → List Value → List ℕ → Type 0 where
  over : {met : List ℕ} → Walks g met [] met
  past : {met all : List ℕ} {vs : List Value} (x : Leaf) → Walks g met vs all → Walks g met (leaf x ∷ vs) all
  again : {met all : List ℕ} {vs : List Value} (i k : ℕ) → slice_get met k ≡ Some i → Walks g met vs all → Walks g met (node i ∷ vs) all
  first : {met all : List ℕ} {vs : List Value} (i : ℕ) → i < length g.nodes → Absent met i → Walks g (met ++ i ∷ []) (values_met (node_at g i) ++ vs) all → Walks g met (node i ∷ vs) all

-- the reached nodes, each at its first meeting and before its parts
abbrev pub IsOrder : Graph → List ℕ → Type 0
IsOrder g order = Walks g [] (g.root ∷ []) order
