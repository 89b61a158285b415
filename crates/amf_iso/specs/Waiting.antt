-- The nodes among values, by their numbers. A device of proofs.
use Rattle.std.specs.Prelude.{ℕ, List, [], ◌∷◌, ◌++◌, map}
use Rattle.amf_graph.specs.declared.value.Value.{Value as Stored}
use Rattle.amf_graph.specs.declared.value.Value.TheVariants.{Node as NodeRef}
use Rattle.amf_graph.specs.declared.value.TextId.{TextId}
use Rattle.amf_graph.specs.Graph as graph

abbrev pub node_of : Stored → List ℕ
node_of (NodeRef n) = n.0 ∷ []
node_of _ = []

abbrev pub nodes_of : List Stored → List ℕ
nodes_of [] = []
nodes_of (v ∷ vs) = node_of v ++ nodes_of vs

abbrev pub seconds_of : List (TextId × Stored) → List Stored
seconds_of ps = map (λ p. p.1) ps

-- and by content

abbrev pub number_of : graph.Value → List ℕ
number_of (graph.leaf x) = []
number_of (graph.node i) = i ∷ []

abbrev pub node_numbers : List graph.Value → List ℕ
node_numbers [] = []
node_numbers (v ∷ vs) = number_of v ++ node_numbers vs
