-- The graph that a canonical JSON means is the one of which it is told, but for the numbers of its nodes.
use Rattle.std.specs.Prelude.{Bool, true, false, map}
use Rattle.amf_wire.specs.WholeNumbers.{whole_of}
use Rattle.amf_graph.specs.Graph.{Leaf, double, Value, leaf, node, Node, Graph}
use Rattle.amf_graph.specs.Isomorphic.{Isomorphic}
use Rattle.amf_graph.specs.Reached.{IsWhole}
use Rattle.amf_text.specs.Scalars.{Digits}
use Rattle.amf_text.specs.Told.{Way}
use Rattle.amf_text.specs.Texts.{IsWay}
use Rattle.amf_text.specs.Meant.{as_integer}
use Rattle.amf_text.specs.Linked.{graph_of}
use Rattle.amf_text.specs.Accepted.{Part}
use Rattle.amf_text.specs.DocumentLaws.{IsFew}
use Rattle.amf_text.specs.ValueLaws.{part_of}

-- with other leaves

abbrev pub value_with : (Leaf → Leaf) → Value → Value
value_with f (leaf x) = leaf (f x)
value_with f (node i) = node i

abbrev pub node_with : (Leaf → Leaf) → Node → Node
node_with f n = record { head = n.head; names = map (λ p. (p.0, value_with f p.1)) n.names; values = map (value_with f) n.values }

abbrev pub graph_with : (Leaf → Leaf) → Graph → Graph
graph_with f g = record { nodes = map (node_with f) g.nodes; root = value_with f g.root }

-- an integer in place of a double that it could stand for
abbrev pub narrowed : Leaf → Leaf
narrowed (double p) = as_integer p (whole_of p)
narrowed x = x

-- what is told bare is read with integers
abbrev pub ReadsAs : Bool → Graph → Graph → Type 0
ReadsAs false g h = Isomorphic g h
ReadsAs true g h = Isomorphic (graph_with narrowed g) h

abbrev pub graph_meant : Part → Graph
graph_meant p = graph_of p.table p.root

abbrev pub GraphIsRead : Type 0
GraphIsRead = (digits : Digits) (bare : Bool) (g : Graph) (w : Way) → IsWhole g → IsFew g → IsWay digits bare g w → ReadsAs bare g (graph_meant (part_of w g))
