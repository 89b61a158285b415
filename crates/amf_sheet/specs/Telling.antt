-- What a sheet holds: an arena of which the nodes are told in any order (AMF 3, 3.2 to 3.16: the kinds of values).
use Rattle.std.specs.Prelude.{◌≡◌, ℕ, ◌*◌, false, List, [], length, set}
use Rattle.std.specs.List.{AllByRecursion}
use Rattle.amf_graph.specs.declared.value.Value.{Value as Stored}
use Rattle.amf_graph.specs.declared.value.TextId.{TextId}
use Rattle.amf_graph.specs.declared.shape.Shape.{Shape}
use Rattle.amf_graph.specs.declared.leaf.Leaf.{Leaf}
use Rattle.amf_graph.specs.Graph as graph
use Rattle.amf_graph.specs.Graph.{AreMembers}
use Rattle.amf_graph.specs.Arena.{Arena, StoredNode, array, head_content, node_content, HeadNames, IsTextId, Names}
use Rattle.amf_graph.specs.Bounds.{NodeWithin}
use Rattle.amf_graph.specs.Building.{begun, closed, shape_head, leaf_head}
use Rattle.amf_graph.specs.Views.{named}

-- a node that has a number, and of which nothing is told yet
abbrev pub untold : StoredNode
untold = begun array

-- one that takes parts, with its names and values; of a dictionary each key and then its value
abbrev pub told : Shape → List (TextId × Stored) → List Stored → StoredNode
told shape names values = closed (shape_head shape) (named names) values

-- one without parts
abbrev pub told_leaf : Leaf → StoredNode
told_leaf l = closed (leaf_head l) [] []

-- the arena with this node under this number
abbrev pub with_node : ℕ → StoredNode → Arena → Arena
with_node i n a = record { texts = a.texts; traits = a.traits; nodes = set a.nodes i n }

-- the numbers of parts that each kind has; a node without parts is told without any
abbrev pub HasParts : graph.Head → List (List ℕ × graph.Value) → List graph.Value → Type 0
HasParts graph.array names values = Unit {0}
HasParts (graph.object t) names values = (length values ≡ length t.sealed) × AreMembers t.dynamic names
HasParts (graph.wrapper c) names values = (names ≡ []) × (length values ≡ 1)
HasParts (graph.values f x) names values = names ≡ []
HasParts (graph.dictionary f) names values = (names ≡ []) × (n : ℕ) × (length values ≡ 2 * n)
HasParts _ names values = Unit {0}

-- the node is told, what it names is there, and it has the parts of its kind, no more than the headers of AMF 3 have room for
pub record IsTold (a : Arena) (n : StoredNode) : Type 0 where
  pub complete : n.is_open ≡ false
  pub head : HeadNames a n.head
  pub names : AllByRecursion (λ p. IsTextId a p.0 × Names a p.1) n.names
  pub values : AllByRecursion (Names a) n.values
  pub parts : HasParts (head_content a n.head) (node_content a n).names (node_content a n).values
  pub within : NodeWithin n

abbrev pub AreAllTold : Arena → Type 0
AreAllTold a = AllByRecursion (IsTold a) a.nodes
