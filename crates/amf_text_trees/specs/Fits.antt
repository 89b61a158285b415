-- Graphs whose nodes have as many parts as their kinds want, and name nodes that are there.
use Rattle.std.specs.Prelude.{◌≡◌, ℕ, ◌*◌, ◌<◌, List, [], length}
use Rattle.std.specs.List.{AllByRecursion}
use Rattle.amf_graph.specs.Graph.{Value, leaf, node, Head, array, object, wrapper, values, dictionary, Node, Graph, AreMembers}
use Rattle.amf_text.specs.Documents.{Document, value3, value0, file, packet}

abbrev pub IsIn : ℕ → Value → Type 0
IsIn n (leaf x) = Unit {0}
IsIn n (node i) = i < n

-- of the contents that a graph's `Fits` speaks of, the numbers of parts alone
abbrev pub HasParts : Head → List (List ℕ × Value) → List Value → Type 0
HasParts array ps vs = Unit {0}
HasParts (object t) ps vs = (length vs ≡ length t.sealed) × AreMembers t.dynamic ps
HasParts (wrapper c) ps vs = (ps ≡ []) × (length vs ≡ 1)
HasParts (values f x) ps vs = ps ≡ []
HasParts (dictionary f) ps vs = (ps ≡ []) × (n : ℕ) × (length vs ≡ 2 * n)
HasParts _ ps vs = (ps ≡ []) × (vs ≡ [])

pub record NodeFits (n : ℕ) (a : Node) : Type 0 where
  pub parts : HasParts a.head a.names a.values
  pub names : AllByRecursion (λ p. IsIn n p.1) a.names
  pub values : AllByRecursion (IsIn n) a.values

pub record GraphFits (g : Graph) : Type 0 where
  pub nodes : AllByRecursion (NodeFits (length g.nodes)) g.nodes
  pub root : IsIn (length g.nodes) g.root

abbrev pub DocumentFits : Document Graph → Type 0
DocumentFits (value3 g) = GraphFits g
DocumentFits (value0 g) = GraphFits g
DocumentFits (file name version g) = GraphFits g
DocumentFits (packet version headers messages) = AllByRecursion (λ h. GraphFits h.graph) headers × AllByRecursion (λ m. GraphFits m.graph) messages
