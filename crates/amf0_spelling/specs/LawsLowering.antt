-- A graph has one lowering, and isomorphic graphs have isomorphic ones.
use Rattle.std.specs.Prelude.{◌≡◌, ℕ, ◌+◌, length}
use Rattle.std.specs.List.{AllByRecursion}
use Rattle.amf_graph.specs.declared.value.Value.{Value as Stored}
use Rattle.amf_graph.specs.Arena.{Arena, graph_of, IsFinished, Names}
use Rattle.amf_graph.specs.Bounds.{IsWithinBounds}
use Rattle.amf_graph.specs.Graph.{Node, Graph, node_at, IsValue}
use Rattle.amf_graph.specs.Isomorphic.{Isomorphic}
use Rattle.amf_graph.specs.Reached.{Reached, IsWhole}
use Rattle.amf_graph.specs.Small.{IsFew, count_of, IsSmall}
use Rattle.amf0_spelling.specs.Lowered.{IsLoweringOf, IsLowered}

abbrev pub HaveValues : Node → Type 0
HaveValues a = AllByRecursion IsValue a.values × AllByRecursion (λ p. IsValue p.1) a.names

-- every value of every node, reached or not, is one that the formats have
pub record IsSound (g : Graph) : Type 0 where
  pub root : IsValue g.root
  pub nodes : AllByRecursion HaveValues g.nodes

-- a node's names and values are few together: lowering moves values from one side of the sum to the other
abbrev pub HasRoom : Graph → Type 0
HasRoom g = (i : ℕ) → Reached g i → IsFew (length (node_at g i).names + count_of (node_at g i).head (length (node_at g i).values))

-- a lowering that AMF 0 may be asked to spell
pub record IsReadyLowering (g h : Graph) : Type 0 where
  pub is : IsLoweringOf g h
  pub whole : IsWhole h
  pub small : IsSmall h
  pub room : HasRoom h

pub record GraphsHaveOneLowering : Type 0 where
  pub exist : (g : Graph) → IsSound g → (h : Graph) × IsLoweringOf g h
  pub alone : (g h k : Graph) → IsLoweringOf g h → IsLoweringOf g k → h ≡ k
  pub lowered : (g h : Graph) → IsLoweringOf g h → IsLowered h
  -- isomorphic graphs have isomorphic lowerings
  pub lowered_alike : (g h low other : Graph) → Isomorphic g h → IsLoweringOf g low → IsLoweringOf h other → Isomorphic low other
  -- what is lowered already is isomorphic to its lowering
  pub same : (g h : Graph) → IsWhole g → IsLowered g → IsLoweringOf g h → Isomorphic g h
  pub whole : (g h : Graph) → IsWhole g → IsLoweringOf g h → IsWhole h
  pub ready : (g h : Graph) → IsWhole g → IsSmall g → HasRoom g → IsLoweringOf g h → IsReadyLowering g h
  -- what a builder finishes within its bounds has a lowering within them
  pub built : (a : Arena) (root : Stored) → IsFinished a → IsWithinBounds a → Names a root → (h : Graph) × IsReadyLowering (graph_of a root) h
