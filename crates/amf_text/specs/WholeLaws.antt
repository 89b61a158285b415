-- The graphs that a text means are whole: what stands in them is such as the formats have, and what they name is there.
use Rattle.std.specs.Prelude.{ℕ, ◌<◌, List, length}
use Rattle.std.specs.List.{AllByRecursion}
use Rattle.amf_graph.specs.Graph.{Value, leaf, node, Node, Graph, IsLeaf, Fits, HasTexts}
use Rattle.amf_text.specs.Scalars.{read_number}
use Rattle.amf_text.specs.Documents.{Document}
use Rattle.amf_text.specs.Accepted.{Means}
use Rattle.amf_text.specs.Tellable.{EachGraph, IsTellable}

-- among so many nodes
abbrev pub IsSoundValue : ℕ → Value → Type 0
IsSoundValue count (leaf x) = IsLeaf x
IsSoundValue count (node i) = i < count

pub record IsSoundNode (count : ℕ) (a : Node) : Type 0 where
  pub texts : HasTexts a
  pub fits : Fits a.head a.names a.values
  pub names : AllByRecursion (λ p. IsSoundValue count p.1) a.names
  pub values : AllByRecursion (IsSoundValue count) a.values

-- each of its nodes, whether the root leads to it or not
pub record IsSoundGraph (g : Graph) : Type 0 where
  pub root : IsSoundValue (length g.nodes) g.root
  pub nodes : AllByRecursion (IsSoundNode (length g.nodes)) g.nodes

pub record WholeLaws : Type 0 where
  pub sound : (text : List ℕ) (d : Document Graph) → Means read_number text d → EachGraph IsSoundGraph d
  -- so it has a canonical text
  pub tellable : (text : List ℕ) (d : Document Graph) → Means read_number text d → IsTellable d
