-- What a builder finishes: a whole graph by content, small where the builder was within bounds, and complete as it is.
use Rattle.amf_graph.specs.declared.value.Value.{Value as Stored}
use Rattle.amf_graph.specs.Reached.{IsWhole}
use Rattle.amf_graph.specs.Small.{IsSmall}
use Rattle.amf_graph.specs.Bounds.{IsWithinBounds}
use Rattle.amf_graph.specs.Arena.{Arena, graph_of, IsFinished, Names, Completes}

pub record FinishedFacts : Type 0 where
  pub whole : (a : Arena) (root : Stored) → IsFinished a → Names a root → IsWhole (graph_of a root)
  pub small : (a : Arena) (root : Stored) → IsFinished a → IsWithinBounds a → Names a root → IsSmall (graph_of a root)
  pub complete : (a : Arena) → IsFinished a → Completes a a
