-- Isomorphic is an equivalence of graphs.
use Rattle.amf_graph.specs.Graph.{Graph}
use Rattle.amf_graph.specs.Reached.{IsWhole}
use Rattle.amf_graph.specs.Isomorphic.{Isomorphic}

pub record IsomorphicIsEquivalence : Type 0 where
  pub reflexive : (g : Graph) → IsWhole g → Isomorphic g g
  pub symmetric : (g h : Graph) → Isomorphic g h → Isomorphic h g
  pub transitive : (g h other : Graph) → Isomorphic g h → Isomorphic h other → Isomorphic g other
