-- The tables of a writer of the parts of one graph.
use Rattle.std.specs.Prelude.{◌≡◌, ◌<◌, length}
use Rattle.std.specs.List.{AllByRecursion}
use Rattle.amf_graph.specs.Arena.{Arena}
use Rattle.amf_tables.specs.KnownWords.{AreKnownOf}
use Rattle.amf3_write.specs.declared.graph_tables.GraphTables.{GraphTables}

-- the nodes are the graph's, each that was spelled has a place, and the places that are known of texts and traits are the first ones
pub record AreTablesOf (a : Arena) (t : GraphTables) : Type 0 where
  pub nodes : AllByRecursion (λ i. i < length a.nodes) t.tables.nodes
  pub placed : t.tables.done ≡ t.tables.nodes
  pub known : AreKnownOf a t.tables.words t.known
