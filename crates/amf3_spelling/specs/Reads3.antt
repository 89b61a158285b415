-- What it is to read one value of AMF 3 into an arena and its tables (3.2 to 3.16).
use Rattle.std.specs.Prelude.{◌≡◌, ℕ, false, List, ◌++◌}
use Rattle.std.specs.List.{AllByRecursion}
use Rattle.amf_io.specs.Field.{Field}
use Rattle.amf_wire.specs.Style.{free}
use Rattle.amf_graph.specs.declared.value.Value.{Value as Stored}
use Rattle.amf_graph.specs.Arena.{Arena, StoredTraits, StoredNode, value_content, graph_of, Names, IsBuilt, Completes}
use Rattle.amf3_spelling.specs.Tables.{Tables}
use Rattle.amf3_spelling.specs.KeptTables.{KeptTables, tables_of, AreTablesIn}
use Rattle.amf3_spelling.specs.Spells3.{Spells3}

-- what was there is as it was, and what is new is closed
pub record Grows (old new : Arena) : Type 0 where
  pub more_texts : List (List ℕ)
  pub texts : new.texts ≡ old.texts ++ more_texts
  pub more_traits : List StoredTraits
  pub traits : new.traits ≡ old.traits ++ more_traits
  pub more_nodes : List StoredNode
  pub nodes : new.nodes ≡ old.nodes ++ more_nodes
  pub closed : AllByRecursion (λ n. n.is_open ≡ false) more_nodes

-- the fields spell the value in every finished graph that completes what is there now
pub record IsRead3 (old : Arena) (t : KeptTables) (fs : List Field) (new : Arena) (t' : KeptTables) (v : Stored) : Type 0 where
  pub grows : Grows old new
  pub built : IsBuilt old → IsBuilt new
  pub value : Names new v
  pub tables : AreTablesIn new t'
  pub spelled : (g : Arena) → Completes new g → Spells3 free (graph_of g v) (value_content g v) (tables_of old t) fs (tables_of new t')

-- the accepted lists: the fields spell some value of some finished graph that completes what is there
pub record IsReading3 (a : Arena) (t : KeptTables) (fs : List Field) : Type 0 where
  pub graph : Arena
  pub completes : Completes a graph
  pub value : Stored
  pub names : Names graph value
  pub after : Tables
  pub spelled : Spells3 free (graph_of graph value) (value_content graph value) (tables_of a t) fs after
