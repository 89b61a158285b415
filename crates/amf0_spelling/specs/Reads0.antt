-- What it is to read one value of AMF 0 into an arena and its tables (2.2 to 2.18 and 3.1).
use Rattle.std.specs.Prelude.{List}
use Rattle.amf_io.specs.Field.{Field}
use Rattle.amf_wire.specs.Style.{free}
use Rattle.amf_graph.specs.declared.value.Value.{Value as Stored}
use Rattle.amf_graph.specs.Arena.{Arena, value_content, graph_of, Names, IsBuilt, Completes}
use Rattle.amf3_spelling.specs.Reads3.{Grows}
use Rattle.amf0_spelling.specs.KeptTables0.{KeptTables0, tables0_of, AreTables0In}
use Rattle.amf0_spelling.specs.Spells0.{Spells0}
use Rattle.amf0_spelling.specs.Tables0.{Tables0}

-- the fields spell the value in every finished graph that completes what is there now
pub record IsRead0 (old : Arena) (t : KeptTables0) (fs : List Field) (new : Arena) (t' : KeptTables0) (v : Stored) : Type 0 where
  pub grows : Grows old new
  pub built : IsBuilt old → IsBuilt new
  pub value : Names new v
  pub tables : AreTables0In new t'
  pub spelled : (g : Arena) → Completes new g → Spells0 free (graph_of g v) (value_content g v) (tables0_of old t) fs (tables0_of new t')

-- the accepted lists: the fields spell some value of some finished graph that completes what is there
pub record IsReading0 (a : Arena) (t : KeptTables0) (fs : List Field) : Type 0 where
  pub graph : Arena
  pub completes : Completes a graph
  pub value : Stored
  pub names : Names graph value
  pub after : Tables0
  pub spelled : Spells0 free (graph_of graph value) (value_content graph value) (tables0_of a t) fs after
