-- The graphs of pages whose labels are all those of rows. A device of the reader.
use Rattle.std.specs.Prelude.{map}
use Rattle.amf_graph.specs.Graph.{Graph}
use Rattle.amf_text.specs.Documents.{Header, Message, Document, value3, value0, file, packet}
use Rattle.amf_text.specs.WholeLaws.{IsSoundGraph}
use Rattle.amf_text_laws.specs.TextBounds.{HasNumbers}
use Rattle.amf_text_trees.specs.Sheets.{Page}
use Rattle.amf_text_trees.specs.Pages.{page_graph}

abbrev pub header_graph : Header Page → Header Graph
header_graph h = record { name = h.name; must = h.must; form = h.form; graph = page_graph h.graph }

abbrev pub message_graph : Message Page → Message Graph
message_graph m = record { target = m.target; response = m.response; form = m.form; graph = page_graph m.graph }

abbrev pub graphs_in : Document Page → Document Graph
graphs_in (value3 p) = value3 (page_graph p)
graphs_in (value0 p) = value0 (page_graph p)
graphs_in (file name version p) = file name version (page_graph p)
graphs_in (packet version hs ms) = packet version (map header_graph hs) (map message_graph ms)

-- there are numbers for all of it
pub record IsWritable (g : Graph) : Type 0 where
  pub sound : IsSoundGraph g
  pub numbers : HasNumbers g
