-- A canonical spelling meets the nodes in canonical order (AMF 3).
use Rattle.std.specs.Prelude.{◌≡◌, List}
use Rattle.amf_io.specs.Field.{Field}
use Rattle.amf_wire.specs.Style.{canonical}
use Rattle.amf_graph.specs.Graph.{Graph}
use Rattle.amf_graph.specs.Order.{IsOrder}
use Rattle.amf3_spelling.specs.Tables.{Tables, no_tables}
use Rattle.amf3_spelling.specs.Spells3.{Spells3}

-- the table of nodes at the end of a canonical spelling is the canonical order, and so are the nodes spelled inline
pub record TableIsOrder : Type 0 where
  pub nodes : (g : Graph) (fs : List Field) (t : Tables) → Spells3 canonical g g.root no_tables fs t → IsOrder g t.nodes
  pub done : (g : Graph) (fs : List Field) (t : Tables) → Spells3 canonical g g.root no_tables fs t → t.done ≡ t.nodes
