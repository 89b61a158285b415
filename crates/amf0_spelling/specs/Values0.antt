-- The accepted lists of fields of one value of AMF 0, from empty tables (2.2 to 2.18 and 3.1).
use Rattle.std.specs.Prelude.{List}
use Rattle.amf_io.specs.Field.{Field}
use Rattle.amf_wire.specs.Style.{free}
use Rattle.amf_graph.specs.Graph.{Graph}
use Rattle.amf0_spelling.specs.Spells0.{IsSpelling0}

-- the fields spell some graph
abbrev pub IsValue0 : List Field → Type 0
IsValue0 fs = (g : Graph) × IsSpelling0 free g fs
