-- The accepted lists of fields of one value of AMF 3, from empty tables (3.2 to 3.16).
use Rattle.std.specs.Prelude.{List}
use Rattle.amf_io.specs.Field.{Field}
use Rattle.amf_wire.specs.Style.{free}
use Rattle.amf_graph.specs.Graph.{Graph}
use Rattle.amf3_spelling.specs.Spells3.{IsSpelling3}

-- the fields spell some graph
abbrev pub IsValue3 : List Field → Type 0
IsValue3 fs = (g : Graph) × IsSpelling3 free g fs
