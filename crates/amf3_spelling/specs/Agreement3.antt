-- Canonical spellings are spellings, and the rows of refusals agree with the spellings of AMF 3.
use Rattle.std.specs.Prelude.{List}
use Rattle.amf_io.specs.Field.{Field, IsClean}
use Rattle.std.specs.List.{AllByRecursion}
use Rattle.amf_wire.specs.Style.{free, canonical}
use Rattle.amf_graph.specs.Graph.{Value, Graph}
use Rattle.amf3_spelling.specs.Tables.{Tables}
use Rattle.amf3_spelling.specs.Spells3.{Spells3}

-- a canonical spelling is a spelling, with the same tables
abbrev pub Forgets : Type 0
Forgets = (g : Graph) (v : Value) (t : Tables) (fs : List Field) (t' : Tables) → Spells3 canonical g v t fs t' → Spells3 free g v t fs t'

-- each field of a spelling is whole, and none is refused
abbrev pub FieldsAgree : Type 0
FieldsAgree = (g : Graph) (v : Value) (t : Tables) (fs : List Field) (t' : Tables) → Spells3 free g v t fs t' → AllByRecursion IsClean fs
