-- What the definitions of AMF 0 owe one another.
use Rattle.std.specs.Prelude.{List}
use Rattle.std.specs.List.{AllByRecursion}
use Rattle.amf_io.specs.Field.{Field, IsClean}
use Rattle.amf_wire.specs.Style.{Style, free}
use Rattle.amf_graph.specs.Graph.{Graph, Value}
use Rattle.amf0_spelling.specs.Tables0.{Tables0}
use Rattle.amf0_spelling.specs.Spells0.{Spells0}

-- what a canonical spelling says is also a spelling
abbrev pub Forgets0 : Type 0
Forgets0 = (s : Style) (g : Graph) (v : Value) (t : Tables0) (fs : List Field) (t' : Tables0) → Spells0 s g v t fs t' → Spells0 free g v t fs t'

-- the kinds refuse no field of a spelling, and each is whole
abbrev pub FieldsAgree0 : Type 0
FieldsAgree0 = (s : Style) (g : Graph) (v : Value) (t : Tables0) (fs : List Field) (t' : Tables0) → Spells0 s g v t fs t' → AllByRecursion IsClean fs
