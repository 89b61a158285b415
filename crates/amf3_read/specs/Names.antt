-- A name of an array or of a dynamic object as it is read: of the empty one nothing is kept. A device by which verdicts are proved.
use Rattle.std.specs.Prelude.{Option, Some, None, if◌then◌else◌}
use Rattle.amf_io.specs.Layout.{Layout, give, bind}
use Rattle.amf_graph.specs.declared.value.TextId.{TextId}
use Rattle.amf_graph.specs.Arena.{Arena}
use Rattle.amf3_spelling.specs.KeptTables.{KeptTables}
use Rattle.amf3_layout_laws.specs.Layout3State.{State3, state_of}
use Rattle.amf3_layout_laws.specs.Layout3Words.{TextRead, text_layout}
use Rattle.amf3_layout_laws.specs.Layout3.{is_empty}

-- a name, none where it is empty, and the state behind it
pub record NameRead : Type 0 where
  pub name : Option TextId
  pub state : State3

abbrev pub no_name : State3 → NameRead
no_name s = record { name = None; state = s }

abbrev pub some_name : TextRead → NameRead
some_name x = let text : TextId = record { 0 = x.id } in record { name = Some text; state = x.state }

-- a text that was read behind s as a name
abbrev pub name_of : State3 → TextRead → NameRead
name_of s x = if is_empty x.bytes then no_name s else some_name x

abbrev pub name_layout : State3 → Layout NameRead
name_layout s = bind (text_layout s) (λ x. give (name_of s x))

-- a name of the builder, as it was read
abbrev pub name_read : Arena → KeptTables → Option TextId → NameRead
name_read a t name = record { name = name; state = state_of a t }
