-- More worked rows of AMF 3: names that stand twice, an open node, wrappers and their class names by place, a vector of values with a type name.
use Rattle.std.specs.Prelude.{◌≡◌, ℕ, true, false, List, [], ◌∷◌, ◌++◌}
use Rattle.amf_io.specs.Field.{Field, field}
use Rattle.amf_wire.specs.Style.{free, canonical}
use Rattle.amf_graph.specs.declared.wrapped.Wrapped.TheVariants.{ArrayCollection}
use Rattle.amf_graph.specs.Graph.{null, boolean, text, Value, leaf, node, array, wrapper, values, class_name, Node, Graph}
use Rattle.amf_graph.specs.Arena as arena
use Rattle.amf_graph.specs.ByName.{by_name}
use Rattle.amf3_spelling.specs.KeptTables.{KeptTables}
use Rattle.amf3_spelling.specs.Refusals3.{marker_kind, header_kind}
use Rattle.amf3_spelling.specs.Reads3.{IsReading3}
use Rattle.amf3_spelling.specs.Spells3.{Spelled3}
use Rattle.amf3_spelling.specs.WorkedRows3.{items}
use Rattle.amf3_spelling.specs.WorkedKinds3.{single}

-- an array with two pairs of one name
abbrev pub one_name : List (List ℕ × Value)
one_name = (0x61 ∷ [], leaf null) ∷ (0x61 ∷ [], leaf (boolean false)) ∷ []

abbrev pub named_twice : Graph
named_twice = record { nodes = record { head = array; names = one_name; values = [] } ∷ []; root = node 0 }

-- an arena whose one node is an array that is still open, and tables that name it
abbrev pub open_array : arena.Arena
open_array = record { texts = []; traits = []; nodes = record { is_open = true; head = arena.array; names = []; values = [] } ∷ [] }

abbrev pub open_tables : KeptTables
open_tables = record { texts = []; traits = []; nodes = 0 ∷ [] }

-- the fields of 09 00
abbrev pub reference_fields : List Field
reference_fields = field marker_kind (0x09 ∷ []) ∷ field (header_kind (9 ∷ []) 0 9) (0x00 ∷ []) ∷ []

abbrev pub collected_at : ℕ → Node
collected_at i = record { head = wrapper ArrayCollection; names = []; values = node i ∷ [] }

-- two collections of one empty array
abbrev pub two_collections : Graph
two_collections = record { nodes = items (node 1 ∷ node 3 ∷ []) ∷ collected_at 2 ∷ items [] ∷ collected_at 2 ∷ []; root = node 0 }

-- the text that is the name of a class, and a collection of an empty array
abbrev pub name_and_collection : Graph
name_and_collection = record { nodes = items (leaf (text (class_name ArrayCollection)) ∷ node 1 ∷ []) ∷ collected_at 2 ∷ items [] ∷ []; root = node 0 }

pub record MoreRows3 : Type 0 where
  -- pairs of one name keep their order
  pub order_stays : by_name one_name ≡ one_name
  pub name_twice : Spelled3 free named_twice (0x09 ∷ 0x01 ∷ 0x03 ∷ 0x61 ∷ 0x01 ∷ 0x03 ∷ 0x61 ∷ 0x02 ∷ 0x01 ∷ [])
  pub name_by_place : Spelled3 canonical named_twice (0x09 ∷ 0x01 ∷ 0x03 ∷ 0x61 ∷ 0x01 ∷ 0x00 ∷ 0x02 ∷ 0x01 ∷ [])
  -- a node that is still open can be named
  pub open_node : IsReading3 open_array open_tables reference_fields
  pub wrapper_traits_by_place : Spelled3 canonical two_collections (0x09 ∷ 0x05 ∷ 0x01 ∷ 0x0A ∷ 0x07 ∷ 0x43 ∷ class_name ArrayCollection ++ 0x09 ∷ 0x01 ∷ 0x01 ∷ 0x0A ∷ 0x01 ∷ 0x09 ∷ 0x04 ∷ [])
  pub typed_values : Spelled3 canonical (single (values false (0x43 ∷ [])) (leaf null ∷ [])) (0x10 ∷ 0x03 ∷ 0x00 ∷ 0x03 ∷ 0x43 ∷ 0x01 ∷ [])
  pub class_by_place : Spelled3 canonical name_and_collection (0x09 ∷ 0x05 ∷ 0x01 ∷ 0x06 ∷ 0x43 ∷ class_name ArrayCollection ++ 0x0A ∷ 0x07 ∷ 0x00 ∷ 0x09 ∷ 0x01 ∷ 0x01 ∷ [])
