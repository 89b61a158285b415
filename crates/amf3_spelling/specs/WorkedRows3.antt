-- Worked rows of AMF 3: these bytes spell these graphs.
use Rattle.std.specs.Prelude.{ℕ, true, List, [], ◌∷◌, ◌++◌, pos}
use Rattle.amf_wire.specs.Style.{free, canonical}
use Rattle.amf_graph.specs.Graph.{integer, text, Value, leaf, node, Traits, array, object, wrapper, class_name, Node, Graph}
use Rattle.amf_graph.specs.declared.wrapped.Wrapped.TheVariants.{ArrayCollection}
use Rattle.amf_io.specs.Field.{field}
use Rattle.amf3_spelling.specs.Tables.{Words}
use Rattle.amf3_spelling.specs.Refusals3.{text_header_kind}
use Rattle.amf3_spelling.specs.Words3.{Text}
use Rattle.amf3_spelling.specs.Spells3.{Spelled3}

abbrev pub alone : Value → Graph
alone v = record { nodes = []; root = v }

abbrev pub five : Graph
five = alone (leaf (integer (pos 5)))

abbrev pub items : List Value → Node
items vs = record { head = array; names = []; values = vs }

-- [foo, foo]
abbrev pub foo : List ℕ
foo = 0x66 ∷ 0x6F ∷ 0x6F ∷ []

abbrev pub two_texts : Graph
two_texts = record { nodes = items (leaf (text foo) ∷ leaf (text foo) ∷ []) ∷ []; root = node 0 }

-- an array that holds itself
abbrev pub ring : Graph
ring = record { nodes = items (node 0 ∷ []) ∷ []; root = node 0 }

-- {b: 1, a: 2}
abbrev pub open_traits : Traits
open_traits = record { class = []; dynamic = true; sealed = [] }

abbrev pub members : Graph
members = record { nodes = record { head = object open_traits; names = (0x62 ∷ [], leaf (integer (pos 1))) ∷ (0x61 ∷ [], leaf (integer (pos 2))) ∷ []; values = [] } ∷ []; root = node 0 }

-- both members are one empty array
abbrev pub shared : Graph
shared = record { nodes = record { head = object open_traits; names = (0x62 ∷ [], node 1) ∷ (0x61 ∷ [], node 1) ∷ []; values = [] } ∷ items [] ∷ []; root = node 0 }

-- a collection of an empty array
abbrev pub collection : Graph
collection = record { nodes = record { head = wrapper ArrayCollection; names = []; values = node 1 ∷ [] } ∷ items [] ∷ []; root = node 0 }

-- a table that holds foo twice
abbrev pub foo_twice : Words
foo_twice = record { texts = foo ∷ foo ∷ []; traits = [] }

pub record Rows3 : Type 0 where
  pub shortest_integer : Spelled3 canonical five (0x04 ∷ 0x05 ∷ [])
  pub longer_integer : Spelled3 free five (0x04 ∷ 0x80 ∷ 0x05 ∷ [])
  pub text_twice : Spelled3 free two_texts (0x09 ∷ 0x05 ∷ 0x01 ∷ 0x06 ∷ 0x07 ∷ foo ++ 0x06 ∷ 0x07 ∷ foo)
  pub text_by_place : Spelled3 canonical two_texts (0x09 ∷ 0x05 ∷ 0x01 ∷ 0x06 ∷ 0x07 ∷ foo ++ 0x06 ∷ 0x00 ∷ [])
  -- the second of two places is no canonical one
  pub second_place : Text free foo foo_twice (field (text_header_kind 2) (2 ∷ []) ∷ []) foo_twice
  pub not_canonical : (w : Words) → Text canonical foo foo_twice (field (text_header_kind 2) (2 ∷ []) ∷ []) w → ⊥
  pub cycle : Spelled3 canonical ring (0x09 ∷ 0x03 ∷ 0x01 ∷ 0x09 ∷ 0x00 ∷ [])
  pub members_on_the_wire : Spelled3 free members (0x0A ∷ 0x0B ∷ 0x01 ∷ 0x03 ∷ 0x62 ∷ 0x04 ∷ 0x01 ∷ 0x03 ∷ 0x61 ∷ 0x04 ∷ 0x02 ∷ 0x01 ∷ [])
  pub members_by_name : Spelled3 canonical members (0x0A ∷ 0x0B ∷ 0x01 ∷ 0x03 ∷ 0x61 ∷ 0x04 ∷ 0x02 ∷ 0x03 ∷ 0x62 ∷ 0x04 ∷ 0x01 ∷ 0x01 ∷ [])
  pub shared_on_the_wire : Spelled3 free shared (0x0A ∷ 0x0B ∷ 0x01 ∷ 0x03 ∷ 0x62 ∷ 0x09 ∷ 0x01 ∷ 0x01 ∷ 0x03 ∷ 0x61 ∷ 0x09 ∷ 0x02 ∷ 0x01 ∷ [])
  pub shared_by_name : Spelled3 canonical shared (0x0A ∷ 0x0B ∷ 0x01 ∷ 0x03 ∷ 0x61 ∷ 0x09 ∷ 0x01 ∷ 0x01 ∷ 0x03 ∷ 0x62 ∷ 0x09 ∷ 0x02 ∷ 0x01 ∷ [])
  pub collection_canonical : Spelled3 canonical collection (0x0A ∷ 0x07 ∷ 0x43 ∷ class_name ArrayCollection ++ 0x09 ∷ 0x01 ∷ 0x01 ∷ [])
  pub collection_free : Spelled3 free collection (0x0A ∷ 0x0F ∷ 0x43 ∷ class_name ArrayCollection ++ 0x09 ∷ 0x01 ∷ 0x01 ∷ [])
