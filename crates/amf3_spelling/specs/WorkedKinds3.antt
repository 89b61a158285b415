-- Worked rows of the other kinds of AMF 3.
use Rattle.std.specs.Prelude.{true, false, List, [], ◌∷◌, pos, negsuc}
use Rattle.amf_wire.specs.Style.{free, canonical}
use Rattle.amf_graph.specs.Graph.{integer, text, Value, leaf, node, Traits, Head, xml_document, date, array, object, xml, bytes, ints, uints, doubles, values, dictionary, Graph}
use Rattle.amf3_spelling.specs.Segments3.{IsFlag}
use Rattle.amf3_spelling.specs.Spells3.{Spelled3}
use Rattle.amf3_spelling.specs.WorkedRows3.{items}

-- a graph of one node without names
abbrev pub single : Head → List Value → Graph
single h vs = record { nodes = record { head = h; names = []; values = vs } ∷ []; root = node 0 }

-- class C without sealed names, and with the sealed name a
abbrev pub bare_class : Traits
bare_class = record { class = 0x43 ∷ []; dynamic = false; sealed = [] }

abbrev pub one_sealed : Traits
one_sealed = record { class = 0x43 ∷ []; dynamic = false; sealed = (0x61 ∷ []) ∷ [] }

abbrev pub two_objects : Graph
two_objects = record {
  nodes = items (node 1 ∷ node 2 ∷ [])
      ∷ record { head = object one_sealed; names = []; values = leaf (integer (pos 1)) ∷ [] }
      ∷ record { head = object one_sealed; names = []; values = leaf (integer (pos 2)) ∷ [] }
      ∷ [];
  root = node 0;
}

-- class C with the sealed name a, and a further member b
abbrev pub sealed_and_open : Traits
sealed_and_open = record { class = 0x43 ∷ []; dynamic = true; sealed = (0x61 ∷ []) ∷ [] }

abbrev pub sealed_and_member : Graph
sealed_and_member = record {
  nodes = record {
    head = object sealed_and_open;
    names = (0x62 ∷ [], leaf (integer (pos 2))) ∷ [];
    values = leaf (integer (pos 1)) ∷ [];
  } ∷ [];
  root = node 0;
}

-- an array with a name and an item
abbrev pub named_and_item : Graph
named_and_item = record {
  nodes = record { head = array; names = (0x61 ∷ [], leaf (integer (pos 2))) ∷ []; values = leaf (integer (pos 1)) ∷ [] } ∷ [];
  root = node 0;
}

pub record Kinds : Type 0 where
  pub class_alone : Spelled3 canonical (single (object bare_class) []) (0x0A ∷ 0x03 ∷ 0x03 ∷ 0x43 ∷ [])
  pub traits_by_place : Spelled3 canonical two_objects (0x09 ∷ 0x05 ∷ 0x01 ∷ 0x0A ∷ 0x13 ∷ 0x03 ∷ 0x43 ∷ 0x03 ∷ 0x61 ∷ 0x04 ∷ 0x01 ∷ 0x0A ∷ 0x01 ∷ 0x04 ∷ 0x02 ∷ [])
  pub unused_bits : Spelled3 free (single (date 0) []) (0x08 ∷ 0x03 ∷ 0 ∷ 0 ∷ 0 ∷ 0 ∷ 0 ∷ 0 ∷ 0 ∷ 0 ∷ [])
  pub no_unused_bits : Spelled3 canonical (single (date 0) []) (0x08 ∷ 0x01 ∷ 0 ∷ 0 ∷ 0 ∷ 0 ∷ 0 ∷ 0 ∷ 0 ∷ 0 ∷ [])
  pub no_values : Spelled3 canonical (single (values false []) []) (0x10 ∷ 0x01 ∷ 0x00 ∷ 0x01 ∷ [])
  pub two_counts_as_fixed : Spelled3 free (single (ints true (pos 1 ∷ negsuc 0 ∷ [])) []) (0x0D ∷ 0x05 ∷ 0x02 ∷ 0 ∷ 0 ∷ 0 ∷ 1 ∷ 0xFF ∷ 0xFF ∷ 0xFF ∷ 0xFF ∷ [])
  pub no_canonical_flag : IsFlag canonical true 2 → ⊥
  pub fixed_ints : Spelled3 canonical (single (ints true (pos 1 ∷ negsuc 0 ∷ [])) []) (0x0D ∷ 0x05 ∷ 0x01 ∷ 0 ∷ 0 ∷ 0 ∷ 1 ∷ 0xFF ∷ 0xFF ∷ 0xFF ∷ 0xFF ∷ [])
  pub no_document : Spelled3 canonical (single (xml_document []) []) (0x07 ∷ 0x01 ∷ [])
  pub an_xml : Spelled3 canonical (single (xml (0x61 ∷ [])) []) (0x0B ∷ 0x03 ∷ 0x61 ∷ [])
  pub two_bytes : Spelled3 canonical (single (bytes (0x00 ∷ 0xFF ∷ [])) []) (0x0C ∷ 0x05 ∷ 0x00 ∷ 0xFF ∷ [])
  pub greatest_uint : Spelled3 canonical (single (uints false (4294967295 ∷ [])) []) (0x0E ∷ 0x03 ∷ 0x00 ∷ 0xFF ∷ 0xFF ∷ 0xFF ∷ 0xFF ∷ [])
  pub five_as_double : Spelled3 canonical (single (doubles true (0x4014000000000000 ∷ [])) []) (0x0F ∷ 0x03 ∷ 0x01 ∷ 0x40 ∷ 0x14 ∷ 0 ∷ 0 ∷ 0 ∷ 0 ∷ 0 ∷ 0 ∷ [])
  pub sealed_before_member : Spelled3 canonical sealed_and_member (0x0A ∷ 0x1B ∷ 0x03 ∷ 0x43 ∷ 0x03 ∷ 0x61 ∷ 0x04 ∷ 0x01 ∷ 0x03 ∷ 0x62 ∷ 0x04 ∷ 0x02 ∷ 0x01 ∷ [])
  pub name_before_item : Spelled3 canonical named_and_item (0x09 ∷ 0x03 ∷ 0x03 ∷ 0x61 ∷ 0x04 ∷ 0x02 ∷ 0x01 ∷ 0x04 ∷ 0x01 ∷ [])
  pub one_entry : Spelled3 canonical (single (dictionary false) (leaf (integer (pos 1)) ∷ leaf (text (0x61 ∷ [])) ∷ [])) (0x11 ∷ 0x03 ∷ 0x00 ∷ 0x04 ∷ 0x01 ∷ 0x06 ∷ 0x03 ∷ 0x61 ∷ [])
