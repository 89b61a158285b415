-- Worked meanings: what the worked texts read back to.
use Rattle.std.specs.Prelude.{◌≡◌, ℕ, true, false, List, [], ◌∷◌, codes, pos, Some, None, option_and_then, if◌then◌else◌, bytes_eq}
use Rattle.amf_graph.specs.declared.wrapped.Wrapped.TheVariants.{ArrayCollection}
use Rattle.amf_graph.specs.Graph.{undefined, null, boolean, integer, double, text, leaf, node, xml_document, date, array, object, wrapper, xml, uints, values, dictionary, Graph}
use Rattle.amf_text.specs.Documents.{plain, call, file0, file3, value3, value0, file, packet}
use Rattle.amf_text.specs.Scalars.{Reads}
use Rattle.amf_text.specs.Accepted.{document_meant, linked}
use Rattle.amf_text.specs.WorkedTexts.{save_told, packet_told, cycle_told, shared_told, sealed_told, vector_told, dictionary_told, byte_array_told, date_told, nan_told, labels_told, number_told, kinds_told, twins_told, file3_told, mail_told, deep_told, packet_graph, sealed_graph, vector_graph, byte_array_graph, date_graph, nan_graph, twins_graph}

-- the patterns of the numbers in the rows
abbrev pub some_patterns : List (List ℕ × ℕ)
some_patterns =
    (codes "-1.5", 0xBFF8000000000000)
    ∷ (codes "-12.25", 0xC028800000000000)
    ∷ (codes "-2", 0xC000000000000000)
    ∷ (codes "0", 0x0000000000000000)
    ∷ (codes "0.5", 0x3FE0000000000000)
    ∷ (codes "0.8", 0x3FE999999999999A)
    ∷ (codes "1", 0x3FF0000000000000)
    ∷ (codes "1.5", 0x3FF8000000000000)
    ∷ (codes "1700000000000", 0x4278BCFE56800000)
    ∷ (codes "2", 0x4000000000000000)
    ∷ (codes "2.5", 0x4004000000000000)
    ∷ (codes "268435456", 0x41B0000000000000)
    ∷ (codes "3", 0x4008000000000000)
    ∷ (codes "30", 0x403E000000000000)
    ∷ (codes "4", 0x4010000000000000)
    ∷ (codes "4294967295", 0x41EFFFFFFFE00000)
    ∷ (codes "5", 0x4014000000000000)
    ∷ (codes "5000", 0x40B3880000000000)
    ∷ (codes "7", 0x401C000000000000)
    ∷ []

abbrev pub pattern_among : List (List ℕ × ℕ) → Reads
pattern_among [] s = None
pattern_among (p ∷ ps) s = if bytes_eq s p.0 then Some p.1 else pattern_among ps s

abbrev pub some_reads : Reads
some_reads = pattern_among some_patterns

abbrev pub save_read : Graph
save_read = record {
  nodes =
      record { head = object (record { class = []; dynamic = true; sealed = [] }); names = (codes "last", node 1) ∷ (codes "player", node 2) ∷ (codes "seen", leaf (boolean true)) ∷ (codes "volume", leaf (double 0x3FE999999999999A)) ∷ []; values = [] }
      ∷ record { head = date 0x4278BCFE56800000; names = []; values = [] }
      ∷ record { head = object (record { class = []; dynamic = true; sealed = [] }); names = (codes "bag", node 3) ∷ (codes "gold", leaf (integer (pos 5000))) ∷ (codes "name", leaf (text (codes "Zoe \"Z\""))) ∷ (codes "x", leaf (double 0xC028800000000000)) ∷ []; values = [] }
      ∷ record { head = array; names = []; values = leaf (text (codes "sword")) ∷ leaf (integer (pos 2)) ∷ leaf null ∷ [] }
      ∷ [];
  root = node 0;
}

abbrev pub cycle_read : Graph
cycle_read = record {
  nodes =
      record { head = object (record { class = []; dynamic = true; sealed = [] }); names = (codes "n", leaf (integer (pos 1))) ∷ (codes "self", node 0) ∷ []; values = [] }
      ∷ [];
  root = node 0;
}

abbrev pub shared_read : Graph
shared_read = record {
  nodes =
      record { head = object (record { class = []; dynamic = true; sealed = [] }); names = (codes "hp", leaf (integer (pos 7))) ∷ []; values = [] }
      ∷ record { head = array; names = []; values = node 0 ∷ node 0 ∷ [] }
      ∷ [];
  root = node 1;
}

abbrev pub dictionary_read : Graph
dictionary_read = record {
  nodes =
      record { head = array; names = []; values = [] }
      ∷ record { head = dictionary true; names = []; values = leaf (text (codes "k")) ∷ node 0 ∷ node 0 ∷ leaf null ∷ [] }
      ∷ [];
  root = node 1;
}

abbrev pub labels_read : Graph
labels_read = record {
  nodes =
      record { head = array; names = []; values = [] }
      ∷ record { head = array; names = []; values = [] }
      ∷ record { head = array; names = []; values = node 0 ∷ node 0 ∷ node 3 ∷ node 4 ∷ node 5 ∷ node 6 ∷ node 7 ∷ node 8 ∷ node 9 ∷ node 10 ∷ node 1 ∷ node 1 ∷ [] }
      ∷ record { head = array; names = []; values = [] }
      ∷ record { head = array; names = []; values = [] }
      ∷ record { head = array; names = []; values = [] }
      ∷ record { head = array; names = []; values = [] }
      ∷ record { head = array; names = []; values = [] }
      ∷ record { head = array; names = []; values = [] }
      ∷ record { head = array; names = []; values = [] }
      ∷ record { head = array; names = []; values = [] }
      ∷ [];
  root = node 2;
}

abbrev pub number_read : Graph
number_read = record {
  nodes =
      record { head = array; names = []; values = leaf (integer (pos 5)) ∷ leaf (double 0x3FE0000000000000) ∷ leaf undefined ∷ leaf (boolean false) ∷ [] }
      ∷ [];
  root = node 0;
}

abbrev pub kinds_read : Graph
kinds_read = record {
  nodes =
      record { head = array; names = []; values = node 1 ∷ node 3 ∷ node 4 ∷ node 5 ∷ node 6 ∷ [] }
      ∷ record { head = wrapper ArrayCollection; names = []; values = node 2 ∷ [] }
      ∷ record { head = array; names = []; values = [] }
      ∷ record { head = xml_document (codes "<a/>"); names = []; values = [] }
      ∷ record { head = xml (codes ""); names = []; values = [] }
      ∷ record { head = uints true (4294967295 ∷ []); names = []; values = [] }
      ∷ record { head = values true (codes ""); names = []; values = leaf (boolean true) ∷ [] }
      ∷ [];
  root = node 0;
}

abbrev pub file3_read : Graph
file3_read = record {
  nodes =
      record { head = object (record { class = codes "C"; dynamic = true; sealed = [] }); names = []; values = [] }
      ∷ record { head = object (record { class = []; dynamic = true; sealed = [] }); names = (codes "a", node 0) ∷ (codes "b", node 0) ∷ []; values = [] }
      ∷ [];
  root = node 1;
}

abbrev pub mail_0_read : Graph
mail_0_read = record { nodes = []; root = leaf (integer (pos 1)) }

abbrev pub mail_1_read : Graph
mail_1_read = record {
  nodes =
      record { head = array; names = []; values = [] }
      ∷ record { head = array; names = []; values = node 0 ∷ node 0 ∷ [] }
      ∷ [];
  root = node 1;
}

abbrev pub deep_read : Graph
deep_read = record {
  nodes =
      record { head = array; names = []; values = [] }
      ∷ record { head = array; names = []; values = node 2 ∷ [] }
      ∷ record { head = array; names = []; values = node 3 ∷ [] }
      ∷ record { head = array; names = []; values = node 4 ∷ [] }
      ∷ record { head = array; names = []; values = node 5 ∷ [] }
      ∷ record { head = array; names = []; values = node 6 ∷ [] }
      ∷ record { head = array; names = []; values = node 7 ∷ [] }
      ∷ record { head = array; names = []; values = node 8 ∷ [] }
      ∷ record { head = array; names = []; values = node 9 ∷ [] }
      ∷ record { head = array; names = []; values = node 10 ∷ [] }
      ∷ record { head = array; names = []; values = node 11 ∷ [] }
      ∷ record { head = array; names = []; values = node 12 ∷ [] }
      ∷ record { head = array; names = []; values = node 13 ∷ [] }
      ∷ record { head = array; names = []; values = node 14 ∷ [] }
      ∷ record { head = array; names = []; values = node 15 ∷ [] }
      ∷ record { head = array; names = []; values = node 16 ∷ [] }
      ∷ record { head = array; names = []; values = node 17 ∷ [] }
      ∷ record { head = array; names = []; values = node 18 ∷ [] }
      ∷ record { head = array; names = []; values = node 19 ∷ [] }
      ∷ record { head = array; names = []; values = node 20 ∷ [] }
      ∷ record { head = array; names = []; values = node 21 ∷ [] }
      ∷ record { head = array; names = []; values = node 22 ∷ [] }
      ∷ record { head = array; names = []; values = node 23 ∷ [] }
      ∷ record { head = array; names = []; values = node 24 ∷ [] }
      ∷ record { head = array; names = []; values = node 25 ∷ [] }
      ∷ record { head = array; names = []; values = node 26 ∷ [] }
      ∷ record { head = array; names = []; values = node 27 ∷ [] }
      ∷ record { head = array; names = []; values = node 28 ∷ [] }
      ∷ record { head = array; names = []; values = node 29 ∷ [] }
      ∷ record { head = array; names = []; values = node 30 ∷ [] }
      ∷ record { head = array; names = []; values = node 31 ∷ [] }
      ∷ record { head = array; names = []; values = node 32 ∷ [] }
      ∷ record { head = array; names = []; values = node 0 ∷ [] }
      ∷ [];
  root = node 1;
}

pub record MeaningRows : Type 0 where
  pub save_meant : option_and_then linked (document_meant some_reads save_told) ≡ Some (file (codes "save1") file0 save_read)
  pub packet_meant : option_and_then linked (document_meant some_reads packet_told) ≡ Some (packet 3 ([]) ((record { target = codes "null"; response = codes "/1"; form = call; graph = packet_graph }) ∷ []))
  pub cycle_meant : option_and_then linked (document_meant some_reads cycle_told) ≡ Some (value3 cycle_read)
  pub shared_meant : option_and_then linked (document_meant some_reads shared_told) ≡ Some (value3 shared_read)
  pub sealed_meant : option_and_then linked (document_meant some_reads sealed_told) ≡ Some (value3 sealed_graph)
  pub vector_meant : option_and_then linked (document_meant some_reads vector_told) ≡ Some (value3 vector_graph)
  pub dictionary_meant : option_and_then linked (document_meant some_reads dictionary_told) ≡ Some (value3 dictionary_read)
  pub byte_array_meant : option_and_then linked (document_meant some_reads byte_array_told) ≡ Some (value3 byte_array_graph)
  pub date_meant : option_and_then linked (document_meant some_reads date_told) ≡ Some (value3 date_graph)
  pub nan_meant : option_and_then linked (document_meant some_reads nan_told) ≡ Some (value3 nan_graph)
  pub labels_meant : option_and_then linked (document_meant some_reads labels_told) ≡ Some (value3 labels_read)
  pub number_meant : option_and_then linked (document_meant some_reads number_told) ≡ Some (value0 number_read)
  pub kinds_meant : option_and_then linked (document_meant some_reads kinds_told) ≡ Some (value3 kinds_read)
  pub twins_meant : option_and_then linked (document_meant some_reads twins_told) ≡ Some (value3 twins_graph)
  pub file3_meant : option_and_then linked (document_meant some_reads file3_told) ≡ Some (file (codes "s") file3 file3_read)
  pub mail_meant : option_and_then linked (document_meant some_reads mail_told) ≡ Some (packet 0 ((record { name = codes "h"; must = true; form = plain; graph = mail_0_read }) ∷ []) ((record { target = codes "t"; response = []; form = plain; graph = mail_1_read }) ∷ []))
  pub deep_meant : option_and_then linked (document_meant some_reads deep_told) ≡ Some (value3 deep_read)
