-- Worked listings.
use Rattle.std.specs.Prelude.{◌≡◌, true, false, [], ◌∷◌, ◌++◌, codes, List, ℕ, pos, negsuc}
use Rattle.amf_graph.specs.Graph.{null, boolean, integer, double, text, leaf, node, Traits, xml_document, date, array, object, xml, bytes, ints, uints, doubles, values, dictionary, Head, Value, Graph}
use Rattle.amf3_spelling.specs.WorkedRows3.{members, collection}
use Rattle.amf_show.specs.Shown.{shown_text, line_feed}
use Rattle.amf_show.specs.Listing.{contents_of, IsListing}

abbrev pub line : List ℕ → List ℕ
line x = x ++ line_feed

-- a graph of one node that stands behind another, to which the root does not lead
abbrev pub second_node : Head → Graph
second_node head = record {
  nodes = record { head = array; names = []; values = node 1 ∷ [] }
      ∷ record { head = head; names = []; values = [] }
      ∷ [];
  root = node 1;
}

-- what a node holds, where the nodes 7 and 5 have the numbers 0 and 1
abbrev pub held : Head → List (List ℕ × Value) → List Value → List ℕ
held head ps vs = contents_of (7 ∷ 5 ∷ []) (record { head = head; names = ps; values = vs })

abbrev pub closed_class : Traits
closed_class = record { class = codes "C"; dynamic = false; sealed = codes "y" ∷ codes "x" ∷ [] }

pub record ListingRows : Type 0 where
  pub members_by_name : IsListing members (line (codes "root #0") ++ line (codes "#0 object \"\" sealed {} dynamic {\"a\"=2, \"b\"=1}"))
  pub wrapper_over_an_array : IsListing collection (line (codes "root #0") ++ line (codes "#0 wrapper \"flex.messaging.io.ArrayCollection\" #1") ++ line (codes "#1 array [] {}"))
  pub reached_alone : IsListing (second_node (date 0)) (line (codes "root #0") ++ line (codes "#0 date d0000000000000000"))
  pub no_node : IsListing (record { nodes = []; root = leaf (text (codes "x")) }) (line (codes "root \"x\""))
  pub escapes : shown_text (0x61 ∷ 0x22 ∷ 0x5C ∷ 0x1F ∷ 0x20 ∷ 0x7E ∷ 0x7F ∷ 0xC3 ∷ 0xA4 ∷ []) ≡ codes "\"a\\22\\5c\\1f ~\\7f\\c3\\a4\""
  pub names_behind_items : held array ((codes "b", node 5) ∷ (codes "a", leaf (boolean true)) ∷ []) (node 7 ∷ leaf null ∷ []) ≡ codes "array [#0, null] {\"a\"=true, \"b\"=#1}"
  pub sealed_in_its_order : held (object closed_class) [] (leaf (boolean false) ∷ leaf (integer (negsuc 0)) ∷ []) ≡ codes "object \"C\" sealed {\"y\"=false, \"x\"=-1}"
  pub documents : held (xml_document (codes "<a/>")) [] [] ++ held (xml (codes "")) [] [] ≡ codes "xmldoc \"<a/>\"xml \"\""
  pub byte_array : held (bytes (0x00 ∷ 0xAF ∷ [])) [] [] ≡ codes "bytes x00af"
  pub numbers : held (ints true (negsuc 1 ∷ pos 30 ∷ [])) [] [] ++ held (uints false (4294967295 ∷ [])) [] [] ≡ codes "ints fixed [-2, 30]uints open [4294967295]"
  pub some_doubles : held (doubles false (0x4014000000000000 ∷ 0 ∷ [])) [] [] ≡ codes "doubles open [d4014000000000000, d0000000000000000]"
  pub vector_of_values : held (values true (codes "T")) [] (node 5 ∷ leaf (double 0x8000000000000000) ∷ []) ≡ codes "values \"T\" fixed [#1, d8000000000000000]"
  pub weak_dictionary : held (dictionary true) [] (leaf (text (codes "k")) ∷ node 5 ∷ node 7 ∷ leaf null ∷ []) ≡ codes "dict weak {\"k\"=#1, #0=null}"
