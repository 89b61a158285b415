-- What the canonical JSON of a value means: its table and its root, where labels may still lead nowhere.
use Rattle.std.specs.Prelude.{◌≡◌, ℕ, ◌<◌, ◌^◌, Bool, List, map, length, Some, codes}
use Rattle.amf_graph.specs.Graph.{Graph, node_at}
use Rattle.amf_graph.specs.Reached.{IsWhole}
use Rattle.amf_text.specs.Scalars.{read_number, Digits, AreDigits}
use Rattle.amf_text.specs.Told.{Way, label_of, levels, levels_below}
use Rattle.amf_text.specs.Documents.{value3, value0}
use Rattle.amf_text.specs.Texts.{IsWay, value_json}
use Rattle.amf_text.specs.Meant.{Tree}
use Rattle.amf_text.specs.Accepted.{Part, document_meant}
use Rattle.amf_text.specs.ToldTrees.{named_of, node_tree, tree_of}

-- a row of the table, and the part that a graph is told as
abbrev pub row_tree : Way → Graph → ℕ → List ℕ × Tree
row_tree w g i = (label_of w i, node_tree (tree_of w g levels_below) (node_at g i))

abbrev pub part_of : Way → Graph → Part
part_of w g = record { table = named_of (map (row_tree w g) w.table); root = tree_of w g levels g.root }

-- labels have at most 64 digits, so there are to be fewer nodes than that
pub record ValueLaws : Type 0 where
  pub amf3 : (digits : Digits) (bare : Bool) (g : Graph) (w : Way) → AreDigits digits → IsWhole g → length g.nodes < 2 ^ 64 → IsWay digits bare g w → document_meant read_number (value_json (codes "amf3") w g) ≡ Some (value3 (part_of w g))
  pub amf0 : (digits : Digits) (bare : Bool) (g : Graph) (w : Way) → AreDigits digits → IsWhole g → length g.nodes < 2 ^ 64 → IsWay digits bare g w → document_meant read_number (value_json (codes "amf0") w g) ≡ Some (value0 (part_of w g))
