-- Each label in the canonical JSON of a graph is one of a row of its table.
use Rattle.std.specs.Prelude.{◌≡◌, ℕ, Bool, true, map}
use Rattle.amf_graph.specs.Graph.{node, Node, Graph, node_at}
use Rattle.amf_graph.specs.ByName.{by_name}
use Rattle.amf_text.specs.Scalars.{Digits}
use Rattle.amf_text.specs.Told.{Way, levels_below}
use Rattle.amf_text.specs.Texts.{IsWay}
use Rattle.amf_text.specs.Meant.{Tree, plain_object}
use Rattle.amf_text.specs.Linked.{are_linked}
use Rattle.amf_text.specs.Accepted.{Part}
use Rattle.amf_text.specs.ToldTrees.{named_of, tree_of}
use Rattle.amf_text.specs.ValueLaws.{part_of}

-- the pairs of a file's holder, as an object
abbrev pub pairs_tree : Way → Graph → Node → Tree
pairs_tree w g holder = plain_object (named_of (map (λ p. (p.0, tree_of w g levels_below p.1)) (by_name holder.names)))

abbrev pub file_part : Way → Graph → Node → Part
file_part w g holder = record { table = (part_of w g).table; root = pairs_tree w g holder }

abbrev pub IsLinked : Part → Type 0
IsLinked p = are_linked p.table p.root ≡ true

pub record LinkLaws : Type 0 where
  pub values : (digits : Digits) (bare : Bool) (g : Graph) (w : Way) → IsWay digits bare g w → IsLinked (part_of w g)
  pub files : (digits : Digits) (bare : Bool) (g : Graph) (w : Way) (i : ℕ) → IsWay digits bare g w → g.root ≡ node i → IsLinked (file_part w g (node_at g i))
