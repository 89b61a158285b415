-- What is told of a node, and what an arena shows of it from then on. A device of proofs.
use Rattle.std.specs.Prelude.{◌≡◌, ℕ, false, List, [], set}
use Rattle.std.specs.List.{AllByRecursion}
use Rattle.amf_graph.specs.declared.value.Value.{Value as Stored}
use Rattle.amf_graph.specs.declared.value.TextId.{TextId}
use Rattle.amf_graph.specs.declared.shape.Shape.{Shape}
use Rattle.amf_graph.specs.Graph.{Head}
use Rattle.amf_graph.specs.Arena.{Arena, StoredHead, StoredNode, head_content, node_content, HeadNames, IsTextId}
use Rattle.amf_graph.specs.Building.{closed}
use Rattle.amf_sheet.specs.Telling.{told}
use Rattle.amf_text.specs.Linked.{Numbers}
use Rattle.amf_text_trees.specs.Sheets.{Entry, Pairs, Kept}
use Rattle.amf_text_trees.specs.Pages.{node_of}
use Rattle.amf_text_graphs.specs.Showing.{IsMore, HasText, AreShown, ArePairsShown}

-- the node has this shape, these names and these values
pub record PartsTold (labels : Numbers) (old new : Arena) (i : ℕ) (s : Shape) (qs : Pairs) (es : List Entry) : Type 0 where
  pub more : IsMore old new
  pub names : List (TextId × Stored)
  pub values : List Stored
  pub nodes : new.nodes ≡ set old.nodes i (told s names values)
  pub names_shown : (a : Arena) → IsMore new a → ArePairsShown labels a names qs
  pub values_shown : (a : Arena) → IsMore new a → AreShown labels a values es

-- the node holds this alone
pub record LeafTold (old new : Arena) (i : ℕ) (h : Head) : Type 0 where
  pub more : IsMore old new
  pub head : StoredHead
  pub nodes : new.nodes ≡ set old.nodes i (closed head [] [])
  pub shown : (a : Arena) → IsMore new a → (head_content a head ≡ h) × HeadNames a head

-- what an arena shows of a node
pub record ShowsNode (labels : Numbers) (a : Arena) (n : StoredNode) (k : Kept) : Type 0 where
  pub content : node_content a n ≡ node_of labels k
  pub complete : n.is_open ≡ false
  pub head : HeadNames a n.head
  pub names : AllByRecursion (λ p. IsTextId a p.0 × HasText a p.1) n.names
  pub values : AllByRecursion (HasText a) n.values

-- the node is that one of the page
pub record NodeTold (labels : Numbers) (old new : Arena) (i : ℕ) (k : Kept) : Type 0 where
  pub more : IsMore old new
  pub node : StoredNode
  pub nodes : new.nodes ≡ set old.nodes i node
  pub shown : (a : Arena) → IsMore new a → ShowsNode labels a node k
