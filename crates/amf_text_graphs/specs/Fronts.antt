-- What an arena shows of the first nodes of a page, while they are told one after the other. A device of proofs.
use Rattle.std.specs.Prelude.{◌≡◌, ℕ, List, [], ◌∷◌, ◌++◌, length, map}
use Rattle.std.specs.List.{AllByRecursion}
use Rattle.amf_graph.specs.declared.value.Value.{Value as Stored}
use Rattle.amf_graph.specs.Graph.{Graph}
use Rattle.amf_graph.specs.Arena.{Arena, StoredNode, Names, graph_of}
use Rattle.amf_sheet.specs.Telling.{AreAllTold}
use Rattle.amf_text.specs.Linked.{Numbers}
use Rattle.amf_text.specs.WholeLaws.{IsSoundNode}
use Rattle.amf_text_trees.specs.Sheets.{Kept}
use Rattle.amf_text_trees.specs.Pages.{node_of}
use Rattle.amf_text_graphs.specs.Showing.{IsMore}
use Rattle.amf_text_graphs.specs.Telling.{ShowsNode}

-- the first of the nodes are these
abbrev pub AreNodesShown : Numbers → Arena → List StoredNode → List Kept → Type 0
AreNodesShown labels a ns [] = Unit {0}
AreNodesShown labels a (n ∷ ns) (k ∷ ks) = ShowsNode labels a n k × AreNodesShown labels a ns ks
AreNodesShown labels a [] (k ∷ ks) = ⊥

-- and stay these, whatever texts and traits come
abbrev pub HasFront : Numbers → Arena → List Kept → Type 0
HasFront labels a ks = (b : Arena) → IsMore a b → AreNodesShown labels b a.nodes ks

-- so many nodes of all are told, and the rest is not
pub record IsTelling (labels : Numbers) (a : Arena) (all rest : List Kept) (place : ℕ) : Type 0 where
  pub done : List Kept
  pub split : all ≡ done ++ rest
  pub at : place ≡ length done
  pub count : length a.nodes ≡ length all
  pub front : HasFront labels a done
  pub sound : AllByRecursion (IsSoundNode (length all)) (map (node_of labels) rest)

-- the arena and the root are this graph, and can be given to a builder
pub record PageTold (a : Arena) (v : Stored) (g : Graph) : Type 0 where
  pub told : AreAllTold a
  pub root : Names a v
  pub content : graph_of a v ≡ g
