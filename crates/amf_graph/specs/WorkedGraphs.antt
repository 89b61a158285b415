-- Worked facts of graphs.
use Rattle.std.specs.Prelude.{◌≡◌, ℕ, true, List, [], ◌∷◌}
use Rattle.amf_graph.specs.Graph.{Value, node, Traits, Head, array, object, Node, Graph}
use Rattle.amf_graph.specs.ByName.{by_name}
use Rattle.amf_graph.specs.Isomorphic.{Isomorphic}
use Rattle.amf_graph.specs.Order.{IsOrder}

abbrev pub items : List Value → Node
items vs = record { head = array; names = []; values = vs }

-- [x, x] and [x, y], where x and y are empty arrays
abbrev pub shared : Graph
shared = record { nodes = items (node 1 ∷ node 1 ∷ []) ∷ items [] ∷ []; root = node 0 }

abbrev pub apart : Graph
apart = record { nodes = items (node 1 ∷ node 2 ∷ []) ∷ items [] ∷ items [] ∷ []; root = node 0 }

-- shared in other numbers, with a node that is not reached
abbrev pub renumbered : Graph
renumbered = record { nodes = items [] ∷ items (node 2 ∷ []) ∷ items [] ∷ items (node 2 ∷ node 2 ∷ []) ∷ []; root = node 3 }

abbrev pub letter_a : List ℕ
letter_a = 0x61 ∷ []

abbrev pub letter_b : List ℕ
letter_b = 0x62 ∷ []

-- an array with the names b and a and an item, all of them arrays, and an object with a sealed value in the item's place
abbrev pub three_arrays : Head → Graph
three_arrays head = record {
  nodes = record { head = head; names = (letter_b, node 1) ∷ (letter_a, node 2) ∷ []; values = node 3 ∷ [] } ∷ items [] ∷ items [] ∷ items [] ∷ [];
  root = node 0;
}

abbrev pub one_sealed : Traits
one_sealed = record { class = []; dynamic = true; sealed = letter_a ∷ [] }

pub record GraphRows : Type 0 where
  pub different : Isomorphic shared apart → ⊥
  pub different_back : Isomorphic apart shared → ⊥
  pub same : Isomorphic shared renumbered
  -- pairs of one name keep their order
  pub by_name_is_stable : by_name ((letter_b, node 1) ∷ (letter_a, node 2) ∷ (letter_b, node 3) ∷ []) ≡ (letter_a, node 2) ∷ (letter_b, node 1) ∷ (letter_b, node 3) ∷ []
  -- an array's names stand before its items, an object's members behind its sealed values
  pub names_before_items : IsOrder (three_arrays array) (0 ∷ 2 ∷ 1 ∷ 3 ∷ [])
  pub sealed_before_members : IsOrder (three_arrays (object one_sealed)) (0 ∷ 3 ∷ 2 ∷ 1 ∷ [])
  pub in_order : IsOrder renumbered (3 ∷ 2 ∷ [])
