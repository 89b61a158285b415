-- Why a part of a graph has no canonical spelling in AMF 3, by the canonical numbers of the whole graph.
use Rattle.std.specs.Prelude.{◌≡◌, ℕ, ◌≤◌, List, [], ◌∷◌, ◌++◌, length, slice_get, Some}
use Rattle.amf_graph.specs.declared.lack.LackKind.{LackKind}
use Rattle.amf_graph.specs.Graph.{Value, Graph, node_at, AllNamed}
use Rattle.amf_graph.specs.Order.{IsOrder, Walks}
use Rattle.amf_graph.specs.Lacks.{IsFirstLack}
use Rattle.amf3_spelling.specs.Lacks3.{NodeLacks3}

-- the reason applies to a node of this canonical number, which is one of those found
pub record PartLacks3 (g : Graph) (order found : List ℕ) (number : ℕ) (kind : LackKind) : Type 0 where
  pub node : ℕ
  pub numbered : slice_get order number ≡ Some node
  pub place : ℕ
  pub is_found : slice_get found place ≡ Some node
  pub lacks : NodeLacks3 g node kind

-- of the nodes to which the value leads beside those met before, the first by its canonical number that has no spelling
pub record IsPartLack3 (g : Graph) (v : Value) (met : List ℕ) (number : ℕ) (kind : LackKind) : Type 0 where
  pub order : List ℕ
  pub is_order : IsOrder g order
  pub found : List ℕ
  pub walk : Walks g met (v ∷ []) (met ++ found)
  pub first : IsFirstLack (PartLacks3 g order found) number kind

-- the value leads to a node with an empty name beside those met before
pub record HasUnnamed (g : Graph) (v : Value) (met : List ℕ) : Type 0 where
  pub node : ℕ
  pub unnamed : AllNamed (node_at g node).names → ⊥
  pub is_met : (all : List ℕ) → Walks g met (v ∷ []) all → (place : ℕ) × (length met ≤ place) × (slice_get all place ≡ Some node)
