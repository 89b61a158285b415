-- Nodes by the places where they are kept. A device of proofs.
use Rattle.std.specs.Prelude.{◌≡◌, ℕ, ◌≤◌, ◌<◌, true, false, List, length, get_or, map, Some}
use Rattle.amf_graph.specs.Building.{no_stored, kind_of}
use Rattle.amf_graph.specs.declared.kind.NodeKind.{NodeKind}
use Rattle.amf_graph.specs.declared.row.Row.{Row}
use Rattle.amf_graph.specs.declared.row.Row.TheVariants as row
use Rattle.amf_graph.specs.Arena.{StoredNode}
use Rattle.amf_graph.specs.Slots.{KeptSlot, no_slot}
use Rattle.amf_graph.specs.Pools.{Pool, RowIn, pool_node}

abbrev pub no_row : Row
no_row = row.Leaf 0

abbrev pub row_node : Pool → List KeptSlot → Row → StoredNode
row_node p ss (row.Slot s) = (get_or ss s no_slot).node
row_node p ss r = pool_node p r

abbrev pub row_nodes : Pool → List KeptSlot → List Row → List StoredNode
row_nodes p ss rows = map (row_node p ss) rows

-- The node of this number is kept there. A slot knows whose it is, so no two nodes have one.
abbrev pub RowFits : Pool → List KeptSlot → ℕ → ℕ → Row → Type 0
RowFits p ss used i (row.Slot s) = (s < used) × ((get_or ss s no_slot).owner ≡ Some i)
RowFits p ss used i r = RowIn p r

-- the first slots alone are used
pub record AreRows (p : Pool) (ss : List KeptSlot) (used : ℕ) (rows : List Row) : Type 0 where
  pub slots : used ≤ length ss
  pub fits : (i : ℕ) → i < length rows → RowFits p ss used i (get_or rows i no_row)

abbrev pub kinds_of : List StoredNode → List NodeKind
kinds_of ns = map (λ n. kind_of n.head) ns

-- the nodes that the rows name, and their kinds
pub record AreNodes (p : Pool) (ss : List KeptSlot) (used : ℕ) (rows : List Row) (kinds : List NodeKind) : Type 0 where
  pub placed : AreRows p ss used rows
  pub same : kinds ≡ kinds_of (row_nodes p ss rows)

abbrev pub IsOpenAt : List StoredNode → ℕ → Type 0
IsOpenAt ns i = (get_or ns i no_stored).is_open ≡ true

abbrev pub IsClosedAt : List StoredNode → ℕ → Type 0
IsClosedAt ns i = (get_or ns i no_stored).is_open ≡ false

-- the first node that is open
pub record IsFirstOf (ns : List StoredNode) (i : ℕ) : Type 0 where
  pub there : i < length ns
  pub opened : IsOpenAt ns i
  pub before : (k : ℕ) → k < i → IsClosedAt ns k
