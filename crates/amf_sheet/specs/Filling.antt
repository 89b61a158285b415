-- From a sheet to a builder: all nodes are begun in the order of their numbers, and then each gets its parts. A device of proofs.
use Rattle.std.specs.Prelude.{ℕ, zero, suc, ◌≡◌, ◌≤◌, List, [], ◌∷◌, ◌++◌, length, ◌+◌}
use Rattle.amf_graph.specs.declared.value.Value.{Value as Stored}
use Rattle.amf_graph.specs.declared.value.TextId.{TextId}
use Rattle.amf_graph.specs.Graph as graph
use Rattle.amf_sheet.specs.declared.row.Row.{Row}
use Rattle.amf_sheet.specs.declared.row.Row.TheVariants as row
use Rattle.amf_graph.specs.Arena.{Arena, StoredHead, array, StoredNode, IsNodeIn, head_content}
use Rattle.amf_graph.specs.Bounds.{NodeWithin}
use Rattle.amf_graph.specs.Building.{begun, shape_head, leaf_head}
use Rattle.amf_graph.specs.Views.{named}
use Rattle.amf_sheet.specs.Telling.{untold, told, told_leaf}
use Rattle.amf_sheet.specs.Rows.{Columns, span_of, row_node}

abbrev pub with_nodes : List StoredNode → Arena → Arena
with_nodes ns a = record { texts = a.texts; traits = a.traits; nodes = ns }

abbrev pub row_head : Row → StoredHead
row_head row.Untold = array
row_head (row.Leaf l) = leaf_head l
row_head (row.Parts s ps vs) = shape_head s

-- the node as it is begun
abbrev pub begun_row : Row → StoredNode
begun_row row.Untold = untold
begun_row (row.Leaf l) = told_leaf l
begun_row (row.Parts s ps vs) = begun (shape_head s)

-- what is left of a row whose node is begun: a node without parts has gone to the builder
abbrev pub left_row : Row → Row
left_row row.Untold = row.Untold
left_row (row.Leaf l) = row.Untold
left_row (row.Parts s ps vs) = row.Parts s ps vs

-- the node once it has its parts
abbrev pub filled : Columns → Row → StoredNode → StoredNode
filled c row.Untold n = n
filled c (row.Leaf l) n = n
filled c (row.Parts s ps vs) n = told s (span_of c.names ps) (span_of c.values vs)

-- a node that is begun gets these parts
abbrev pub IsFillable : Arena → Columns → Row → StoredNode → Type 0
IsFillable a c row.Untold n = Unit {0}
IsFillable a c (row.Leaf l) n = Unit {0}
IsFillable a c (row.Parts s ps vs) n = (n ≡ begun (shape_head s)) × (let m = told s (span_of c.names ps) (span_of c.values vs) in IsNodeIn a m × NodeWithin m)

abbrev pub more_names : List (TextId × Stored) → StoredNode → StoredNode
more_names ps n = record { is_open = n.is_open; head = n.head; names = n.names ++ named ps; values = n.values }

abbrev pub more_values : List Stored → StoredNode → StoredNode
more_values vs n = record { is_open = n.is_open; head = n.head; names = n.names; values = n.values ++ vs }

-- a node of this kind may have so many items
abbrev pub TakesItems : graph.Head → ℕ → Type 0
TakesItems graph.array n = Unit {0}
TakesItems (graph.object t) n = n ≤ length t.sealed
TakesItems (graph.wrapper c) n = n ≤ 1
TakesItems (graph.values f x) n = Unit {0}
TakesItems _ n = n ≡ 0

-- so many items more
abbrev pub TakesMore : Arena → StoredNode → ℕ → Type 0
TakesMore a n k = TakesItems (head_content a n.head) (length n.values + k)

-- the first so many nodes are begun, and the others have their parts
abbrev pub half_filled : Columns → ℕ → List Row → List StoredNode
half_filled c n [] = []
half_filled c zero (r ∷ rs) = row_node c r ∷ half_filled c zero rs
half_filled c (suc n) (r ∷ rs) = begun_row r ∷ half_filled c n rs
