-- Where what is told of a node stands in a sheet. A device of proofs.
use Rattle.std.specs.Prelude.{◌≡◌, ◌≤◌, ◌<◌, List, [], length, map, slice_range}
use Rattle.std.specs.List.{AllByRecursion}
use Rattle.amf_graph.specs.declared.value.Value.{Value as Stored}
use Rattle.amf_graph.specs.declared.value.TextId.{TextId}
use Rattle.amf_sheet.specs.declared.row.Span.{Span}
use Rattle.amf_sheet.specs.declared.row.Row.{Row}
use Rattle.amf_sheet.specs.declared.row.Row.TheVariants as row
use Rattle.amf_graph.specs.Arena.{Arena, StoredNode}
use Rattle.amf_graph.specs.Bounds.{count_end}
use Rattle.amf_graph.specs.Pools.{IsFront}
use Rattle.amf_sheet.specs.Telling.{untold, told, told_leaf}

-- what stands in the span
abbrev pub span_of : {X : Type 0} → List X → Span → List X
span_of xs s = slice_range xs s.start s.end

pub record SpanIn {X : Type 0} (xs : List X) (s : Span) : Type 0 where
  pub order : s.start ≤ s.end
  pub inside : s.end ≤ length xs

-- the names and values of all nodes, one behind the other
pub record Columns : Type 0 where
  pub names : List (TextId × Stored)
  pub values : List Stored

abbrev pub columns : List (TextId × Stored) → List Stored → Columns
columns names values = record { names = names; values = values }

abbrev pub RowIn : Columns → Row → Type 0
RowIn c row.Untold = Unit {0}
RowIn c (row.Leaf l) = Unit {0}
RowIn c (row.Parts s ps vs) = SpanIn c.names ps × SpanIn c.values vs

abbrev pub row_node : Columns → Row → StoredNode
row_node c row.Untold = untold
row_node c (row.Leaf l) = told_leaf l
row_node c (row.Parts s ps vs) = told s (span_of c.names ps) (span_of c.values vs)

-- what was there is there
pub record Grows (old new : Columns) : Type 0 where
  pub names : IsFront old.names new.names
  pub values : IsFront old.values new.values

abbrev pub sheet_arena : Arena → Columns → List Row → Arena
sheet_arena a c rows = record { texts = a.texts; traits = a.traits; nodes = map (row_node c) rows }

-- the builder of a sheet has its texts and traits alone
pub record IsSheet (a : Arena) (c : Columns) (rows : List Row) : Type 0 where
  pub no_nodes : a.nodes ≡ []
  pub rows_in : AllByRecursion (RowIn c) rows
  pub few : length rows < count_end
