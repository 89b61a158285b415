-- The reference tables as a reader of AMF 0 keeps them: places in an arena (2.9 and 3.1).
use Rattle.std.specs.Prelude.{ℕ, ◌<◌, Bool, false, List, [], length}
use Rattle.std.specs.List.{AllByRecursion}
use Rattle.amf_graph.specs.Arena.{Arena}
use Rattle.amf_graph.specs.Order.{IsDistinct}
use Rattle.amf3_spelling.specs.KeptTables.{KeptTables, no_kept_tables, tables_of, AreTablesIn}
use Rattle.amf0_spelling.specs.Tables0.{Tables0}

-- the tables of AMF 3, the nodes that AMF 0 can name, and whether a marker has switched to AMF 3 so far
pub record KeptTables0 : Type 0 where
  pub amf3 : KeptTables
  pub nodes : List ℕ
  pub switched : Bool

abbrev pub no_kept_tables0 : KeptTables0
no_kept_tables0 = record { amf3 = no_kept_tables; nodes = []; switched = false }

-- by content; all nodes of the arena have been spelled
abbrev pub tables0_of : Arena → KeptTables0 → Tables0
tables0_of a t = record { amf3 = tables_of a t.amf3; nodes = t.nodes; switched = t.switched }

-- every place is one of the arena's, and no node stands twice
pub record AreTables0In (a : Arena) (t : KeptTables0) : Type 0 where
  pub amf3 : AreTablesIn a t.amf3
  pub nodes : AllByRecursion (λ i. i < length a.nodes) t.nodes
  pub distinct : IsDistinct t.nodes
