-- What is known of a graph before it is told: its order and its table. A device of proofs.
use Rattle.std.specs.Prelude.{ℕ, Bool, List}
use Rattle.amf_graph.specs.Graph.{Graph}
use Rattle.amf_graph.specs.Order.{IsOrder, IsDistinct}
use Rattle.amf_text.specs.Scalars.{Digits}
use Rattle.amf_text.specs.Told as told
use Rattle.amf_text_write.specs.declared.graphs.Plan.{Plan}
use Rattle.amf_text_write.specs.declared.way.Way.{Way}
use Rattle.amf_text_write.specs.Rows.{nodes_of, IsTabled}
use Rattle.amf_text_write.specs.Ways.{graph_in}

pub record IsPlanned (g : Graph) (order : List ℕ) (marks : List Bool) (rows : List ℕ) (width : ℕ) : Type 0 where
  pub is_order : IsOrder g order
  pub once : IsDistinct order
  pub is_tabled : IsTabled g order marks rows width

abbrev pub IsPlanOf : Graph → Plan → Type 0
IsPlanOf g p = IsPlanned g p.numbering p.table.marks.items p.table.rows.items p.table.width

-- the code's way of telling its graph
abbrev pub IsPlannedWay : Way → Type 0
IsPlannedWay c = IsPlanned (graph_in c) c.numbering.now c.marks.now c.rows.now c.width

-- the way of telling that it stands for, by these digits
abbrev pub way_by : Way → Digits → told.Way
way_by c d = record { order = c.numbering.now; table = nodes_of c.numbering.now c.rows.now; digits = d; bare = c.bare }
