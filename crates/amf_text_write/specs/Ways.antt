-- How the code's way of telling a graph stands for one of the definitions. A device of proofs.
use Rattle.std.specs.Prelude.{◌≡◌, ℕ, false, map, get_or}
use Rattle.amf_graph.specs.Arena.{Arena}
use Rattle.amf_graph.specs.Graph.{Graph}
use Rattle.amf_graph.specs.Rooted.{content}
use Rattle.amf_graph.specs.Renumbered.{place_of}
use Rattle.amf_text.specs.Scalars.{AreDigits}
use Rattle.amf_text.specs.Told as told
use Rattle.amf_text_write.specs.declared.way.Way.{Way}
use Rattle.amf_text_write.specs.Rows.{nodes_of}

abbrev pub arena_in : Way → Arena
arena_in c = c.graph.now.arena

abbrev pub graph_in : Way → Graph
graph_in c = content c.graph.now

-- the rows are the table, and by number the marks say which nodes stand in it
pub record IsWayOf (c : Way) (w : told.Way) : Type 0 where
  pub order : w.order ≡ c.numbering.now
  pub rows : w.table ≡ nodes_of c.numbering.now c.rows.now
  pub marks : (i : ℕ) → told.in_table w i ≡ get_or c.marks.now (place_of w.order i) false
  pub width : told.longest (map (told.place_in w) w.table) ≡ c.width
  pub digits : AreDigits w.digits
  pub bare : w.bare ≡ c.bare
