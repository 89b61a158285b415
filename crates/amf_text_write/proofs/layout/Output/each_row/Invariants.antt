use Rattle.std.proofs.Common.{take, get_or}
use Rattle.std.specs.List.{flat_map}
use Rattle.amf_text.specs.Told as told
use Rattle.amf_text_write.specs.Graphs.{row_tokens}
use Rattle.amf_text_write.specs.Tells.{Tells}
use Rattle.amf_text_write.specs.Ways.{graph_in, IsWayOf}
use Rattle.amf_text_write.proofs.layout.Output.each_row.Given as goal

abbrev pub invariant-loop-number : goal.invariant-loop-number
invariant-loop-number l =
    (w : told.Way) → IsWayOf l.way w → Tells (flat_map (λ n. row_tokens (graph_in l.way) (get_or l.way.numbering.now n 0) w) (take l.number-index l.way.rows.now)) l.initial.self l.self
