use Rattle.std.proofs.Common.{length}
use Rattle.amf_text.specs.Told as told
use Rattle.amf_text_write.specs.Pieces.{ArePieces}
use Rattle.amf_text_write.specs.Walk.{Leads, left_in, alone}
use Rattle.amf_text_write.specs.Ways.{arena_in, IsWayOf}
use Rattle.amf_text_write.proofs.layout.Output.drain.Given as goal

abbrev pub invariant-loop-piece : goal.invariant-loop-piece
invariant-loop-piece l = record {
  leads : (w : told.Way) → IsWayOf l.way w → Leads (left_in l.way l.initial.waiting.items w) (left_in l.way l.waiting.items w) l.initial.self l.self;
  pieces : ArePieces (arena_in l.way) l.waiting.items;
}

abbrev pub decreases-loop-piece : goal.decreases-loop-piece
decreases-loop-piece l = length (left_in l.way l.waiting.items alone)
