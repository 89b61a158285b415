use Rattle.std.proofs.Common.{subst, sym}
use Rattle.amf_tables.specs.SpelledNodes.{AreSpelled}
use Rattle.amf_tables.proofs.SpelledNodes.{room_marked}
use Rattle.amf_tables.proofs.spelled_nodes.make_room.Goals as goal

pub loop-marks-preserved : goal.loop-marks-preserved
loop-marks-preserved c = λ nodes done h. subst (AreSpelled nodes done) (sym c.in_ok-push.ensures.items) (room_marked nodes done c.loop-marks.marks.items (c.loop-marks.invariant nodes done h))
