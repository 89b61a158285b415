use Rattle.std.proofs.Common.{ℕ, ◌+◌, ◌-◌, List, length}
use Rattle.amf_tables.specs.SpelledNodes.{AreSpelled}
use Rattle.amf_tables.proofs.spelled_nodes.make_room.Given as goal

abbrev pub invariant-loop-marks : goal.invariant-loop-marks
invariant-loop-marks l = (nodes done : List ℕ) → AreSpelled nodes done l.initial.marks.items → AreSpelled nodes done l.marks.items

abbrev pub decreases-loop-marks : goal.decreases-loop-marks
decreases-loop-marks l = l.index + 1 - length l.marks.items
