use Rattle.amf0_spelling.specs.TableParts0.{shown_tables}
use Rattle.amf0_read.specs.Ready0.{Ready0}
use Rattle.amf_wire_fields.specs.Room.{left_of}
use Rattle.amf_sol.specs.FileReading.{AreOfFormat}
use Rattle.amf_sol.proofs.PairLoops.{PairsSo}
use Rattle.amf_sol.proofs.pairs.read_each.Given as goal

abbrev pub invariant-loop-alloc : goal.invariant-loop-alloc
invariant-loop-alloc g l = PairsSo g.S.Source.tells g.S.Source.left g.S.Source.faults l.version l.builder (shown_tables l.tables) l.fn.cursor l.cursor × Ready0 0 l.builder (shown_tables l.tables) l.cursor × AreOfFormat l.version (shown_tables l.tables)

abbrev pub decreases-loop-alloc : goal.decreases-loop-alloc
decreases-loop-alloc g l = left_of l.cursor
