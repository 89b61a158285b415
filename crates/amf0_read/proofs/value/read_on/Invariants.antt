use Rattle.std.proofs.Common.{◌+◌, ◌*◌, length, reverse}
use Rattle.amf0_spelling.specs.TableParts0.{shown_tables}
use Rattle.amf_wire_fields.specs.Room.{left_of}
use Rattle.amf0_read.specs.Frames0.{StackSo, weight_of}
use Rattle.amf0_read.proofs.value.read_on.Given as goal

abbrev pub invariant-loop-now : goal.invariant-loop-now
invariant-loop-now g l =
    StackSo g.S.Source.tells g.S.Source.left g.S.Source.faults l.fn.now (reverse l.fn.frames.items) l.fn.builder l.builder (shown_tables l.fn.tables) (shown_tables l.tables) l.fn.cursor l.cursor l.now (reverse l.frames.items)

abbrev pub decreases-loop-now : goal.decreases-loop-now
decreases-loop-now g l = 4 * left_of l.cursor + 2 * length l.frames.items + weight_of l.now
