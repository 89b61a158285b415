use Rattle.amf0_spelling.specs.TableParts0.{shown_tables}
use Rattle.amf_wire_fields.specs.Room.{left_of}
use Rattle.amf0_read.specs.Frames0.{FilledSo}
use Rattle.amf0_read.proofs.fill.fill_by.Given as goal

abbrev pub invariant-loop-role : goal.invariant-loop-role
invariant-loop-role g l =
    FilledSo g.S.Source.tells g.S.Source.left g.S.Source.faults l.node l.fn.todo l.fn.builder l.builder (shown_tables l.fn.tables) (shown_tables l.tables) l.fn.cursor l.cursor l.todo

abbrev pub decreases-loop-role : goal.decreases-loop-role
decreases-loop-role g l = left_of l.cursor
