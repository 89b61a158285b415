use Rattle.std.proofs.Common.{◌≡◌}
use Rattle.amf_wire_fields.specs.Room.{left_of}
use Rattle.amf3_read.proofs.Items.{Lasts}
use Rattle.amf3_read.proofs.value.read_items.Given as goal

abbrev pub invariant-loop-value : goal.invariant-loop-value
invariant-loop-value g l =
    record {
      lasts : Lasts g.S.Source.tells g.S.Source.left g.S.Source.faults l.fn.builder l.builder l.fn.tables l.tables l.fn.cursor l.cursor l.fn.node l.fn.todo l.todo l.fn.frames;
      same : l.frames ≡ l.fn.frames;
    }

abbrev pub decreases-loop-value : goal.decreases-loop-value
decreases-loop-value g l = left_of l.cursor
