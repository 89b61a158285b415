use Rattle.std.proofs.Common.{◌++◌, ap, ◌∙◌}
use Rattle.amf3_spelling.specs.Markers3.{marker_byte}
use Rattle.amf3_spelling.specs.ByteSpelling.{byte, number}
use Rattle.amf3_write.specs.Writes.{WritesStep}
use Rattle.amf3_write.proofs.WroteSegments.{wrote_two}
use Rattle.amf3_write.proofs.output.Output.marked_number.Goals as goal

pub returns-clause-ok : goal.returns-clause-ok
returns-clause-ok c =
    let o = c.args.self.now in
    let m = c.marker_in_room.new.self in
    let h = c.marker_in_room.ensures.writes in
    let begun : WritesStep (byte (marker_byte c.args.marker)) o m = record { bytes = h.bytes; spelled = h.spelled; appended = h.appended ∙ ap (λ w. w ++ h.bytes) c.in_ok-make_room.ensures.same } in
    wrote_two (byte (marker_byte c.args.marker)) (number c.args.number) o m c.number_in_room.new.self begun c.number_in_room.ensures.writes
