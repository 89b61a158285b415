use Rattle.std.proofs.Common.{◌∙◌, ◌++◌, ap}
use Rattle.amf3_write.proofs.output.Output.any_number.Goals as goal

pub returns-clause-ok : goal.returns-clause-ok
returns-clause-ok c =
    let h = c.number_in_room.ensures.writes in
    record { bytes = h.bytes; spelled = h.spelled; appended = h.appended ∙ ap (λ w. w ++ h.bytes) c.in_ok-make_room.ensures.same }
