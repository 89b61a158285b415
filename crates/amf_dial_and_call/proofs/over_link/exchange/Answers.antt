use Rattle.std.proofs.Common.{sym, subst}
use Rattle.amf_dial_and_call.specs.Called.{HasNames}
use Rattle.amf_dial_and_call.specs.Exchanged.{Exchanged}
use Rattle.amf_dial_and_call.proofs.Exchanging.{exchanged, names_as}
use Rattle.amf_dial_and_call.proofs.over_link.exchange.Goals as goal

pub returns-clause-exchanged : goal.returns-clause-exchanged
returns-clause-exchanged g c =
    let link = g.L.Link in
    let s = c.in-Ok.ensures in let d = c.read_result_keyed.ensures in
    subst (Exchanged link c.args.link.now c.read_result_keyed.new.link c.args.call.now) (sym c.answer_of.ensures)
    (exchanged link c.args.link.now c.send.new.link c.read_result_keyed.new.link c.args.call.now c.read_result_keyed.new.buffer c.read_result_keyed.result
    (record { told = s.tells; held = s.sends; writes = s.cause; side = s.other_side; reads = s.other_count })
    (record { told = d.tells; answers = rw c.requires at d.answers; cause = d.cause; side = d.other_side; writes = d.other_count }))

pub returns-clause-named : goal.returns-clause-named
returns-clause-named g c = subst HasNames (sym c.answer_of.ensures) (names_as c.read_result_keyed.result c.read_result_keyed.ensures.named)
