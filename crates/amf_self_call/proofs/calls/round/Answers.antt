use Rattle.std.proofs.Common.{rules}
use Rattle.amf_graph.proofs.Finished.{finished}
use Rattle.amf_graph.specs.Rooted.{content}
use Rattle.amf_io.specs.InMemory.{taken}
use Rattle.amf_self_call.proofs.Told.{asks_nothing, round_answers, starved_answers}
use Rattle.amf_self_call.proofs.Untaken.{stays_self}
use Rattle.amf_self_call.proofs.calls.round.Goals as goal

pub asked-requires-clause-text : goal.asked-requires-clause-text
asked-requires-clause-text g c = c.requires.call.is_target.text

pub asked-requires-clause-short : goal.asked-requires-clause-short
asked-requires-clause-short g c = c.requires.call.is_target.short

pub returns-in_err-call-clause-answers : goal.returns-in_err-call-clause-answers
returns-in_err-call-clause-answers g c = starved_answers _ _ _ _ (search rules)

pub returns-in_err-call-clause-stays : goal.returns-in_err-call-clause-stays
returns-in_err-call-clause-stays g c = stays_self c.args.pass.now

pub answered-requires-clause-desk : goal.answered-requires-clause-desk
answered-requires-clause-desk g c = c.requires.desk

pub answered-requires-clause-quiet : goal.answered-requires-clause-quiet
answered-requires-clause-quiet g c =
    let whole = finished c.args.args.now.arena c.args.args.now.root c.is_finished.ensures.finished c.is_finished.ensures.names in
    asks_nothing _ c.args.target.now (content c.args.args.now) (taken c.in_ok-call.call) c.in_ok-call.ensures.ask c.a_call_is_quiet.ensures
    (record { other = c.requires.call.is_target.other; whole = whole; unnamed = c.requires.call.unnamed }) c.in_ok-call.ensures.fits c.as_bytes.result.now c.as_bytes.ensures

pub returns-in_err-reply-clause-answers : goal.returns-in_err-reply-clause-answers
returns-in_err-reply-clause-answers g c = starved_answers _ _ _ _ (search rules)

pub returns-in_err-reply-clause-stays : goal.returns-in_err-reply-clause-stays
returns-in_err-reply-clause-stays g c = c.answered.ensures.stays

pub returns-clause-answers : goal.returns-clause-answers
returns-clause-answers g c =
    let whole = finished c.args.args.now.arena c.args.args.now.root c.is_finished.ensures.finished c.is_finished.ensures.names in
    round_answers _ c.args.target.now (content c.args.args.now) (taken c.in_ok-call.call) c.in_ok-call.ensures.ask c.an_exchange_tells.ensures c.are_lawful.ensures
    (record { other = c.requires.call.is_target.other; whole = whole; unnamed = c.requires.call.unnamed }) c.in_ok-call.ensures.fits c.as_bytes.result.now c.as_bytes.ensures
    (taken c.in_ok-reply.reply) c.in_ok-reply.ensures.answered c.as_bytes-2.result.now c.as_bytes-2.ensures c.read_back.result c.read_back.ensures

pub returns-clause-stays : goal.returns-clause-stays
returns-clause-stays g c = c.answered.ensures.stays
