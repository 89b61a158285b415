use Rattle.std.proofs.Common.{sym, subst, rules}
use Rattle.amf_io.specs.InMemory.{faultless_left}
use Rattle.amf_self_call.specs.Steps.{IsRead, starved}
use Rattle.amf_self_call.proofs.Told.{read_of}
use Rattle.amf_self_call.proofs.calls.read_back.Goals as goal

pub returns-in_err-wire : goal.returns-in_err-wire
returns-in_err-wire c = starved (search rules)

pub returns-in_err-buffer : goal.returns-in_err-buffer
returns-in_err-buffer c = starved (search rules)

pub returns : goal.returns
returns c =
    let kept = c.in_ok-buffer.buffer in
    subst (IsRead c.args.reply.now) (sym c.told.ensures)
    (read_of c.args.reply.now kept (faultless_left c.in_ok-wire.wire.source) c.read_result.new.buffer (faultless_left c.read_result.new.link.source) c.read_result.result
    c.in_ok-buffer.ensures c.in_ok-wire.ensures.left (c.read_result.ensures.answers tt))
