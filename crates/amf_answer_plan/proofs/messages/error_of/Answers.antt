use Rattle.std.proofs.Common.{◌≡◌}
use Rattle.amf_answer_plan.proofs.Building.{error_built}
use Rattle.amf_answer_plan.proofs.messages.error_of.Goals as goal

pub returns : goal.returns
returns c =
    let added = rw c.in_ok-message.ensures at c.error.ensures.ok in
    error_built c.args.reply.now c.args.fault.now _ _ _ c.finished.result added c.finished.ensures.finished c.finished.ensures.graph
