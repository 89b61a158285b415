use Rattle.std.proofs.Common.{◌≡◌}
use Rattle.amf_answer_plan.proofs.Building.{acknowledge_built}
use Rattle.amf_answer_plan.proofs.messages.acknowledge_of.Goals as goal

pub returns : goal.returns
returns c =
    let added = rw c.in_ok-message.ensures at c.acknowledge.ensures.ok in
    acknowledge_built c.args.reply.now _ _ _ c.finished.result c.requires.body added c.finished.ensures.finished c.finished.ensures.graph
