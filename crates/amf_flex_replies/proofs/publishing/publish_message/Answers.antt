use Rattle.std.proofs.Common.{Some}
use Rattle.amf_answer_plan.specs.Commands.{publish_spelled}
use Rattle.amf_answer_plan.specs.Kept.{names_told}
use Rattle.amf_answer_plan.proofs.Doing.{at_err, not_begun}
use Rattle.amf_flex_replies.proofs.publishing.publish_message.Goals as goal

pub returns-in_err-context-clause-stopped : goal.returns-in_err-context-clause-stopped
returns-in_err-context-clause-stopped g c = at_err c.from_residual.result (not_begun g.O.Outside.handed g.met.O.Outside.hands_none (publish_spelled (names_told c.args.common.now) c.args.moment (Some c.args.message)) c.args.outside.now)
