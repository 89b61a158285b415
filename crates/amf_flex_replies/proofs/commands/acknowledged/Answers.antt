use Rattle.std.proofs.Common.{◌≡◌}
use Rattle.amf_answer_plan.specs.Commands.{acknowledged}
use Rattle.amf_answer_plan.specs.Kept.{context_in}
use Rattle.amf_answer_plan.proofs.Doing.{at_err, not_begun}
use Rattle.amf_flex_replies.proofs.commands.acknowledged.Goals as goal

pub returns-in_err-fault-clause-stopped : goal.returns-in_err-fault-clause-stopped
returns-in_err-fault-clause-stopped g c = at_err c.from_residual.result (not_begun g.O.Outside.handed g.met.O.Outside.hands_none (acknowledged (context_in c.args.context.now) c.args.client.now c.args.reply.now) c.args.outside.now)
