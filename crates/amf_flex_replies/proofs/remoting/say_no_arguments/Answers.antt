use Rattle.std.proofs.Common.{◌≡◌, IfOk, subst}
use Rattle.flex_msgs.specs.declared.reply.FaultText.{FaultText}
use Rattle.amf_answer_plan.specs.Says.{Says}
use Rattle.amf_answer_plan.specs.Did.{Stopped}
use Rattle.amf_answer_plan.specs.Kept.{context_in}
use Rattle.amf_answer_plan.specs.Replies.{error}
use Rattle.std.proofs.lemmas.Result.{IfOk-weaker, on_err_weaker}
use Rattle.amf_answer_plan.proofs.Doing.{at_err, not_begun}
use Rattle.amf_flex_replies.proofs.remoting.say_no_arguments.Goals as goal

pub returns-in_err-fault-clause-stopped : goal.returns-in_err-fault-clause-stopped
returns-in_err-fault-clause-stopped g c = at_err c.from_residual.result (not_begun g.O.Outside.handed g.met.O.Outside.hands_none _ c.args.outside.now)

pub returns-clause-says : goal.returns-clause-says
returns-clause-says g c = IfOk-weaker c.error.result _ _ (λ a h. subst (λ (f : FaultText). Says g.O.Outside.handed (error (context_in c.args.context.now) f) c.args.outside.now c.error.new.outside a) c.in_ok-fault.ensures.cause h) c.error.ensures.says

pub returns-clause-stopped : goal.returns-clause-stopped
returns-clause-stopped g c = on_err_weaker c.error.result (λ h. subst (λ (f : FaultText). Stopped g.O.Outside.handed (error (context_in c.args.context.now) f) c.args.outside.now c.error.new.outside) c.in_ok-fault.ensures.cause h) c.error.ensures.stopped
