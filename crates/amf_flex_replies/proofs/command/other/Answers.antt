use Rattle.std.proofs.Common.{◌≡◌, ap, subst}
use Rattle.flex_msgs.specs.declared.reply.FaultText.{FaultText}
use Rattle.amf_answer_plan.specs.Causes.{not_served}
use Rattle.amf_answer_plan.specs.Did.{Stopped}
use Rattle.amf_answer_plan.specs.Says.{Says}
use Rattle.amf_answer_plan.specs.Kept.{context_in}
use Rattle.amf_answer_plan.specs.Plan.{Plan}
use Rattle.amf_answer_plan.specs.Replies.{Answer, error}
use Rattle.amf_answer_plan.proofs.Doing.{at_err, not_begun}
use Rattle.amf_flex_replies.proofs.command.other.Goals as goal

pub returns-in_err-fault-clause-stopped : goal.returns-in_err-fault-clause-stopped
returns-in_err-fault-clause-stopped g c = at_err c.from_residual.result (not_begun g.O.Outside.handed g.met.O.Outside.hands_none (error (context_in c.args.context.now) not_served) c.args.outside.now)

pub returns-in_err-error-clause-stopped : goal.returns-in_err-error-clause-stopped
returns-in_err-error-clause-stopped g c =
    let same = ap (λ (f : FaultText). error (context_in c.args.context.now) f) c.in_ok-fault.ensures.cause in
    at_err c.from_residual-in_err-error.result (subst (λ (p : Plan Answer). Stopped g.O.Outside.handed p c.args.outside.now c.error.new.outside) same c.in_err-error.ensures.stopped)

pub returns-clause-says : goal.returns-clause-says
returns-clause-says g c =
    let same = ap (λ (f : FaultText). error (context_in c.args.context.now) f) c.in_ok-fault.ensures.cause in
    subst (λ (p : Plan Answer). Says g.O.Outside.handed p c.args.outside.now c.error.new.outside c.in_ok-error.field-0) same c.in_ok-error.ensures.says
