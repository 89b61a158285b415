-- What comes of the call is said, or that there are no arguments.
use Rattle.std.proofs.Common.{◌≡◌, IfOk, refl}
use Rattle.std.proofs.lemmas.Result.{IfOk-weaker, on_err_weaker}
use Rattle.flex_msgs.specs.Asked.{told}
use Rattle.amf_answer_plan.proofs.Doing.{at_err, not_begun}
use Rattle.amf_flex_replies.proofs.remoting.remoting.Goals as goal

pub returns-in_err-context-clause-stopped : goal.returns-in_err-context-clause-stopped
returns-in_err-context-clause-stopped g c = at_err c.from_residual.result (not_begun g.O.Outside.handed g.met.O.Outside.hands_none _ c.args.outside.now)

pub returns-in_err-args-clause-stopped : goal.returns-in_err-args-clause-stopped
returns-in_err-args-clause-stopped g c = at_err c.from_residual-in_err-args.result (not_begun g.O.Outside.handed g.met.O.Outside.hands_none _ c.args.outside.now)

pub returns-clause-says : goal.returns-clause-says
returns-clause-says g c = IfOk-weaker c.call_if.result _ _ (λ a h. h (told c.args.graph.now.arena c.args.common.now) _ refl c.in_ok-context.ensures.context c.in_ok-args.ensures.args) c.call_if.ensures.says

pub returns-clause-stopped : goal.returns-clause-stopped
returns-clause-stopped g c = on_err_weaker c.call_if.result (λ h. h (told c.args.graph.now.arena c.args.common.now) _ refl c.in_ok-context.ensures.context c.in_ok-args.ensures.args) c.call_if.ensures.stopped
