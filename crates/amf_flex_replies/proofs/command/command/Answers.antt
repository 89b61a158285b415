use Rattle.std.proofs.Common.{◌≡◌, ◌∙◌, IfOk, ap, subst}
use Rattle.std.specs.Prelude.{ℤ}
use Rattle.std.proofs.lemmas.Result.{IfOk-weaker, on_err_weaker}
use mir.Val.{of_z}
use mir.Syntax.{w64}
use Rattle.amf_graph.specs.Rooted.{content}
use Rattle.flex_msgs.specs.Asked.{told}
use Rattle.amf_answer_plan.specs.Causes.{not_served}
use Rattle.amf_answer_plan.specs.Commands.{command}
use Rattle.amf_answer_plan.specs.Did.{Stopped}
use Rattle.amf_answer_plan.specs.Says.{Says}
use Rattle.amf_answer_plan.specs.Plan.{Plan}
use Rattle.amf_answer_plan.specs.Replies.{Answer, Context, error}
use Rattle.amf_answer_plan.proofs.Doing.{at_err, not_begun}
use Rattle.amf_flex_replies.proofs.Operations.{operation_is, other_operation}
use Rattle.amf_flex_replies.proofs.command.command.Goals as goal

pub returns-in_err-context-clause-stopped : goal.returns-in_err-context-clause-stopped
returns-in_err-context-clause-stopped g c = at_err c.from_residual.result (not_begun g.O.Outside.handed g.met.O.Outside.hands_none (command (content c.args.graph.now) (told c.args.graph.now.arena c.args.common.now) c.args.operation) c.args.outside.now)

pub returns-then-operation-eq0-clause-says : goal.returns-then-operation-eq0-clause-says
returns-then-operation-eq0-clause-says g c = rw (operation_is c.args.operation 0 c.ranges.operation c.if-operation-eq0.true) c.subscribe.ensures.says

pub returns-then-operation-eq0-clause-stopped : goal.returns-then-operation-eq0-clause-stopped
returns-then-operation-eq0-clause-stopped g c = rw (operation_is c.args.operation 0 c.ranges.operation c.if-operation-eq0.true) c.subscribe.ensures.stopped

pub returns-then-operation-eq1-clause-says : goal.returns-then-operation-eq1-clause-says
returns-then-operation-eq1-clause-says g c = rw (operation_is c.args.operation 1 c.ranges.operation c.if-operation-eq1.true) c.unsubscribe.ensures.says

pub returns-then-operation-eq1-clause-stopped : goal.returns-then-operation-eq1-clause-stopped
returns-then-operation-eq1-clause-stopped g c = rw (operation_is c.args.operation 1 c.ranges.operation c.if-operation-eq1.true) c.unsubscribe.ensures.stopped

pub returns-then-operation-eq2-clause-says : goal.returns-then-operation-eq2-clause-says
returns-then-operation-eq2-clause-says g c = rw (operation_is c.args.operation 2 c.ranges.operation c.if-operation-eq2.true) c.poll.ensures.says

pub returns-then-operation-eq2-clause-stopped : goal.returns-then-operation-eq2-clause-stopped
returns-then-operation-eq2-clause-stopped g c = rw (operation_is c.args.operation 2 c.ranges.operation c.if-operation-eq2.true) c.poll.ensures.stopped

pub returns-then-operation-eq5-clause-says : goal.returns-then-operation-eq5-clause-says
returns-then-operation-eq5-clause-says g c = rw (operation_is c.args.operation 5 c.ranges.operation c.if-operation-eq5.true) c.ping.ensures.says

pub returns-then-operation-eq5-clause-stopped : goal.returns-then-operation-eq5-clause-stopped
returns-then-operation-eq5-clause-stopped g c = rw (operation_is c.args.operation 5 c.ranges.operation c.if-operation-eq5.true) c.ping.ensures.stopped

pub returns-then-operation-eq12-clause-says : goal.returns-then-operation-eq12-clause-says
returns-then-operation-eq12-clause-says g c = rw (operation_is c.args.operation 12 c.ranges.operation c.if-operation-eq12.true) c.disconnect.ensures.says

pub returns-then-operation-eq12-clause-stopped : goal.returns-then-operation-eq12-clause-stopped
returns-then-operation-eq12-clause-stopped g c = rw (operation_is c.args.operation 12 c.ranges.operation c.if-operation-eq12.true) c.disconnect.ensures.stopped

pub returns-clause-says : goal.returns-clause-says
returns-clause-says g c =
    let same = ap (λ (k : Context). error k not_served) c.in_ok-context.ensures.context ∙ other_operation (content c.args.graph.now) (told c.args.graph.now.arena c.args.common.now) c.args.operation (λ h. c.if-operation-eq0.false (ap (λ (z : ℤ). of_z w64 z) h)) (λ h. c.if-operation-eq1.false (ap (λ (z : ℤ). of_z w64 z) h)) (λ h. c.if-operation-eq2.false (ap (λ (z : ℤ). of_z w64 z) h)) (λ h. c.if-operation-eq5.false (ap (λ (z : ℤ). of_z w64 z) h)) (λ h. c.if-operation-eq12.false (ap (λ (z : ℤ). of_z w64 z) h)) in
    IfOk-weaker c.other.result _ _ (λ a h. subst (λ (p : Plan Answer). Says g.O.Outside.handed p c.args.outside.now c.other.new.outside a) same h) c.other.ensures.says

pub returns-clause-stopped : goal.returns-clause-stopped
returns-clause-stopped g c =
    let same = ap (λ (k : Context). error k not_served) c.in_ok-context.ensures.context ∙ other_operation (content c.args.graph.now) (told c.args.graph.now.arena c.args.common.now) c.args.operation (λ h. c.if-operation-eq0.false (ap (λ (z : ℤ). of_z w64 z) h)) (λ h. c.if-operation-eq1.false (ap (λ (z : ℤ). of_z w64 z) h)) (λ h. c.if-operation-eq2.false (ap (λ (z : ℤ). of_z w64 z) h)) (λ h. c.if-operation-eq5.false (ap (λ (z : ℤ). of_z w64 z) h)) (λ h. c.if-operation-eq12.false (ap (λ (z : ℤ). of_z w64 z) h)) in
    on_err_weaker c.other.result (λ h. subst (λ (p : Plan Answer). Stopped g.O.Outside.handed p c.args.outside.now c.other.new.outside) same h) c.other.ensures.stopped
