use Rattle.std.proofs.Common.{◌≡◌, IfOk, subst}
use Rattle.std.proofs.lemmas.Result.{IfOk-weaker, on_err_weaker}
use Rattle.amf_answer_plan.specs.Commands.{ping}
use Rattle.amf_answer_plan.specs.Did.{Stopped}
use Rattle.amf_answer_plan.specs.Says.{Says}
use Rattle.amf_answer_plan.specs.Kept.{context_in, names_told}
use Rattle.amf_answer_plan.specs.Plan.{Plan}
use Rattle.amf_answer_plan.specs.Replies.{Answer}
use Rattle.amf_answer_plan.proofs.Doing.{at_err, not_begun}
use Rattle.amf_flex_replies.proofs.Saying.{ping_new, ping_old}
use Rattle.amf_flex_replies.proofs.commands.ping.Goals as goal

pub returns-in_err-empty-clause-stopped : goal.returns-in_err-empty-clause-stopped
returns-in_err-empty-clause-stopped g c = at_err c.from_residual.result (not_begun g.O.Outside.handed g.met.O.Outside.hands_none (ping (names_told c.args.common.now)) c.args.outside.now)

pub returns-then-is_new-clause-says : goal.returns-then-is_new-clause-says
returns-then-is_new-clause-says g c =
    let same = ping_new (names_told c.args.common.now) (context_in c.args.context) c.requires.context (rw c.is_new.ensures at c.if-is_new.true) in
    IfOk-weaker c.connect.result _ _ (λ a h. subst (λ (p : Plan Answer). Says g.O.Outside.handed p c.args.outside.now c.connect.new.outside a) same h) c.connect.ensures.says

pub returns-then-is_new-clause-stopped : goal.returns-then-is_new-clause-stopped
returns-then-is_new-clause-stopped g c =
    let same = ping_new (names_told c.args.common.now) (context_in c.args.context) c.requires.context (rw c.is_new.ensures at c.if-is_new.true) in
    on_err_weaker c.connect.result (λ h. subst (λ (p : Plan Answer). Stopped g.O.Outside.handed p c.args.outside.now c.connect.new.outside) same h) c.connect.ensures.stopped

pub returns-in_err-acknowledge_null-clause-stopped : goal.returns-in_err-acknowledge_null-clause-stopped
returns-in_err-acknowledge_null-clause-stopped g c =
    let same = ping_old (names_told c.args.common.now) (context_in c.args.context) c.in_ok-empty.empty c.requires.context c.in_ok-empty.ensures (rw c.is_new.ensures at c.if-is_new.false) in
    at_err c.from_residual-in_err-acknowledge_null.result (subst (λ (p : Plan Answer). Stopped g.O.Outside.handed p c.args.outside.now c.acknowledge_null.new.outside) same c.in_err-acknowledge_null.ensures.stopped)

pub returns-clause-says : goal.returns-clause-says
returns-clause-says g c =
    let same = ping_old (names_told c.args.common.now) (context_in c.args.context) c.in_ok-empty.empty c.requires.context c.in_ok-empty.ensures (rw c.is_new.ensures at c.if-is_new.false) in
    subst (λ (p : Plan Answer). Says g.O.Outside.handed p c.args.outside.now c.acknowledge_null.new.outside c.in_ok-acknowledge_null.field-0) same c.in_ok-acknowledge_null.ensures.says
