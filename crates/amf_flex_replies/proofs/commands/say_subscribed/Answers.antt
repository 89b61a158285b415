use Rattle.std.proofs.Common.{◌≡◌, ◌∙◌, [], decimal, IfOk, ap, subst}
use Rattle.std.proofs.lemmas.Result.{IfOk-weaker, on_err_weaker}
use Rattle.amf_answer_plan.specs.Did.{Stopped}
use Rattle.amf_answer_plan.specs.Says.{Says}
use Rattle.amf_answer_plan.specs.Plan.{Plan}
use Rattle.amf_answer_plan.specs.Replies.{Answer, acknowledge_null}
use Rattle.amf_answer_plan.specs.Kept.{context_in}
use Rattle.amf_answer_plan.specs.Commands.{say_subscribed, acknowledged}
use Rattle.amf_answer_plan.proofs.Doing.{at_err, not_begun}
use Rattle.amf_flex_replies.proofs.Saying.{other_subscribed, said_subscribed}
use Rattle.amf_flex_replies.proofs.commands.say_subscribed.Goals as goal

pub returns-in_err-empty-clause-stopped : goal.returns-in_err-empty-clause-stopped
returns-in_err-empty-clause-stopped g c = at_err c.from_residual.result (not_begun g.O.Outside.handed g.met.O.Outside.hands_none (say_subscribed (context_in c.args.context.now) c.args.reply.now) c.args.outside.now)

pub returns-in_err-client-in-Subscribed-clause-stopped : goal.returns-in_err-client-in-Subscribed-clause-stopped
returns-in_err-client-in-Subscribed-clause-stopped g c = at_err c.from_residual-in_err-client-in-Subscribed.result (not_begun g.O.Outside.handed g.met.O.Outside.hands_none (say_subscribed (context_in c.args.context.now) c.args.reply.now) c.args.outside.now)

pub returns-clause-says : goal.returns-clause-says
returns-clause-says g c =
    let same : acknowledged (context_in c.args.context.now) [] c.args.reply.now ≡ say_subscribed (context_in c.args.context.now) c.args.reply.now = other_subscribed (context_in c.args.context.now) c.args.reply.now c.in_default.not-Subscribed in
    IfOk-weaker c.acknowledged.result _ _ (λ a h. subst (λ (p : Plan Answer). Says g.O.Outside.handed p c.args.outside.now c.acknowledged.new.outside a) (ap (λ x. acknowledged (context_in c.args.context.now) x c.args.reply.now) c.in_ok-empty.ensures ∙ same) h) c.acknowledged.ensures.says

pub returns-clause-stopped : goal.returns-clause-stopped
returns-clause-stopped g c =
    let same : acknowledged (context_in c.args.context.now) [] c.args.reply.now ≡ say_subscribed (context_in c.args.context.now) c.args.reply.now = other_subscribed (context_in c.args.context.now) c.args.reply.now c.in_default.not-Subscribed in
    on_err_weaker c.acknowledged.result (λ h. subst (λ (p : Plan Answer). Stopped g.O.Outside.handed p c.args.outside.now c.acknowledged.new.outside) (ap (λ x. acknowledged (context_in c.args.context.now) x c.args.reply.now) c.in_ok-empty.ensures ∙ same) h) c.acknowledged.ensures.stopped

pub returns-in-Subscribed-clause-says : goal.returns-in-Subscribed-clause-says
returns-in-Subscribed-clause-says g c =
    let view = c.id.view_is in
    let id : c.id.inside.0 ≡ c.in-Subscribed.id = cc in
    let same = said_subscribed (context_in c.args.context.now) c.args.reply.now _ _ c.in-Subscribed.is (c.in_ok-client-in-Subscribed.ensures.name ∙ ap decimal id) in
    IfOk-weaker c.acknowledge_null.result _ _ (λ a h. subst (λ (p : Plan Answer). Says g.O.Outside.handed p c.args.outside.now c.acknowledge_null.new.outside a) same h) c.acknowledge_null.ensures.says

pub returns-in-Subscribed-clause-stopped : goal.returns-in-Subscribed-clause-stopped
returns-in-Subscribed-clause-stopped g c =
    let view = c.id.view_is in
    let id : c.id.inside.0 ≡ c.in-Subscribed.id = cc in
    let same = said_subscribed (context_in c.args.context.now) c.args.reply.now _ _ c.in-Subscribed.is (c.in_ok-client-in-Subscribed.ensures.name ∙ ap decimal id) in
    on_err_weaker c.acknowledge_null.result (λ h. subst (λ (p : Plan Answer). Stopped g.O.Outside.handed p c.args.outside.now c.acknowledge_null.new.outside) same h) c.acknowledge_null.ensures.stopped
