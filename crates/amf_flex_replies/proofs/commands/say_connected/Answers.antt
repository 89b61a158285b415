use Rattle.std.proofs.Common.{◌≡◌, ◌∙◌, [], decimal, IfOk, ap, subst}
use Rattle.std.proofs.lemmas.Result.{IfOk-weaker, on_err_weaker}
use Rattle.amf_answer_plan.specs.Did.{Stopped}
use Rattle.amf_answer_plan.specs.Says.{Says}
use Rattle.amf_answer_plan.specs.Plan.{Plan}
use Rattle.amf_answer_plan.specs.Replies.{Answer, acknowledge_null, with_client}
use Rattle.amf_answer_plan.specs.Kept.{context_in}
use Rattle.amf_answer_plan.specs.Commands.{say_connected, acknowledged}
use Rattle.amf_answer_plan.proofs.Doing.{at_err, not_begun}
use Rattle.amf_flex_replies.proofs.Saying.{other_connected, said_connected}
use Rattle.amf_flex_replies.proofs.commands.say_connected.Goals as goal

pub returns-in_err-empty-clause-stopped : goal.returns-in_err-empty-clause-stopped
returns-in_err-empty-clause-stopped g c = at_err c.from_residual.result (not_begun g.O.Outside.handed g.met.O.Outside.hands_none (say_connected (context_in c.args.context) c.args.reply.now) c.args.outside.now)

pub returns-in_default-clause-says : goal.returns-in_default-clause-says
returns-in_default-clause-says g c =
    let same : acknowledged (context_in c.args.context) [] c.args.reply.now ≡ say_connected (context_in c.args.context) c.args.reply.now = other_connected (context_in c.args.context) c.args.reply.now c.in_default.not-Client in
    IfOk-weaker c.acknowledged.result _ _ (λ a h. subst (λ (p : Plan Answer). Says g.O.Outside.handed p c.args.outside.now c.acknowledged.new.outside a) (ap (λ x. acknowledged (context_in c.args.context) x c.args.reply.now) c.in_ok-empty.ensures ∙ same) h) c.acknowledged.ensures.says

pub returns-in_default-clause-stopped : goal.returns-in_default-clause-stopped
returns-in_default-clause-stopped g c =
    let same : acknowledged (context_in c.args.context) [] c.args.reply.now ≡ say_connected (context_in c.args.context) c.args.reply.now = other_connected (context_in c.args.context) c.args.reply.now c.in_default.not-Client in
    on_err_weaker c.acknowledged.result (λ h. subst (λ (p : Plan Answer). Stopped g.O.Outside.handed p c.args.outside.now c.acknowledged.new.outside) (ap (λ x. acknowledged (context_in c.args.context) x c.args.reply.now) c.in_ok-empty.ensures ∙ same) h) c.acknowledged.ensures.stopped

pub returns-in_err-numeral-in-Client-clause-stopped : goal.returns-in_err-numeral-in-Client-clause-stopped
returns-in_err-numeral-in-Client-clause-stopped g c = at_err c.from_residual-in_err-numeral-in-Client.result (not_begun g.O.Outside.handed g.met.O.Outside.hands_none (say_connected (context_in c.args.context) c.args.reply.now) c.args.outside.now)

pub returns-in_ok-numeral-in-Client-clause-says : goal.returns-in_ok-numeral-in-Client-clause-says
returns-in_ok-numeral-in-Client-clause-says g c =
    let view = c.id.view_is in
    let id : c.id.inside.0 ≡ c.in-Client.id = cc in
    let same = said_connected (context_in c.args.context) (context_in c.with_client-context.result) c.args.reply.now _ c.in_ok-numeral-in-Client.field-0 c.in_ok-empty.empty c.in-Client.is c.with_client-context.ensures (c.in_ok-numeral-in-Client.ensures.name ∙ ap decimal id) c.in_ok-empty.ensures in
    IfOk-weaker c.acknowledge_null.result _ _ (λ a h. subst (λ (p : Plan Answer). Says g.O.Outside.handed p c.args.outside.now c.acknowledge_null.new.outside a) same h) c.acknowledge_null.ensures.says

pub returns-in_ok-numeral-in-Client-clause-stopped : goal.returns-in_ok-numeral-in-Client-clause-stopped
returns-in_ok-numeral-in-Client-clause-stopped g c =
    let view = c.id.view_is in
    let id : c.id.inside.0 ≡ c.in-Client.id = cc in
    let same = said_connected (context_in c.args.context) (context_in c.with_client-context.result) c.args.reply.now _ c.in_ok-numeral-in-Client.field-0 c.in_ok-empty.empty c.in-Client.is c.with_client-context.ensures (c.in_ok-numeral-in-Client.ensures.name ∙ ap decimal id) c.in_ok-empty.ensures in
    on_err_weaker c.acknowledge_null.result (λ h. subst (λ (p : Plan Answer). Stopped g.O.Outside.handed p c.args.outside.now c.acknowledge_null.new.outside) same h) c.acknowledge_null.ensures.stopped
