use Rattle.std.proofs.Common.{◌≡◌, ◌∙◌, [], IfOk, ap, subst}
use Rattle.std.proofs.lemmas.Result.{IfOk-weaker, on_err_weaker}
use Rattle.amf_answer_plan.specs.Commands.{say_batch, acknowledged}
use Rattle.amf_answer_plan.specs.Did.{Stopped}
use Rattle.amf_answer_plan.specs.Says.{Says}
use Rattle.amf_answer_plan.specs.Kept.{context_in}
use Rattle.amf_answer_plan.specs.Plan.{Plan}
use Rattle.amf_answer_plan.specs.Replies.{Answer}
use Rattle.amf_answer_plan.proofs.Doing.{at_err, not_begun}
use Rattle.amf_flex_replies.proofs.Polled.{other_polled}
use Rattle.amf_flex_replies.proofs.polls.say_batch.Goals as goal

pub returns-in_err-empty-clause-stopped : goal.returns-in_err-empty-clause-stopped
returns-in_err-empty-clause-stopped g c = at_err c.from_residual.result (not_begun g.O.Outside.handed g.met.O.Outside.hands_none (say_batch (context_in c.args.context.now) c.args.reply.now) c.args.outside.now)

pub returns-clause-says : goal.returns-clause-says
returns-clause-says g c =
    let k = context_in c.args.context.now in
    let same : acknowledged k [] c.args.reply.now ≡ say_batch k c.args.reply.now = other_polled k c.args.reply.now c.in_default.not-Batch c.in_default.not-Numbered c.in_default.not-Again in
    IfOk-weaker c.acknowledged.result _ _ (λ a h. subst (λ (p : Plan Answer). Says g.O.Outside.handed p c.args.outside.now c.acknowledged.new.outside a) (ap (λ x. acknowledged k x c.args.reply.now) c.in_ok-empty.ensures ∙ same) h) c.acknowledged.ensures.says

pub returns-clause-stopped : goal.returns-clause-stopped
returns-clause-stopped g c =
    let k = context_in c.args.context.now in
    let same : acknowledged k [] c.args.reply.now ≡ say_batch k c.args.reply.now = other_polled k c.args.reply.now c.in_default.not-Batch c.in_default.not-Numbered c.in_default.not-Again in
    on_err_weaker c.acknowledged.result (λ h. subst (λ (p : Plan Answer). Stopped g.O.Outside.handed p c.args.outside.now c.acknowledged.new.outside) (ap (λ x. acknowledged k x c.args.reply.now) c.in_ok-empty.ensures ∙ same) h) c.acknowledged.ensures.stopped
