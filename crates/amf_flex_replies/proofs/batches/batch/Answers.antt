use Rattle.std.proofs.Common.{◌≡◌, ◌∙◌, ℕ, List, IfOk, subst, sym}
use Rattle.std.proofs.lemmas.Result.{IfOk-weaker, on_err_weaker}
use Rattle.amf_broker.specs.declared.reply.Delivery.{Delivery}
use Rattle.amf_answer_plan.specs.Batches.{batch, sync}
use Rattle.amf_answer_plan.specs.Says.{Says}
use Rattle.amf_answer_plan.specs.Did.{Stopped}
use Rattle.amf_answer_plan.specs.Kept.{context_in}
use Rattle.amf_answer_plan.specs.Plan.{Plan}
use Rattle.amf_answer_plan.specs.Replies.{Answer, acknowledge_null}
use Rattle.amf_answer_plan.specs.Small.{IsSmallBatch}
use Rattle.amf_answer_plan.proofs.Doing.{at_err, not_begun}
use Rattle.amf_flex_replies.proofs.Ending.{none_batch, sync_batch}
use Rattle.amf_flex_replies.proofs.batches.batch.Goals as goal

pub returns-in_err-empty-clause-stopped : goal.returns-in_err-empty-clause-stopped
returns-in_err-empty-clause-stopped g c = at_err c.from_residual.result (not_begun g.O.Outside.handed g.met.O.Outside.hands_none (batch (context_in c.args.context.now) c.args.deliveries.now c.args.ended.now) c.args.outside.now)

pub returns-then-is_nothing-clause-says : goal.returns-then-is_nothing-clause-says
returns-then-is_nothing-clause-says g c =
    let k = context_in c.args.context.now in
    let both = c.is_nothing.ensures.empty c.if-is_nothing.true in
    let same : acknowledge_null k c.in_ok-empty.empty ≡ batch k c.args.deliveries.now c.args.ended.now = none_batch k c.in_ok-empty.empty c.args.deliveries.now c.args.ended.now c.in_ok-empty.ensures (sym c.as_slice-messages.ensures ∙ both.0) (sym c.as_slice-subs.ensures ∙ both.1) in
    IfOk-weaker c.acknowledge_null.result _ _ (λ a h. subst (λ (p : Plan Answer). Says g.O.Outside.handed p c.args.outside.now c.acknowledge_null.new.outside a) same h) c.acknowledge_null.ensures.says

pub returns-then-is_nothing-clause-stopped : goal.returns-then-is_nothing-clause-stopped
returns-then-is_nothing-clause-stopped g c =
    let k = context_in c.args.context.now in
    let both = c.is_nothing.ensures.empty c.if-is_nothing.true in
    let same : acknowledge_null k c.in_ok-empty.empty ≡ batch k c.args.deliveries.now c.args.ended.now = none_batch k c.in_ok-empty.empty c.args.deliveries.now c.args.ended.now c.in_ok-empty.ensures (sym c.as_slice-messages.ensures ∙ both.0) (sym c.as_slice-subs.ensures ∙ both.1) in
    on_err_weaker c.acknowledge_null.result (λ h. subst (λ (p : Plan Answer). Stopped g.O.Outside.handed p c.args.outside.now c.acknowledge_null.new.outside) same h) c.acknowledge_null.ensures.stopped

pub sync-requires-clause-small : goal.sync-requires-clause-small
sync-requires-clause-small g c = subst (λ (ds : List Delivery). IsSmallBatch ds c.as_slice-subs.result.now) (sym c.as_slice-messages.ensures) (subst (λ (ends : List ℕ). IsSmallBatch c.args.deliveries.now ends) (sym c.as_slice-subs.ensures) c.requires.small)

pub returns-clause-says : goal.returns-clause-says
returns-clause-says g c =
    let k = context_in c.args.context.now in
    let same : sync k c.as_slice-messages.result.now c.as_slice-subs.result.now ≡ batch k c.args.deliveries.now c.args.ended.now = sync_batch k c.as_slice-messages.result.now c.args.deliveries.now c.as_slice-subs.result.now c.args.ended.now c.as_slice-messages.ensures c.as_slice-subs.ensures (c.is_nothing.ensures.some c.if-is_nothing.false) in
    IfOk-weaker c.sync.result _ _ (λ a h. subst (λ (p : Plan Answer). Says g.O.Outside.handed p c.args.outside.now c.sync.new.outside a) same h) c.sync.ensures.says

pub returns-clause-stopped : goal.returns-clause-stopped
returns-clause-stopped g c =
    let k = context_in c.args.context.now in
    let same : sync k c.as_slice-messages.result.now c.as_slice-subs.result.now ≡ batch k c.args.deliveries.now c.args.ended.now = sync_batch k c.as_slice-messages.result.now c.args.deliveries.now c.as_slice-subs.result.now c.args.ended.now c.as_slice-messages.ensures c.as_slice-subs.ensures (c.is_nothing.ensures.some c.if-is_nothing.false) in
    on_err_weaker c.sync.result (λ h. subst (λ (p : Plan Answer). Stopped g.O.Outside.handed p c.args.outside.now c.sync.new.outside) same h) c.sync.ensures.stopped
