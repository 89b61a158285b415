use Rattle.std.proofs.Common.{◌≡◌, ℕ, List, map, IfOk, subst}
use Rattle.std.proofs.lemmas.Result.{IfOk-weaker}
use Rattle.flex_msgs.specs.declared.reply.Reply.{Reply}
use Rattle.flex_msgs.specs.Answers.{invalidate_graph}
use Rattle.amf_answer_plan.specs.Batches.{sync}
use Rattle.amf_flex_replies.specs.Batching.{say_sync}
use Rattle.amf_answer_plan.specs.Did.{Ran, Stopped}
use Rattle.amf_answer_plan.specs.Says.{Tells}
use Rattle.amf_answer_plan.specs.Kept.{context_in}
use Rattle.amf_answer_plan.specs.Replies.{fresh}
use Rattle.amf_answer_plan.proofs.Doing.{at_err, not_begun}
use Rattle.amf_flex_replies.proofs.Ending.{sync_first, sync_stopped, sync_between, sync_says}
use Rattle.amf_flex_replies.proofs.batches.sync.Goals as goal

pub returns-in_err-empty-clause-stopped : goal.returns-in_err-empty-clause-stopped
returns-in_err-empty-clause-stopped g c = at_err c.from_residual.result (not_begun g.O.Outside.handed g.met.O.Outside.hands_none (sync (context_in c.args.context.now) c.args.deliveries.now c.args.ended.now) c.args.outside.now)

pub returns-in_err-reply-clause-stopped : goal.returns-in_err-reply-clause-stopped
returns-in_err-reply-clause-stopped g c =
    let k = context_in c.args.context.now in
    at_err c.from_residual-in_err-reply.result (sync_first g.O.Outside.handed g.met.O.Outside.hands_none g.met.O.Outside.hands_both k c.args.deliveries.now c.args.ended.now c.args.outside.now c.fresh.new.outside (subst (λ (x : List ℕ). Stopped g.O.Outside.handed (fresh k x) c.args.outside.now c.fresh.new.outside) c.in_ok-empty.ensures c.in_err-reply.ensures.stopped))

pub returns-in_err-endings-clause-stopped : goal.returns-in_err-endings-clause-stopped
returns-in_err-endings-clause-stopped g c =
    let k = context_in c.args.context.now in
    let r = c.in_ok-reply.reply in
    let ran = subst (λ (x : List ℕ). Ran g.O.Outside.handed (fresh k x) c.args.outside.now c.fresh.new.outside r) c.in_ok-empty.ensures c.in_ok-reply.ensures.ran in
    at_err c.from_residual-in_err-endings.result (sync_stopped g.O.Outside.handed g.met.O.Outside.hands_none g.met.O.Outside.hands_both k c.args.deliveries.now c.args.ended.now c.args.outside.now c.fresh.new.outside r ran c.endings.new.outside c.in_err-endings.ensures.stopped)

pub returns-clause-says : goal.returns-clause-says
returns-clause-says g c =
    let k = context_in c.args.context.now in
    let r = c.in_ok-reply.reply in
    let ds = c.args.deliveries.now in
    let ran = subst (λ (x : List ℕ). Ran g.O.Outside.handed (fresh k x) c.args.outside.now c.fresh.new.outside r) c.in_ok-empty.ensures c.in_ok-reply.ensures.ran in
    IfOk-weaker c.synced.result _ _ (λ a told. sync_says g.O.Outside.handed g.met.O.Outside.hands_none g.met.O.Outside.hands_both k ds c.args.ended.now c.args.outside.now c.fresh.new.outside r ran c.endings.new.outside (map invalidate_graph c.in_ok-endings.endings.items) a c.in_ok-endings.ensures.ran
    (subst (λ (rs : List Reply). Tells (say_sync r ds (map invalidate_graph rs)) a) c.deref.ensures.value told)) c.synced.ensures

pub returns-clause-stopped : goal.returns-clause-stopped
returns-clause-stopped g c =
    let k = context_in c.args.context.now in
    let r = c.in_ok-reply.reply in
    let ran = subst (λ (x : List ℕ). Ran g.O.Outside.handed (fresh k x) c.args.outside.now c.fresh.new.outside r) c.in_ok-empty.ensures c.in_ok-reply.ensures.ran in
    at_err c.synced.result (sync_between g.O.Outside.handed g.met.O.Outside.hands_none g.met.O.Outside.hands_both k c.args.deliveries.now c.args.ended.now c.args.outside.now c.fresh.new.outside r ran c.endings.new.outside (map invalidate_graph c.in_ok-endings.endings.items) c.in_ok-endings.ensures.ran)
