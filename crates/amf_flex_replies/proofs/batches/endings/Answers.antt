use Rattle.std.proofs.Common.{◌≡◌, List, [], ◌∷◌, length, map, sym, ap, subst, arith, length-append}
use Rattle.std.specs.List.{AllByRecursion}
use Rattle.amf_graph.proofs.Alls.{all_push}
use Rattle.flex_msgs.specs.declared.reply.Reply.{Reply}
use Rattle.flex_msgs.specs.Answers.{invalidate_graph}
use Rattle.flex_msgs.specs.Built.{IsReply, IsShortReply}
use Rattle.amf_answer_plan.specs.Batches.{invalidates}
use Rattle.amf_answer_plan.specs.Kept.{context_in}
use Rattle.amf_answer_plan.proofs.Doing.{at_err, not_begun}
use Rattle.amf_flex_replies.proofs.Ending.{Ahead, ahead_none, loop_end, loop_more, loop_stopped, loop_between}
use Rattle.amf_flex_replies.proofs.batches.endings.Goals as goal

pub returns-in_err-about-clause-stopped : goal.returns-in_err-about-clause-stopped
returns-in_err-about-clause-stopped g c = at_err c.from_residual.result (not_begun g.O.Outside.handed g.met.O.Outside.hands_none (invalidates (context_in c.args.context.now) c.args.ended.now) c.args.outside.now)

pub loop-sub-init : goal.loop-sub-init
loop-sub-init g c =
    let e = c.new-replies.ensures.items in
    let p = invalidates (context_in c.args.context.now) c.args.ended.now in
    record {
      ahead = subst (λ (rs : List Reply). Ahead g.O.Outside.handed p p c.args.outside.now c.args.outside.now (map invalidate_graph rs)) (sym e) (ahead_none g.O.Outside.handed p c.args.outside.now);
      texts = subst (AllByRecursion IsReply) (sym e) tt;
      short = subst (AllByRecursion IsShortReply) (sym e) tt;
      count = ap length e;
    }

pub loop-sub-preserved : goal.loop-sub-preserved
loop-sub-preserved g c =
    let l = c.loop-sub in
    let rs = l.replies.items in
    let r = c.in_ok-reply.reply in
    let h = c.in_ok-reply.ensures in
    let e = c.in_ok-push.ensures.items in
    record {
      ahead = loop_more g.O.Outside.handed g.met.O.Outside.hands_none g.met.O.Outside.hands_both (context_in c.args.context.now) c.args.ended.now l.sub-index c.args.outside.now l.outside rs l.invariant.ahead (context_in c.in_ok-about.about) c.in_ok-about.ensures.context c.loop-sub-test.true c.sub-item.result c.sub-item.is c.ending.new.outside r _ h.ran e;
      texts = subst (AllByRecursion IsReply) (sym e) (all_push IsReply rs r l.invariant.texts h.texts);
      short = subst (AllByRecursion IsShortReply) (sym e) (all_push IsShortReply rs r l.invariant.short h.short);
      count = omega (arith, ap length e, length-append rs (r ∷ []), l.invariant.count);
    }

pub returns-in_err-reply-clause-stopped : goal.returns-in_err-reply-clause-stopped
returns-in_err-reply-clause-stopped g c =
    let l = c.loop-sub in
    at_err c.from_residual-in_err-reply.result (loop_stopped g.O.Outside.handed g.met.O.Outside.hands_none g.met.O.Outside.hands_both (context_in c.args.context.now) c.args.ended.now l.sub-index c.args.outside.now l.outside l.replies.items l.invariant.ahead (context_in c.in_ok-about.about) c.in_ok-about.ensures.context c.loop-sub-test.true c.sub-item.result c.sub-item.is c.ending.new.outside c.in_err-reply.ensures.stopped)

pub returns-in_err-push-clause-stopped : goal.returns-in_err-push-clause-stopped
returns-in_err-push-clause-stopped g c =
    let l = c.loop-sub in
    at_err c.from_residual-in_err-push.result (loop_between g.O.Outside.handed g.met.O.Outside.hands_none g.met.O.Outside.hands_both (context_in c.args.context.now) c.args.ended.now l.sub-index c.args.outside.now l.outside l.replies.items l.invariant.ahead (context_in c.in_ok-about.about) c.in_ok-about.ensures.context c.loop-sub-test.true c.sub-item.result c.sub-item.is c.ending.new.outside c.in_ok-reply.reply c.in_ok-reply.ensures.ran)

pub returns-clause-ran : goal.returns-clause-ran
returns-clause-ran g c =
    let l = c.loop-sub in
    loop_end g.O.Outside.handed g.met.O.Outside.hands_none g.met.O.Outside.hands_both (context_in c.args.context.now) c.args.ended.now l.sub-index c.args.outside.now l.outside l.replies.items l.invariant.ahead c.loop-sub-test.false
