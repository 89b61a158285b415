use Rattle.std.proofs.Common.{◌≡◌, IfOk}
use Rattle.std.proofs.lemmas.Result.{IfOk-weaker}
use Rattle.amf_answer_plan.specs.Kept.{context_in}
use Rattle.amf_answer_plan.specs.Replies.{error}
use Rattle.amf_answer_plan.proofs.Doing.{at_err, not_begun}
use Rattle.amf_flex_replies.proofs.Erring.{error_says, error_unmade, error_unsaid}
use Rattle.amf_flex_replies.proofs.replies.error.Goals as goal

pub returns-in_err-empty-clause-stopped : goal.returns-in_err-empty-clause-stopped
returns-in_err-empty-clause-stopped g c = at_err c.from_residual.result (not_begun g.O.Outside.handed g.met.O.Outside.hands_none (error (context_in c.args.context.now) c.args.fault.now) c.args.outside.now)

pub returns-clause-says : goal.returns-clause-says
returns-clause-says g c =
    IfOk-weaker c.failed.result _ _ (λ x a. error_says g.O.Outside.handed g.met.O.Outside.hands_none g.met.O.Outside.hands_both (context_in c.args.context.now) c.args.fault.now c.in_ok-empty.empty _ _ c.in_ok-reply.reply x c.in_ok-empty.ensures c.in_ok-reply.ensures.ran a) c.failed.ensures

pub returns-in_err-reply-clause-stopped : goal.returns-in_err-reply-clause-stopped
returns-in_err-reply-clause-stopped g c =
    at_err c.from_residual-in_err-reply.result (error_unmade g.O.Outside.handed (context_in c.args.context.now) c.args.fault.now c.in_ok-empty.empty c.args.outside.now c.fresh.new.outside c.in_ok-empty.ensures c.in_err-reply.ensures.stopped)

pub returns-clause-stopped : goal.returns-clause-stopped
returns-clause-stopped g c =
    at_err c.failed.result (error_unsaid g.O.Outside.handed g.met.O.Outside.hands_none g.met.O.Outside.hands_both (context_in c.args.context.now) c.args.fault.now c.in_ok-empty.empty c.args.outside.now c.fresh.new.outside c.in_ok-reply.reply c.in_ok-empty.ensures c.in_ok-reply.ensures.ran)
