use Rattle.std.proofs.Common.{◌≡◌, ◌∙◌, ap, ℕ, List, decimal, IfOk, subst}
use Rattle.std.proofs.lemmas.Result.{IfOk-weaker, on_err_weaker}
use Rattle.amf_answer_plan.specs.Did.{Ran, Stopped}
use Rattle.amf_answer_plan.specs.Kept.{context_in}
use Rattle.amf_answer_plan.specs.Replies.{fresh}
use Rattle.amf_answer_plan.proofs.Doing.{at_err, not_begun}
use Rattle.amf_flex_replies.proofs.batches.ending.Goals as goal

pub returns-in_err-client-clause-stopped : goal.returns-in_err-client-clause-stopped
returns-in_err-client-clause-stopped g c = at_err c.from_residual.result (not_begun g.O.Outside.handed g.met.O.Outside.hands_none (fresh (context_in c.args.context.now) (decimal c.args.sub)) c.args.outside.now)

pub returns-clause-ran : goal.returns-clause-ran
returns-clause-ran g c = IfOk-weaker c.fresh.result _ _ (λ r h. subst (λ (x : List ℕ). Ran g.O.Outside.handed (fresh (context_in c.args.context.now) x) c.args.outside.now c.fresh.new.outside r) (c.in_ok-client.ensures.name ∙ ap decimal c.sub.view_is) h) c.fresh.ensures.ran

pub returns-clause-stopped : goal.returns-clause-stopped
returns-clause-stopped g c = on_err_weaker c.fresh.result (λ h. subst (λ (x : List ℕ). Stopped g.O.Outside.handed (fresh (context_in c.args.context.now) x) c.args.outside.now c.fresh.new.outside) (c.in_ok-client.ensures.name ∙ ap decimal c.sub.view_is) h) c.fresh.ensures.stopped
