use Rattle.std.proofs.Common.{sym, subst}
use Rattle.std.proofs.lemmas.Result.{IfOk-weaker}
use Rattle.amf_graph.specs.Rooted.{content}
use Rattle.amf_graph.proofs.Finished.{finished}
use Rattle.amf_graph.proofs.OrderExists.{isomorphic_refl}
use Rattle.flex_msgs.specs.declared.reply.FaultText.{FaultText}
use Rattle.amf_answer_plan.specs.Says.{AnswersMessage}
use Rattle.amf_answer_plan.specs.PlainCalls.{failed as failed_answer}
use Rattle.amf_plain_calls.proofs.Plain.{with_items, without_items}
use Rattle.amf_plain_calls.proofs.plain_call.call_with_items.Goals as goal

pub returns-in-Some : goal.returns-in-Some
returns-in-Some g c =
    let x = c.args.graph.now in
    let whole = finished x.arena x.root c.is_finished.ensures.finished c.is_finished.ensures.names in
    IfOk-weaker c.call.result _ _ (λ y h. with_items _ c.args.form c.args.target.now (content x) _ _ y (sym c.in-Some.ensures.items) (h (content x) whole (isomorphic_refl (content x) whole.there))) c.call.ensures

pub returns-in_ok-fault-in-None : goal.returns-in_ok-fault-in-None
returns-in_ok-fault-in-None g c =
    IfOk-weaker c.failed.result _ _ (λ y h. without_items _ c.args.form c.args.target.now (content c.args.graph.now) _ y (sym c.in-None.ensures.items)
    (subst (λ (z : FaultText). AnswersMessage y (failed_answer c.args.form z)) c.in_ok-fault-in-None.ensures.cause h)) c.failed.ensures
