use Rattle.std.proofs.Common.{◌∙◌, sym, subst}
use Rattle.std.proofs.lemmas.Result.{IfOk-weaker}
use Rattle.amf0_spelling.specs.declared.form.Form.{Form}
use Rattle.amf_packet.specs.Content.{body_of}
use Rattle.flex_msgs.specs.declared.reply.FaultText.{FaultText}
use Rattle.amf_answer_plan.specs.Says.{AnswersMessage}
use Rattle.amf_answer_plan.specs.PlainCalls.{failed as failed_answer}
use Rattle.amf_plain_calls.proofs.Plain.{with_target, without_target}
use Rattle.amf_plain_calls.proofs.plain_call.plain_call.Goals as goal

pub returns-in-Some : goal.returns-in-Some
returns-in-Some g c = IfOk-weaker c.call_with_body.result _ _ (λ y h. with_target _ (body_of c.args.body.now) _ c.in-Some.target y (sym c.in_ok-target.ensures ∙ c.in-Some.is) h) c.call_with_body.ensures

pub returns-in_ok-fault-in-None : goal.returns-in_ok-fault-in-None
returns-in_ok-fault-in-None g c =
    IfOk-weaker c.failed.result _ _ (λ y h. without_target _ (body_of c.args.body.now) _ y (sym c.in_ok-target.ensures ∙ c.in-None.is)
    (subst (λ (z : FaultText). AnswersMessage y (failed_answer (body_of c.args.body.now).form z)) c.in_ok-fault-in-None.ensures.cause (subst (λ (z : Form). AnswersMessage y (failed_answer z c.in_ok-fault-in-None.fault)) c.form.ensures h))) c.failed.ensures
