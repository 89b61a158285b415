use Rattle.std.proofs.Common.{subst}
use Rattle.std.proofs.lemmas.Result.{IfOk-weaker}
use Rattle.amf_service.specs.Meaning.{Called}
use Rattle.amf_answer_plan.specs.declared.calling.ServiceAnswer.{ServiceAnswer}
use Rattle.amf_answer_plan.specs.Calls.{AnswerFits, ComesTo}
use Rattle.amf_plain_calls.proofs.Plain.{told_fault, told_result}
use Rattle.amf_plain_calls.proofs.plain_call.outcome.Goals as goal

pub returns-in-Gave : goal.returns-in-Gave
returns-in-Gave c = IfOk-weaker c.succeeded.result _ _ (λ x h (d : Called) k. let r = subst (λ (z : ServiceAnswer). ComesTo d z) c.in-Gave.is k in told_result c.args.form d r.0 x r.1 (h r.0 r.2)) c.succeeded.ensures

pub returns-in-Failed : goal.returns-in-Failed
returns-in-Failed c = IfOk-weaker c.failed.result _ _ (λ x h (d : Called) k. told_fault c.args.form d c.in-Failed.fault x (subst (λ (z : ServiceAnswer). ComesTo d z) c.in-Failed.is k) h) c.failed.ensures

pub failed-requires : goal.failed-requires
failed-requires c = subst (λ (z : ServiceAnswer). AnswerFits z) c.in-Failed.is c.requires
