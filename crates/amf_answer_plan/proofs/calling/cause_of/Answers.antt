-- Each end has its cause.
use Rattle.std.proofs.Common.{◌≡◌, ◌∙◌, Some, Err, IfOk, sym, ap, subst}
use Rattle.std.proofs.lemmas.Result.{IfOk-weaker}
use Rattle.amf_service.specs.declared.registry.CallEnd.{CallEnd}
use Rattle.amf_service.specs.Meaning.{Called}
use Rattle.amf_service.specs.Registry.{AnswersCall}
use Rattle.amf_answer_plan.specs.Calls.{cause_of}
use Rattle.amf_answer_plan.proofs.calling.cause_of.Goals as goal

ended : (d : Called) (e f : CallEnd) → e ≡ f → AnswersCall d (Err e) → AnswersCall d (Err f)
ended d e f same a = subst (λ z. AnswersCall d (Err z)) same a

pub returns-in-NoService-clause-comes : goal.returns-in-NoService-clause-comes
returns-in-NoService-clause-comes c = IfOk-weaker c.no_service.result _ _ (λ f e (d : Called) a. ap cause_of (ended d _ _ c.in-NoService.is a) ∙ ap Some (sym e)) c.no_service.ensures.cause

pub returns-in-NoOperation-clause-comes : goal.returns-in-NoOperation-clause-comes
returns-in-NoOperation-clause-comes c = IfOk-weaker c.no_operation.result _ _ (λ f e (d : Called) a. ap cause_of (ended d _ _ c.in-NoOperation.is a) ∙ ap Some (sym e)) c.no_operation.ensures.cause

pub returns-in-Fault-clause-comes : goal.returns-in-Fault-clause-comes
returns-in-Fault-clause-comes c = IfOk-weaker c.service_fault.result _ _ (λ f e (d : Called) a. ap cause_of (ended d _ _ c.in-Fault.is a).0 ∙ ap Some (sym e)) c.service_fault.ensures.cause

pub returns-in-Fault-clause-fits : goal.returns-in-Fault-clause-fits
returns-in-Fault-clause-fits c = IfOk-weaker c.service_fault.result _ _ (λ f h (d : Called) a. h (ended d _ _ c.in-Fault.is a).1) c.service_fault.ensures.fits
