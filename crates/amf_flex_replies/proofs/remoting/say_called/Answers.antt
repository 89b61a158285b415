use Rattle.std.proofs.Common.{◌≡◌, IfOk, subst}
use Rattle.std.proofs.lemmas.Result.{IfOk-weaker, on_err_weaker}
use Rattle.amf_service.specs.Meaning.{Called}
use Rattle.amf_answer_plan.specs.declared.calling.ServiceAnswer.{ServiceAnswer}
use Rattle.amf_answer_plan.specs.Calls.{AnswerFits}
use Rattle.amf_answer_plan.specs.Kept.{context_in}
use Rattle.amf_flex_replies.proofs.Remote.{said_result, stopped_result, said_cause, stopped_cause}
use Rattle.amf_flex_replies.proofs.remoting.say_called.Goals as goal

pub acknowledge-requires-clause-light : goal.acknowledge-requires-clause-light
acknowledge-requires-clause-light g c = subst (λ (z : ServiceAnswer). AnswerFits z) c.in-Gave.is c.requires.answer

pub error-requires-clause-fault : goal.error-requires-clause-fault
error-requires-clause-fault g c = subst (λ (z : ServiceAnswer). AnswerFits z) c.in-Failed.is c.requires.answer

pub returns-in-Gave-clause-says : goal.returns-in-Gave-clause-says
returns-in-Gave-clause-says g c = IfOk-weaker c.acknowledge.result _ _ (λ a h (d : Called) k. said_result g.O.Outside.handed (context_in c.args.context.now) d _ c.args.outside.now c.acknowledge.new.outside a c.in-Gave.graph c.in-Gave.is k h) c.acknowledge.ensures.says

pub returns-in-Gave-clause-stopped : goal.returns-in-Gave-clause-stopped
returns-in-Gave-clause-stopped g c = on_err_weaker c.acknowledge.result (λ h (d : Called) k. stopped_result g.O.Outside.handed (context_in c.args.context.now) d _ c.args.outside.now c.acknowledge.new.outside c.in-Gave.graph c.in-Gave.is k h) c.acknowledge.ensures.stopped

pub returns-in-Failed-clause-says : goal.returns-in-Failed-clause-says
returns-in-Failed-clause-says g c = IfOk-weaker c.error.result _ _ (λ a h (d : Called) k. said_cause g.O.Outside.handed (context_in c.args.context.now) d _ c.args.outside.now c.error.new.outside a c.in-Failed.fault c.in-Failed.is k h) c.error.ensures.says

pub returns-in-Failed-clause-stopped : goal.returns-in-Failed-clause-stopped
returns-in-Failed-clause-stopped g c = on_err_weaker c.error.result (λ h (d : Called) k. stopped_cause g.O.Outside.handed (context_in c.args.context.now) d _ c.args.outside.now c.error.new.outside c.in-Failed.fault c.in-Failed.is k h) c.error.ensures.stopped
