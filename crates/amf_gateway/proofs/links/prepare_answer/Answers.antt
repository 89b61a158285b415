use Rattle.amf_gateway.proofs.Stepped.{counts_request}
use Rattle.amf_gateway.proofs.ReadNext.{request_comes, closed_comes, refused_comes, truncated_comes, memory_comes, fault_comes}
use Rattle.amf_gateway.proofs.links.prepare_answer.Goals as goal

pub returns-in-Ok-None-clause-comes : goal.returns-in-Ok-None-clause-comes
returns-in-Ok-None-clause-comes g c = closed_comes _ _ _ _ g.met.O.Outside.hands_none _ _ _ _ (rw c.in-Ok-None.field-0-is at c.in-Ok-None.ensures.answers)

pub returns-in-Err-Status-clause-comes : goal.returns-in-Err-Status-clause-comes
returns-in-Err-Status-clause-comes g c = rw c.in-Err-Status.field-0-is (refused_comes _ _ _ _ g.met.O.Outside.hands_none _ _ _ _ c.in-Err-Status.status (rw c.in-Err-Status.field-0-is at c.in-Err-Status.ensures.answers))

pub returns-in-Err-Truncated-clause-comes : goal.returns-in-Err-Truncated-clause-comes
returns-in-Err-Truncated-clause-comes g c = truncated_comes _ _ _ _ g.met.O.Outside.hands_none _ _ _ _ (rw c.in-Err-Truncated.field-0-is at c.in-Err-Truncated.ensures.answers)

pub returns-in-Err-ReadFault-clause-comes : goal.returns-in-Err-ReadFault-clause-comes
returns-in-Err-ReadFault-clause-comes g c = fault_comes _ _ _ _ g.met.O.Outside.hands_none _ _ _ _ _ (rw c.in-Err-ReadFault.field-0-is at c.in-Err-ReadFault.ensures.answers)

pub returns-in-Err-Memory-clause-comes : goal.returns-in-Err-Memory-clause-comes
returns-in-Err-Memory-clause-comes g c = memory_comes _ _ _ _ g.met.O.Outside.hands_none _ _ _ _

pub returns-in-Ok-Some-clause-comes : goal.returns-in-Ok-Some-clause-comes
returns-in-Ok-Some-clause-comes g c = request_comes _ _ _ _ _ _ _ c.in-Ok-Some.request.body _ _ c.in-Ok-Some.request.close _ (rw c.in-Ok-Some.field-0-is at c.in-Ok-Some.ensures.answers) c.answer_request.ensures

pub returns-in-Ok-Some-clause-cause : goal.returns-in-Ok-Some-clause-cause
returns-in-Ok-Some-clause-cause g c = counts_request g.O.Outside.handed _ _ _ _ _ _ _ _ c.answer_request.ensures c.in-Ok-Some.ensures.cause

pub answer_request-requires-clause-short : goal.answer_request-requires-clause-short
answer_request-requires-clause-short g c = rw c.in-Ok-Some.field-0-is at c.in-Ok-Some.ensures.short

pub returns-in-Err-Status-clause-status : goal.returns-in-Err-Status-clause-status
returns-in-Err-Status-clause-status g c = rw c.in-Err-Status.field-0-is (rw c.in-Err-Status.field-0-is at c.in-Err-Status.ensures.status)
