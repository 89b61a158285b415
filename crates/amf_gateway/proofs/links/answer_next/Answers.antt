use Rattle.std.proofs.lemmas.Result.{err_from_is_err_and}
use Rattle.amf_gateway.proofs.Stepped.{stepped_none, stepped_unwritten, stepped_written, counts_none}
use Rattle.amf_gateway.proofs.links.answer_next.Goals as goal

pub returns-in_err-answer-clause-steps : goal.returns-in_err-answer-clause-steps
returns-in_err-answer-clause-steps g c =
    let p = err_from_is_err_and c.from_residual.result c.from_residual.ensures.1 in
    let k = c.in_err-answer.ensures.other_side in
    rw (p.1, p.2) (stepped_none _ _ _ _ _ _ _ _ c.prepare_answer.new.buffer _ _ _ _ c.in_err-answer.ensures.comes (λ h. k.same (k.since h)))

pub returns-in_err-write-clause-steps : goal.returns-in_err-write-clause-steps
returns-in_err-write-clause-steps g c =
    let p = err_from_is_err_and c.from_residual-in_err-write.result c.from_residual-in_err-write.ensures.1 in
    let e = c.in_ok-answer.ensures in
    let w = c.in_err-write.ensures in
    rw (p.1, p.2) (stepped_unwritten _ _ _ _ _ _ _ _ c.prepare_answer.new.buffer _ _ _ _ (g.L.Link.left c.prepare_answer.new.link) (g.L.Link.held c.prepare_answer.new.link) e.comes (λ t. w.other_side.same (e.tells t)) (λ h. e.other_side.same (e.other_side.since (w.tells h))) _ w.writes)

pub returns-clause-steps : goal.returns-clause-steps
returns-clause-steps g c =
    let e = c.in_ok-answer.ensures in
    let w = c.in_ok-write.ensures in
    rw c.end.ensures (stepped_written _ _ _ _ _ _ _ _ c.prepare_answer.new.buffer _ _ _ c.in_ok-answer.answer (g.L.Link.left c.prepare_answer.new.link) (g.L.Link.held c.prepare_answer.new.link) e.comes (λ t. w.other_side.same (e.tells t)) (λ h. e.other_side.same (e.other_side.since (w.tells h))) w.writes)

pub returns-in_err-answer-clause-cause : goal.returns-in_err-answer-clause-cause
returns-in_err-answer-clause-cause g c =
    let p = err_from_is_err_and c.from_residual.result c.from_residual.ensures.1 in
    rw (p.1, p.2) (counts_none _ _ _ _ c.in_err-answer.field-0.0 c.in_err-answer.ensures.cause c.in_err-answer.ensures.other_count)
