-- The broker and its counts go on as the history does.
use Rattle.std.proofs.Common.{◌∙◌, ap, arith}
use Rattle.amf_broker.specs.Machine.{answer_to, after}
use Rattle.amf_desk.proofs.Longer.{counted_next}
use Rattle.amf_desk.proofs.counted.CountedBroker.answer.Goals as goal

pub returns-clause-ok : goal.returns-clause-ok
returns-clause-ok c = λ destinations log by is.
    let s = ap (λ x. x.broker) is in let n = ap (λ x. x.published) is in let m = ap (λ x. x.delivered) is in
    let one = c.published_by.ensures in let some = c.handed_out_by.ensures in let b = c.saturating_add-self.ensures in let d = c.saturating_add-self-2.ensures in
    let answer = c.in_ok-answer.ensures.answer ∙ ap (λ x. answer_to x c.args.moment c.args.call) s in
    let state = c.in_ok-answer.ensures.state ∙ ap (λ x. after x c.args.moment c.args.call) s in
    (answer, counted_next destinations log by c.args.moment c.args.call c.in_ok-answer.answer _ _ _ answer state (omega arith) (omega arith))
