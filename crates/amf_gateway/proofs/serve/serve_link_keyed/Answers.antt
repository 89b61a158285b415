use Rattle.std.proofs.Common.{rules, refl, arith}
use Rattle.amf_gateway.specs.ServesLink.{end_of}
use Rattle.amf_gateway.proofs.ServedEnds.{at_desk, had_none, few_unanswered, calls_counted, none_left_then, one_more_asked}
use Rattle.amf_gateway.proofs.serve.serve_link_keyed.Goals as goal

pub returns-clause-served : goal.returns-clause-served
returns-clause-served g c =
    let s = c.answer_link-end.ensures.served in
    let h = s.was_handed in
    let end = end_of c.answer_link-end.result in (
      s.took.taken,
      at_desk _ _ _ _ _ _ _ _ _ _ _ s.took end (end_of c.spent_or_memory.result) (search rules) (search rules) c.spent_or_memory.ensures.same
          (λ e. none_left_then c.args.pass.now c.answer_link-end.new.outside.pass.now _ c.answer_link-end.new.outside.unanswered c.args.calls.now c.answer_link-end.new.outside.calls.now c.answer_link-end.new.outside.calls.now _ refl refl (omega arith) h.1 h.6 (c.spent_or_memory.ensures.spent e))
          (λ e. had_none c.answer_link-end.new.outside.unanswered s.took.unanswered h.7 (c.spent_or_memory.ensures.spent e))
          s.serves s.stops c.answer_link-end.ensures.cause h.0.moments_given h.0.words_given h.1 h.0.links,
    )

pub returns-clause-calls : goal.returns-clause-calls
returns-clause-calls g c =
    let s = c.answer_link-end.ensures.served in
    let h = s.was_handed in
    calls_counted c.args.pass.now c.answer_link-end.new.outside.pass.now _ c.answer_link-end.new.outside.unanswered c.args.calls.now c.answer_link-end.new.outside.calls.now _ _ (search rules) (search rules) (omega arith) h.1 h.6 _
    (few_unanswered (end_of c.answer_link-end.result) (end_of c.spent_or_memory.result) c.answer_link-end.new.outside.unanswered s.took.unanswered c.spent_or_memory.ensures.same h.7 s.answered)

pub returns-clause-asked : goal.returns-clause-asked
returns-clause-asked g c = λ e.
    let h = c.answer_link-end.ensures.served.was_handed in
    one_more_asked c.args.pass.now c.answer_link-end.new.outside.pass.now c.answer_link-end.new.outside.pass.now.budget c.answer_link-end.new.outside.unanswered c.args.calls.now c.answer_link-end.new.outside.calls.now _ _ refl (search rules) (omega arith) h.1 h.6 (c.spent_or_memory.ensures.spent e)
