use Rattle.std.proofs.lemmas.Result.{IfOk-weaker}
use Rattle.amf_graph.specs.Graph.{Graph}
use Rattle.amf_plain_calls.proofs.plain_call.call.Goals as goal

pub returns : goal.returns
returns g c = rw (← c.target.view_is) (IfOk-weaker c.outcome.result _ _ (λ x h (a : Graph) whole same. h _ (c.in_ok-answer.ensures.comes a whole same)) c.outcome.ensures)
