use Rattle.std.proofs.Common.{◌≡◌, IfOk}
use Rattle.std.proofs.lemmas.Result.{IfOk-weaker, on_err_weaker}
use Rattle.amf_graph.specs.Graph.{Graph}
use Rattle.amf_answer_plan.proofs.Doing.{at_err, not_begun}
use Rattle.amf_flex_replies.proofs.remoting.call_with.Goals as goal

pub returns-in_err-answer-clause-stopped : goal.returns-in_err-answer-clause-stopped
returns-in_err-answer-clause-stopped g c = at_err c.from_residual.result (λ (x : Graph) whole same. not_begun g.O.Outside.handed g.met.O.Outside.hands_none _ c.args.outside.now)

pub returns-clause-says : goal.returns-clause-says
returns-clause-says g c = IfOk-weaker c.say_called.result _ _ (λ a h (x : Graph) whole same. h _ (c.in_ok-answer.ensures.comes x whole same)) c.say_called.ensures.says

pub returns-clause-stopped : goal.returns-clause-stopped
returns-clause-stopped g c = on_err_weaker c.say_called.result (λ h (x : Graph) whole same. h _ (c.in_ok-answer.ensures.comes x whole same)) c.say_called.ensures.stopped
