-- What is meant for the arguments that are kept is meant for those that are said.
use Rattle.std.proofs.Common.{◌≡◌}
use Rattle.amf_graph.specs.Graph.{Graph}
use Rattle.amf_graph.specs.Rooted.{content}
use Rattle.amf_graph.proofs.Finished.{finished}
use Rattle.amf_answer_plan.specs.declared.calling.ServiceAnswer.TheVariants.{Gave, Failed}
use Rattle.amf_answer_plan.proofs.CallsAlike.{comes_alike}
use Rattle.amf_answer_plan.proofs.calling.call_service.Goals as goal

pub returns-in-Ok-clause-comes : goal.returns-in-Ok-clause-comes
returns-in-Ok-clause-comes g c = λ (a : Graph) whole same.
    let x = c.args.args.now in
    comes_alike _ _ (c.is_lawful.ensures c.args.operation.now a (content x) whole (finished x.arena x.root c.is_finished.ensures.finished c.is_finished.ensures.names) same) (Gave c.in-Ok.graph) c.in-Ok.ensures.answer

pub returns-in_ok-cause-in-Err-clause-comes : goal.returns-in_ok-cause-in-Err-clause-comes
returns-in_ok-cause-in-Err-clause-comes g c = λ (a : Graph) whole same.
    let x = c.args.args.now in
    comes_alike _ _ (c.is_lawful.ensures c.args.operation.now a (content x) whole (finished x.arena x.root c.is_finished.ensures.finished c.is_finished.ensures.names) same) (Failed c.in_ok-cause-in-Err.cause) (c.in_ok-cause-in-Err.ensures.comes _ c.in-Err.ensures.answer)

pub returns-in_ok-cause-in-Err-clause-fits : goal.returns-in_ok-cause-in-Err-clause-fits
returns-in_ok-cause-in-Err-clause-fits g c = c.in_ok-cause-in-Err.ensures.fits _ c.in-Err.ensures.answer
