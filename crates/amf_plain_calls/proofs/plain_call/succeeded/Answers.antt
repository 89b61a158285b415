use Rattle.std.proofs.Common.{ℕ, List, Option, Some, None, subst}
use Rattle.std.proofs.lemmas.Result.{IfOk-weaker}
use Rattle.amf_graph.specs.Graph.{Graph}
use Rattle.amf_graph.specs.Rooted.{content}
use Rattle.flex_msgs.specs.declared.reply.FaultText.{FaultText}
use Rattle.amf_plain_calls.specs.FoundForms.{FindsForm}
use Rattle.amf_answer_plan.specs.Says.{AnswersMessage}
use Rattle.amf_answer_plan.specs.PlainCalls.{failed as failed_answer}
use Rattle.amf_plain_calls.proofs.Plain.{result_is, told_formed}
use Rattle.amf_plain_calls.proofs.plain_call.succeeded.Goals as goal

pub returns-in-Some : goal.returns-in-Some
returns-in-Some c = λ (g : Graph) i.
    let h = content c.args.graph.now in
    let found = subst (λ (z : Option (List ℕ)). FindsForm c.args.form h z) c.in-Some.is c.in_ok-found.ensures in
    told_formed c.args.form g (Some found.0) _ (found.2 g i) (result_is found.0 g h c.in-Some.body i found.1)

pub returns-in_ok-fault-in-None : goal.returns-in_ok-fault-in-None
returns-in_ok-fault-in-None c =
    let h = content c.args.graph.now in
    let none = subst (λ (z : Option (List ℕ)). FindsForm c.args.form h z) c.in-None.is c.in_ok-found.ensures in
    IfOk-weaker c.failed.result _ _ (λ x is (g : Graph) i.
    told_formed c.args.form g None x (none g i) (subst (λ (z : FaultText). AnswersMessage x (failed_answer c.args.form z)) c.in_ok-fault-in-None.ensures.cause is)) c.failed.ensures
