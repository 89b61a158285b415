use Rattle.std.proofs.Common.{◌≡◌, ℕ, List, Option, IfOk, subst}
use Rattle.std.proofs.lemmas.Result.{IfOk-weaker}
use Rattle.amf_graph.specs.Graph.{Graph}
use Rattle.amf_graph.specs.Rooted.{content}
use Rattle.amf0_spelling.specs.declared.form.Form.TheVariants.{Amf3}
use Rattle.amf_packet.specs.SpelledBodies.{TellsSpelling}
use Rattle.flex_msgs.specs.declared.reply.FaultText.{FaultText}
use Rattle.amf_answer_plan.specs.Says.{AnswersMessage}
use Rattle.amf_answer_plan.specs.Replies.{failed}
use Rattle.amf_answer_plan.proofs.Spelling.{unspelled}
use Rattle.amf_flex_replies.proofs.SpelledReplies.{told_well, told_badly}
use Rattle.amf_flex_replies.proofs.replies.answered.Goals as goal

pub returns-in-Some : goal.returns-in-Some
returns-in-Some c = λ (g : Graph) i.
    let h = content c.args.graph in
    told_well c.args.reply g h c.in-Some.body i (subst (λ (o : Option (List ℕ)). TellsSpelling Amf3 h o) c.in-Some.is c.in_ok-spelling.ensures)

pub returns-in_ok-no_form-in-None : goal.returns-in_ok-no_form-in-None
returns-in_ok-no_form-in-None c =
    let h = content c.args.graph in
    let none = subst (λ (o : Option (List ℕ)). TellsSpelling Amf3 h o) c.in-None.is c.in_ok-spelling.ensures in
    IfOk-weaker c.failed.result _ _ (λ a is (g : Graph) i.
    told_badly c.args.reply g a (unspelled g h none.0 i none.1) (subst (λ (f : FaultText). AnswersMessage a (failed c.args.reply f)) c.in_ok-no_form-in-None.ensures.cause is)) c.failed.ensures
