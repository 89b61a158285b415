use Rattle.std.proofs.Common.{◌≡◌, Option, map, subst}
use Rattle.std.proofs.lemmas.Result.{IfOk-weaker}
use Rattle.amf_graph.specs.Rooted.{RootedArena}
use Rattle.flex_msgs.specs.Answers.{invalidate_graph}
use Rattle.flex_msgs.specs.declared.reply.FaultText.{FaultText}
use Rattle.amf_flex_replies.specs.Batching.{IsSync}
use Rattle.amf_answer_plan.specs.Says.{AnswersMessage}
use Rattle.amf_answer_plan.specs.Replies.{failed}
use Rattle.amf_flex_replies.proofs.Reading.{say_some, say_none}
use Rattle.amf_flex_replies.proofs.batches.synced.Goals as goal

pub returns-in-Some : goal.returns-in-Some
returns-in-Some c =
    let ends = map invalidate_graph c.args.endings.now in
    let made = subst (λ (o : Option RootedArena). IsSync c.args.reply c.args.deliveries.now ends o) c.in-Some.is c.in_ok-graph.ensures in
    IfOk-weaker c.answered.result _ _ (λ a told. say_some c.args.reply c.args.deliveries.now ends c.in-Some.graph a made told) c.answered.ensures

pub returns-in_ok-fault-in-None : goal.returns-in_ok-fault-in-None
returns-in_ok-fault-in-None c =
    let ends = map invalidate_graph c.args.endings.now in
    let none = subst (λ (o : Option RootedArena). IsSync c.args.reply c.args.deliveries.now ends o) c.in-None.is c.in_ok-graph.ensures in
    IfOk-weaker c.failed.result _ _ (λ a is. say_none c.args.reply c.args.deliveries.now ends a none (subst (λ (f : FaultText). AnswersMessage a (failed c.args.reply f)) c.in_ok-fault-in-None.ensures.cause is)) c.failed.ensures
