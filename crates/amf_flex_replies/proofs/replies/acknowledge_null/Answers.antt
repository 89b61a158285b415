use Rattle.std.proofs.Common.{◌≡◌, IfOk}
use Rattle.std.proofs.lemmas.Result.{IfOk-weaker}
use Rattle.flex_msgs.specs.declared.reply.Reply.{Reply}
use Rattle.flex_msgs.specs.Answers.{acknowledge_graph}
use Rattle.flex_msgs.specs.Messages.{null_value}
use Rattle.amf_answer_plan.specs.Kept.{context_in}
use Rattle.amf_answer_plan.specs.Replies.{fresh, answered, no_nodes}
use Rattle.amf_answer_plan.proofs.Doing.{at_err, stopped_between, stopped_first}
use Rattle.amf_flex_replies.proofs.Saying.{says_told}
use Rattle.amf_flex_replies.proofs.replies.acknowledge_null.Goals as goal

pub returns-clause-says : goal.returns-clause-says
returns-clause-says g c =
    IfOk-weaker c.answered.result _ _ (λ a told. says_told g.O.Outside.handed g.met.O.Outside.hands_none g.met.O.Outside.hands_both
    (fresh (context_in c.args.context.now) c.args.client.now) (λ (r : Reply). answered r (acknowledge_graph r no_nodes null_value)) c.args.outside.now c.fresh.new.outside _ a
    c.in_ok-reply.ensures.ran (told _ c.in_ok-graph.ensures)) c.answered.ensures

pub returns-clause-stopped : goal.returns-clause-stopped
returns-clause-stopped g c =
    at_err c.answered.result (stopped_between g.O.Outside.handed g.met.O.Outside.hands_none g.met.O.Outside.hands_both
    (fresh (context_in c.args.context.now) c.args.client.now) (λ (r : Reply). answered r (acknowledge_graph r no_nodes null_value)) c.args.outside.now c.fresh.new.outside _ c.in_ok-reply.ensures.ran)

pub returns-in_err-graph-clause-stopped : goal.returns-in_err-graph-clause-stopped
returns-in_err-graph-clause-stopped g c =
    at_err c.from_residual-in_err-graph.result (stopped_between g.O.Outside.handed g.met.O.Outside.hands_none g.met.O.Outside.hands_both
    (fresh (context_in c.args.context.now) c.args.client.now) (λ (r : Reply). answered r (acknowledge_graph r no_nodes null_value)) c.args.outside.now c.fresh.new.outside _ c.in_ok-reply.ensures.ran)

pub returns-in_err-reply-clause-stopped : goal.returns-in_err-reply-clause-stopped
returns-in_err-reply-clause-stopped g c =
    at_err c.from_residual.result (stopped_first g.O.Outside.handed (fresh (context_in c.args.context.now) c.args.client.now) (λ (r : Reply). answered r (acknowledge_graph r no_nodes null_value)) c.args.outside.now c.fresh.new.outside c.in_err-reply.ensures.stopped)
