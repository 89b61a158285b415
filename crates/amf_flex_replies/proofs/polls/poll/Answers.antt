use Rattle.std.proofs.Common.{◌≡◌, codes, ap}
use Rattle.amf_graph.specs.Arena.{value_content}
use Rattle.amf_graph.specs.Rooted.{content}
use Rattle.amf_broker.specs.declared.reply.Reply.{Reply}
use Rattle.flex_msgs.specs.Asked.{told}
use Rattle.flex_msgs.specs.Lookup.{pairs_of}
use Rattle.amf_answer_plan.specs.Commands.{poll, poll_call, named_in, client_of, say_batch}
use Rattle.amf_answer_plan.specs.Replies.{Context, context_of}
use Rattle.amf_answer_plan.proofs.Doing.{at_err, not_begun}
use Rattle.amf_flex_replies.proofs.Saying.{asked_says, asked_ended, asked_first}
use Rattle.amf_flex_replies.proofs.Polled.{call_made}
use Rattle.amf_flex_replies.proofs.polls.poll.Goals as goal

pub returns-in_err-value-clause-stopped : goal.returns-in_err-value-clause-stopped
returns-in_err-value-clause-stopped g c = at_err c.from_residual.result (not_begun g.O.Outside.handed g.met.O.Outside.hands_none (poll (content c.args.graph.now) (told c.args.graph.now.arena c.args.common.now)) c.args.outside.now)

pub returns-in_err-call-clause-stopped : goal.returns-in_err-call-clause-stopped
returns-in_err-call-clause-stopped g c = at_err c.from_residual-in_err-call.result (not_begun g.O.Outside.handed g.met.O.Outside.hands_none (poll (content c.args.graph.now) (told c.args.graph.now.arena c.args.common.now)) c.args.outside.now)

pub returns-in_err-reply-clause-stopped : goal.returns-in_err-reply-clause-stopped
returns-in_err-reply-clause-stopped g c =
    let a = c.args.graph.now.arena in
    let t = told a c.args.common.now in
    let pairs = pairs_of (content c.args.graph.now) t.headers in
    let made = call_made c.in_ok-call.call c.number_in.result (client_of t) (value_content a c.in_ok-value.value) (codes "AMFPoll") pairs c.in_ok-call.ensures c.number_in.ensures c.in_ok-value.ensures.value in
    at_err c.from_residual-in_err-reply.result (asked_first g.O.Outside.handed (poll_call (client_of t) (named_in (codes "AMFPoll") pairs)) c.in_ok-call.call (λ (r : Reply). say_batch (context_of t) r) c.args.outside.now c.ask.new.outside made c.in_err-reply.ensures.stopped)

pub returns-in_err-say_batch-clause-stopped : goal.returns-in_err-say_batch-clause-stopped
returns-in_err-say_batch-clause-stopped g c =
    let a = c.args.graph.now.arena in
    let t = told a c.args.common.now in
    let pairs = pairs_of (content c.args.graph.now) t.headers in
    let r = c.in_ok-reply.reply in
    let made = call_made c.in_ok-call.call c.number_in.result (client_of t) (value_content a c.in_ok-value.value) (codes "AMFPoll") pairs c.in_ok-call.ensures c.number_in.ensures c.in_ok-value.ensures.value in
    at_err c.from_residual-in_err-say_batch.result (asked_ended g.O.Outside.handed g.met.O.Outside.hands_both (poll_call (client_of t) (named_in (codes "AMFPoll") pairs)) c.in_ok-call.call (λ (x : Reply). say_batch (context_of t) x) _ c.args.outside.now c.ask.new.outside c.say_batch.new.outside r made (ap (λ (k : Context). say_batch k r) c.requires.context) c.in_ok-reply.ensures.ran c.in_err-say_batch.ensures.stopped)

pub returns-clause-says : goal.returns-clause-says
returns-clause-says g c =
    let a = c.args.graph.now.arena in
    let t = told a c.args.common.now in
    let pairs = pairs_of (content c.args.graph.now) t.headers in
    let r = c.in_ok-reply.reply in
    let made = call_made c.in_ok-call.call c.number_in.result (client_of t) (value_content a c.in_ok-value.value) (codes "AMFPoll") pairs c.in_ok-call.ensures c.number_in.ensures c.in_ok-value.ensures.value in
    asked_says g.O.Outside.handed g.met.O.Outside.hands_both (poll_call (client_of t) (named_in (codes "AMFPoll") pairs)) c.in_ok-call.call (λ (x : Reply). say_batch (context_of t) x) _ c.args.outside.now c.ask.new.outside c.say_batch.new.outside r _ made (ap (λ (k : Context). say_batch k r) c.requires.context) c.in_ok-reply.ensures.ran c.in_ok-say_batch.ensures.says
