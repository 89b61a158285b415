use Rattle.std.proofs.Common.{◌≡◌, ◌∙◌, ℕ, ap}
use Rattle.amf_broker.specs.declared.topic.Topic.{Topic}
use Rattle.amf_broker.specs.declared.call.Call.TheVariants.{Subscribe}
use Rattle.amf_broker.specs.declared.reply.Reply.{Reply}
use Rattle.amf_answer_plan.specs.Commands.{subscribe, client_of, topic_of, say_subscribed}
use Rattle.amf_answer_plan.specs.Kept.{names_told}
use Rattle.amf_answer_plan.specs.Numbers.{number_in}
use Rattle.amf_answer_plan.specs.Replies.{Context, context_of}
use Rattle.amf_answer_plan.proofs.Doing.{at_err, not_begun}
use Rattle.amf_flex_replies.proofs.Saying.{asked_says, asked_ended, asked_first}
use Rattle.amf_flex_replies.proofs.commands.subscribe.Goals as goal

pub returns-in_err-topic-clause-stopped : goal.returns-in_err-topic-clause-stopped
returns-in_err-topic-clause-stopped g c = at_err c.from_residual.result (not_begun g.O.Outside.handed g.met.O.Outside.hands_none (subscribe (names_told c.args.common.now)) c.args.outside.now)

pub returns-in_err-reply-clause-stopped : goal.returns-in_err-reply-clause-stopped
returns-in_err-reply-clause-stopped g c =
    at_err c.from_residual-in_err-reply.result (asked_first g.O.Outside.handed (Subscribe (client_of (names_told c.args.common.now)) (topic_of (names_told c.args.common.now))) _ (λ (r : Reply). say_subscribed (context_of (names_told c.args.common.now)) r) c.args.outside.now c.ask.new.outside (ap (λ (z : Topic). Subscribe c.number_in.result z) c.in_ok-topic.ensures ∙ ap (λ (n : ℕ). Subscribe n (topic_of (names_told c.args.common.now))) c.number_in.ensures) c.in_err-reply.ensures.stopped)

pub returns-in_err-say_subscribed-clause-stopped : goal.returns-in_err-say_subscribed-clause-stopped
returns-in_err-say_subscribed-clause-stopped g c =
    at_err c.from_residual-in_err-say_subscribed.result (asked_ended g.O.Outside.handed g.met.O.Outside.hands_both (Subscribe (client_of (names_told c.args.common.now)) (topic_of (names_told c.args.common.now))) _ (λ (r : Reply). say_subscribed (context_of (names_told c.args.common.now)) r) _ c.args.outside.now c.ask.new.outside c.say_subscribed.new.outside c.in_ok-reply.reply (ap (λ (z : Topic). Subscribe c.number_in.result z) c.in_ok-topic.ensures ∙ ap (λ (n : ℕ). Subscribe n (topic_of (names_told c.args.common.now))) c.number_in.ensures) (ap (λ (k : Context). say_subscribed k c.in_ok-reply.reply) c.requires.context) c.in_ok-reply.ensures.ran c.in_err-say_subscribed.ensures.stopped)

pub returns-clause-says : goal.returns-clause-says
returns-clause-says g c =
    asked_says g.O.Outside.handed g.met.O.Outside.hands_both (Subscribe (client_of (names_told c.args.common.now)) (topic_of (names_told c.args.common.now))) _ (λ (r : Reply). say_subscribed (context_of (names_told c.args.common.now)) r) _ c.args.outside.now c.ask.new.outside c.say_subscribed.new.outside c.in_ok-reply.reply _ (ap (λ (z : Topic). Subscribe c.number_in.result z) c.in_ok-topic.ensures ∙ ap (λ (n : ℕ). Subscribe n (topic_of (names_told c.args.common.now))) c.number_in.ensures) (ap (λ (k : Context). say_subscribed k c.in_ok-reply.reply) c.requires.context) c.in_ok-reply.ensures.ran c.in_ok-say_subscribed.ensures.says
