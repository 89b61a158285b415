use Rattle.std.proofs.Common.{◌≡◌, ◌∙◌, ℕ, [], ap, Some}
use Rattle.amf_broker.specs.declared.topic.Topic.{Topic}
use Rattle.amf_broker.specs.declared.call.Call.TheVariants.{Publish}
use Rattle.amf_broker.specs.declared.reply.Reply.{Reply}
use Rattle.amf_answer_plan.specs.Commands.{publish_spelled, client_of, topic_of, acknowledged}
use Rattle.amf_answer_plan.specs.Kept.{names_told}
use Rattle.amf_answer_plan.specs.Plan.{reply_to}
use Rattle.amf_answer_plan.specs.Replies.{Context, context_of}
use Rattle.amf_answer_plan.proofs.Doing.{at_err, not_begun, replied_ran, replied_stopped}
use Rattle.amf_flex_replies.proofs.Saying.{made_says, made_ended, made_first}
use Rattle.amf_flex_replies.proofs.publishing.publish_with.Goals as goal

pub returns-in_err-topic-clause-stopped : goal.returns-in_err-topic-clause-stopped
returns-in_err-topic-clause-stopped g c = at_err c.from_residual.result (not_begun g.O.Outside.handed g.met.O.Outside.hands_none (publish_spelled (names_told c.args.common.now) c.args.moment (Some c.args.message)) c.args.outside.now)

pub returns-in_err-empty-clause-stopped : goal.returns-in_err-empty-clause-stopped
returns-in_err-empty-clause-stopped g c = at_err c.from_residual-in_err-empty.result (not_begun g.O.Outside.handed g.met.O.Outside.hands_none (publish_spelled (names_told c.args.common.now) c.args.moment (Some c.args.message)) c.args.outside.now)

pub returns-in_err-reply-clause-stopped : goal.returns-in_err-reply-clause-stopped
returns-in_err-reply-clause-stopped g c =
    at_err c.from_residual-in_err-reply.result (made_first g.O.Outside.handed (reply_to c.args.moment) (Publish (client_of (names_told c.args.common.now)) (topic_of (names_told c.args.common.now)) c.args.message) _ (λ (r : Reply). acknowledged (context_of (names_told c.args.common.now)) [] r) c.args.outside.now c.call.new.self (ap (λ (z : Topic). Publish c.number_in.result z c.args.message) c.in_ok-topic.ensures ∙ ap (λ (n : ℕ). Publish n (topic_of (names_told c.args.common.now)) c.args.message) c.number_in.ensures) (replied_stopped g.O.Outside.handed c.args.outside.now c.call.new.self c.args.moment _ c.in_err-reply.ensures.none))

pub returns-in_err-acknowledged-clause-stopped : goal.returns-in_err-acknowledged-clause-stopped
returns-in_err-acknowledged-clause-stopped g c =
    let h = c.in_ok-reply.ensures.reply in
    at_err c.from_residual-in_err-acknowledged.result (made_ended g.O.Outside.handed g.met.O.Outside.hands_both (reply_to c.args.moment) (Publish (client_of (names_told c.args.common.now)) (topic_of (names_told c.args.common.now)) c.args.message) _ (λ (r : Reply). acknowledged (context_of (names_told c.args.common.now)) [] r) _ c.args.outside.now c.call.new.self c.acknowledged.new.outside c.in_ok-reply.reply (ap (λ (z : Topic). Publish c.number_in.result z c.args.message) c.in_ok-topic.ensures ∙ ap (λ (n : ℕ). Publish n (topic_of (names_told c.args.common.now)) c.args.message) c.number_in.ensures) (ap (λ (k : Context). acknowledged k c.in_ok-empty.empty c.in_ok-reply.reply) c.requires.context ∙ ap (λ x. acknowledged (context_of (names_told c.args.common.now)) x c.in_ok-reply.reply) c.in_ok-empty.ensures) (replied_ran g.O.Outside.handed c.args.outside.now c.call.new.self c.args.moment _ h.0 c.in_ok-reply.reply h.1 h.2 h.3 h.4) c.in_err-acknowledged.ensures.stopped)

pub returns-clause-says : goal.returns-clause-says
returns-clause-says g c =
    let h = c.in_ok-reply.ensures.reply in
    made_says g.O.Outside.handed g.met.O.Outside.hands_both (reply_to c.args.moment) (Publish (client_of (names_told c.args.common.now)) (topic_of (names_told c.args.common.now)) c.args.message) _ (λ (r : Reply). acknowledged (context_of (names_told c.args.common.now)) [] r) _ c.args.outside.now c.call.new.self c.acknowledged.new.outside c.in_ok-reply.reply _ (ap (λ (z : Topic). Publish c.number_in.result z c.args.message) c.in_ok-topic.ensures ∙ ap (λ (n : ℕ). Publish n (topic_of (names_told c.args.common.now)) c.args.message) c.number_in.ensures) (ap (λ (k : Context). acknowledged k c.in_ok-empty.empty c.in_ok-reply.reply) c.requires.context ∙ ap (λ x. acknowledged (context_of (names_told c.args.common.now)) x c.in_ok-reply.reply) c.in_ok-empty.ensures) (replied_ran g.O.Outside.handed c.args.outside.now c.call.new.self c.args.moment _ h.0 c.in_ok-reply.reply h.1 h.2 h.3 h.4) c.in_ok-acknowledged.ensures.says
