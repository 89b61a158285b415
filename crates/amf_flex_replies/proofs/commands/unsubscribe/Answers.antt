use Rattle.std.proofs.Common.{◌≡◌, ◌∙◌, ℕ, ap}
use Rattle.amf_broker.specs.declared.call.Call.TheVariants.{Unsubscribe}
use Rattle.amf_broker.specs.declared.reply.Reply.{Reply}
use Rattle.amf_answer_plan.specs.Commands.{unsubscribe, client_of, acknowledged}
use Rattle.amf_answer_plan.specs.Kept.{names_told}
use Rattle.amf_answer_plan.specs.Numbers.{number_in}
use Rattle.amf_answer_plan.specs.Replies.{Context, context_of}
use Rattle.amf_answer_plan.proofs.Doing.{at_err}
use Rattle.amf_flex_replies.proofs.Saying.{asked_says, asked_ended, asked_first}
use Rattle.amf_flex_replies.proofs.commands.unsubscribe.Goals as goal

pub returns-in_err-reply-clause-stopped : goal.returns-in_err-reply-clause-stopped
returns-in_err-reply-clause-stopped g c =
    at_err c.from_residual.result (asked_first g.O.Outside.handed (Unsubscribe (client_of (names_told c.args.common.now)) (number_in c.args.common.now.client)) _ (λ (r : Reply). acknowledged (context_of (names_told c.args.common.now)) c.args.common.now.client r) c.args.outside.now c.ask.new.outside (ap (λ (n : ℕ). Unsubscribe n c.number_in-2.result) c.number_in.ensures ∙ ap (λ (n : ℕ). Unsubscribe (client_of (names_told c.args.common.now)) n) c.number_in-2.ensures) c.in_err-reply.ensures.stopped)

pub returns-in_err-acknowledged-clause-stopped : goal.returns-in_err-acknowledged-clause-stopped
returns-in_err-acknowledged-clause-stopped g c =
    at_err c.from_residual-in_err-acknowledged.result (asked_ended g.O.Outside.handed g.met.O.Outside.hands_both (Unsubscribe (client_of (names_told c.args.common.now)) (number_in c.args.common.now.client)) _ (λ (r : Reply). acknowledged (context_of (names_told c.args.common.now)) c.args.common.now.client r) _ c.args.outside.now c.ask.new.outside c.acknowledged.new.outside c.in_ok-reply.reply (ap (λ (n : ℕ). Unsubscribe n c.number_in-2.result) c.number_in.ensures ∙ ap (λ (n : ℕ). Unsubscribe (client_of (names_told c.args.common.now)) n) c.number_in-2.ensures) (ap (λ (k : Context). acknowledged k c.args.common.now.client c.in_ok-reply.reply) c.requires.context) c.in_ok-reply.ensures.ran c.in_err-acknowledged.ensures.stopped)

pub returns-clause-says : goal.returns-clause-says
returns-clause-says g c =
    asked_says g.O.Outside.handed g.met.O.Outside.hands_both (Unsubscribe (client_of (names_told c.args.common.now)) (number_in c.args.common.now.client)) _ (λ (r : Reply). acknowledged (context_of (names_told c.args.common.now)) c.args.common.now.client r) _ c.args.outside.now c.ask.new.outside c.acknowledged.new.outside c.in_ok-reply.reply _ (ap (λ (n : ℕ). Unsubscribe n c.number_in-2.result) c.number_in.ensures ∙ ap (λ (n : ℕ). Unsubscribe (client_of (names_told c.args.common.now)) n) c.number_in-2.ensures) (ap (λ (k : Context). acknowledged k c.args.common.now.client c.in_ok-reply.reply) c.requires.context) c.in_ok-reply.ensures.ran c.in_ok-acknowledged.ensures.says
