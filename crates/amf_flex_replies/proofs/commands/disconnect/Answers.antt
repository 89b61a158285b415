use Rattle.std.proofs.Common.{◌≡◌, ◌∙◌, ℕ, [], ap}
use Rattle.amf_broker.specs.declared.call.Call.TheVariants.{Disconnect}
use Rattle.amf_broker.specs.declared.reply.Reply.{Reply}
use Rattle.amf_answer_plan.specs.Commands.{disconnect, client_of, acknowledged}
use Rattle.amf_answer_plan.specs.Kept.{names_told}
use Rattle.amf_answer_plan.specs.Numbers.{number_in}
use Rattle.amf_answer_plan.specs.Replies.{Context, context_of}
use Rattle.amf_answer_plan.proofs.Doing.{at_err, not_begun}
use Rattle.amf_flex_replies.proofs.Saying.{asked_says, asked_ended, asked_first}
use Rattle.amf_flex_replies.proofs.commands.disconnect.Goals as goal

pub returns-in_err-empty-clause-stopped : goal.returns-in_err-empty-clause-stopped
returns-in_err-empty-clause-stopped g c = at_err c.from_residual.result (not_begun g.O.Outside.handed g.met.O.Outside.hands_none (disconnect (names_told c.args.common.now)) c.args.outside.now)

pub returns-in_err-reply-clause-stopped : goal.returns-in_err-reply-clause-stopped
returns-in_err-reply-clause-stopped g c =
    at_err c.from_residual-in_err-reply.result (asked_first g.O.Outside.handed (Disconnect (client_of (names_told c.args.common.now))) _ (λ (r : Reply). acknowledged (context_of (names_told c.args.common.now)) [] r) c.args.outside.now c.ask.new.outside (ap (λ (n : ℕ). Disconnect n) c.number_in.ensures) c.in_err-reply.ensures.stopped)

pub returns-in_err-acknowledged-clause-stopped : goal.returns-in_err-acknowledged-clause-stopped
returns-in_err-acknowledged-clause-stopped g c =
    at_err c.from_residual-in_err-acknowledged.result (asked_ended g.O.Outside.handed g.met.O.Outside.hands_both (Disconnect (client_of (names_told c.args.common.now))) _ (λ (r : Reply). acknowledged (context_of (names_told c.args.common.now)) [] r) _ c.args.outside.now c.ask.new.outside c.acknowledged.new.outside c.in_ok-reply.reply (ap (λ (n : ℕ). Disconnect n) c.number_in.ensures) (ap (λ (k : Context). acknowledged k c.in_ok-empty.empty c.in_ok-reply.reply) c.requires.context ∙ ap (λ x. acknowledged (context_of (names_told c.args.common.now)) x c.in_ok-reply.reply) c.in_ok-empty.ensures) c.in_ok-reply.ensures.ran c.in_err-acknowledged.ensures.stopped)

pub returns-clause-says : goal.returns-clause-says
returns-clause-says g c =
    asked_says g.O.Outside.handed g.met.O.Outside.hands_both (Disconnect (client_of (names_told c.args.common.now))) _ (λ (r : Reply). acknowledged (context_of (names_told c.args.common.now)) [] r) _ c.args.outside.now c.ask.new.outside c.acknowledged.new.outside c.in_ok-reply.reply _ (ap (λ (n : ℕ). Disconnect n) c.number_in.ensures) (ap (λ (k : Context). acknowledged k c.in_ok-empty.empty c.in_ok-reply.reply) c.requires.context ∙ ap (λ x. acknowledged (context_of (names_told c.args.common.now)) x c.in_ok-reply.reply) c.in_ok-empty.ensures) c.in_ok-reply.ensures.ran c.in_ok-acknowledged.ensures.says
