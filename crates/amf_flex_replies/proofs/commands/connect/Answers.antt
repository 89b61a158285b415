use Rattle.std.proofs.Common.{◌≡◌, refl}
use Rattle.amf_broker.specs.declared.call.Call.TheVariants.{Connect}
use Rattle.amf_broker.specs.declared.reply.Reply.{Reply}
use Rattle.amf_answer_plan.specs.Commands.{say_connected}
use Rattle.amf_answer_plan.specs.Kept.{context_in}
use Rattle.amf_answer_plan.proofs.Doing.{at_err}
use Rattle.amf_flex_replies.proofs.Saying.{asked_says, asked_ended, asked_first}
use Rattle.amf_flex_replies.proofs.commands.connect.Goals as goal

pub returns-in_err-reply-clause-stopped : goal.returns-in_err-reply-clause-stopped
returns-in_err-reply-clause-stopped g c =
    at_err c.from_residual.result (asked_first g.O.Outside.handed (Connect) _ (λ (r : Reply). say_connected (context_in c.args.context) r) c.args.outside.now c.ask.new.outside (refl) c.in_err-reply.ensures.stopped)

pub returns-in_err-say_connected-clause-stopped : goal.returns-in_err-say_connected-clause-stopped
returns-in_err-say_connected-clause-stopped g c =
    at_err c.from_residual-in_err-say_connected.result (asked_ended g.O.Outside.handed g.met.O.Outside.hands_both (Connect) _ (λ (r : Reply). say_connected (context_in c.args.context) r) _ c.args.outside.now c.ask.new.outside c.say_connected.new.outside c.in_ok-reply.reply (refl) (refl) c.in_ok-reply.ensures.ran c.in_err-say_connected.ensures.stopped)

pub returns-clause-says : goal.returns-clause-says
returns-clause-says g c =
    asked_says g.O.Outside.handed g.met.O.Outside.hands_both (Connect) _ (λ (r : Reply). say_connected (context_in c.args.context) r) _ c.args.outside.now c.ask.new.outside c.say_connected.new.outside c.in_ok-reply.reply _ (refl) (refl) c.in_ok-reply.ensures.ran c.in_ok-say_connected.ensures.says
