-- A ticket, its turn, and the broker in hand.
use Rattle.std.proofs.Common.{ap, ◌∙◌, ◌∷◌, Some}
use Rattle.amf_desk.specs.Steps.{Sat}
use Rattle.amf_desk.specs.Histories.{counted_after}
use Rattle.amf_desk.proofs.Turns.{entered}
use Rattle.amf_desk.proofs.desk.Desk.enter.Goals as goal

pub take_out-requires-clause-out : goal.take_out-requires-clause-out
take_out-requires-clause-out g c = let came = c.wait_turn.ensures.turn.1 in let none_held = ap (λ (m : Sat). m.1) c.get_ticket-ticket.ensures.ticket.1 ∙ c.requires.idle.2 in
    (counted_after c.get_ticket-ticket.new.seat.me.0.destinations came.seen, ap (λ (m : Sat). m.1) came.is ∙ ap (λ xs. (0, Some (counted_after c.get_ticket-ticket.new.seat.me.0.destinations came.seen)) ∷ xs) none_held)

pub returns-clause-entered : goal.returns-clause-entered
returns-clause-entered g c = let ticket = c.get_ticket-ticket.ensures.ticket in
    entered _ _ ticket.0 _ c.wait_turn.ensures.turn.0 _ _ _ (ap (λ (m : Sat). m.0) ticket.1) (ap (λ (m : Sat). m.1) ticket.1 ∙ c.requires.idle.2) c.wait_turn.ensures.turn.1 c.take_out.ensures.left c.take_out.ensures.broker
