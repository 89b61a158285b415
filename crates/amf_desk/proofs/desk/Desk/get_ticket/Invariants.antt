-- Until the ticket is taken nothing changes.
use Rattle.std.proofs.Common.{◌≡◌}
use Rattle.amf_desk.proofs.desk.Desk.get_ticket.Given as goal

abbrev pub invariant-loop-before : goal.invariant-loop-before
invariant-loop-before g l = (l.seat.table_id ≡ l.initial.seat.table_id) × (l.seat.id ≡ l.initial.seat.id) × (l.seat.me ≡ l.initial.seat.me)
