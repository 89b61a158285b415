-- What is left to change leads to the same slots.
use Rattle.std.proofs.Common.{◌≡◌, drop}
use Rattle.std.specs.Prelude.{◌==◌}
use Rattle.amf_broker.specs.Members.{logs_of}
use Rattle.amf_broker.specs.Slots.{own_ended, changed_at}
use Rattle.amf_broker.proofs.roster.end_sub.Given as goal

abbrev pub invariant-loop-at : goal.invariant-loop-at
invariant-loop-at l = changed_at (own_ended (λ k. k == l.client) l.next l.next (λ id. id == l.sub) (logs_of l.logs)) (drop l.at-index l.spots) l.slots
    ≡ changed_at (own_ended (λ k. k == l.client) l.next l.next (λ id. id == l.sub) (logs_of l.logs)) l.spots l.initial.slots
