-- What is left to change leads to the same slots.
use Rattle.std.proofs.Common.{◌≡◌, drop}
use Rattle.std.specs.Prelude.{◌==◌}
use Rattle.std.specs.List.{list_any}
use Rattle.amf_broker.specs.Members.{logs_of}
use Rattle.amf_broker.specs.Slots.{own_ended, changed_at}
use Rattle.amf_broker.proofs.roster.end_own.Given as goal

abbrev pub invariant-loop-at : goal.invariant-loop-at
invariant-loop-at l = changed_at (own_ended (λ k. k == l.client) l.number l.next (λ sub. list_any (λ id. id == sub) l.ended.subs.items) (logs_of l.logs)) (drop l.at-index l.spots) l.slots
    ≡ changed_at (own_ended (λ k. k == l.client) l.number l.next (λ sub. list_any (λ id. id == sub) l.ended.subs.items) (logs_of l.logs)) l.spots l.initial.slots
