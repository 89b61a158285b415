-- The subscriptions of the members so far have ended.
use Rattle.std.proofs.Common.{◌≡◌, map, take}
use Rattle.std.specs.Prelude.{◌==◌}
use Rattle.std.specs.List.{list_any}
use Rattle.amf_broker.specs.Members.{logs_of, ends_for}
use Rattle.amf_broker.specs.Slots.{own_ended}
use Rattle.amf_broker.proofs.roster.end_members.Given as goal

abbrev pub invariant-loop-member : goal.invariant-loop-member
invariant-loop-member l = l.places ≡ map (own_ended (ends_for (λ sub. list_any (λ id. id == sub) l.ended.subs.items) (take l.member-index l.members)) l.number l.next (λ sub. list_any (λ id. id == sub) l.ended.subs.items) (logs_of l.logs)) l.initial.places
