-- The message has come to the members so far, and there is room for what may still end.
use Rattle.std.proofs.Common.{◌≡◌, ◌≤◌, take, vec_capacity}
use Rattle.amf_broker.specs.Members.{waiters_after, ended_after}
use Rattle.amf_broker.proofs.member.hand_round.Given as goal

abbrev pub invariant-loop-member : goal.invariant-loop-member
invariant-loop-member l = record {
  clients : l.clients ≡ waiters_after (take l.member-index l.initial.members) l.initial.clients;
  ended : l.ended.items ≡ ended_after (take l.member-index l.initial.members) l.initial.clients;
  room : vec_capacity l.initial.ended ≤ vec_capacity l.ended;
  same : l.members ≡ l.initial.members;
}
