-- What is left to change leads to the same slots.
use Rattle.std.proofs.Common.{◌≡◌, drop}
use Rattle.amf_broker.specs.Slots.{slot_begun, changed_at}
use Rattle.amf_broker.proofs.roster.begin_anew.Given as goal

abbrev pub invariant-loop-at : goal.invariant-loop-at
invariant-loop-at l = changed_at (slot_begun l.client l.next) (drop l.at-index l.spots) l.slots ≡ changed_at (slot_begun l.client l.next) l.spots l.initial.slots
