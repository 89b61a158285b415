-- No live place of the topic so far is before it.
use Rattle.std.proofs.Common.{◌≡◌, true, not, take}
use Rattle.std.specs.Prelude.{◌||◌, nat_le}
use Rattle.std.specs.List.{list_all}
use Rattle.amf_broker.specs.Lines.{is_reached_by}
use Rattle.amf_broker.specs.Slots.{passes_at}
use Rattle.amf_broker.proofs.trim.first_of.Given as goal

abbrev pub invariant-loop-at : goal.invariant-loop-at
invariant-loop-at l = list_all (passes_at (λ u. not (is_reached_by l.topic u) || nat_le l.first u.start) l.slots) (take l.at-index l.spots) ≡ true
