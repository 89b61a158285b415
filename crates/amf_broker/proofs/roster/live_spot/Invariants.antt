-- None of the places so far is the subscription's.
use Rattle.std.proofs.Common.{◌≡◌, false, take}
use Rattle.std.specs.Prelude.{◌==◌, ◌&&◌}
use Rattle.std.specs.List.{list_any}
use Rattle.amf_broker.specs.Slots.{own_of}
use Rattle.amf_broker.proofs.roster.live_spot.Given as goal

abbrev pub invariant-loop-at : goal.invariant-loop-at
invariant-loop-at l = list_any (λ u. u.live && (u.id == l.sub && u.client == l.client)) (own_of l.client l.slots (take l.at-index l.spots)) ≡ false
