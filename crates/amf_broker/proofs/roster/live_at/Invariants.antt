-- The live places so far.
use Rattle.std.proofs.Common.{◌≡◌, ◌≤◌, take}
use Rattle.std.specs.Prelude.{◌==◌, ◌&&◌, count_by}
use Rattle.amf_broker.specs.Slots.{own_of}
use Rattle.amf_broker.proofs.roster.live_at.Given as goal

abbrev pub invariant-loop-at : goal.invariant-loop-at
invariant-loop-at l = (l.count ≡ count_by (λ u. u.live && u.client == l.client) (own_of l.client l.slots (take l.at-index l.spots))) × (l.count ≤ l.at-index)
