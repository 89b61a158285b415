use Rattle.std.proofs.Common.{◌≡◌, ◌≢◌, ℕ, ◌+◌, ◌-◌, length, slice_get, Some}
use Rattle.amf_tables.specs.KnownPlaces.{KeepPlaces}
use Rattle.amf_tables.specs.declared.known_places.TheConstants.{UNKNOWN}
use Rattle.amf_tables.proofs.known_places.make_room.Given as goal

abbrev pub invariant-loop-places : goal.invariant-loop-places
invariant-loop-places l =
    ((i k : ℕ) → slice_get l.places.items i ≡ Some k → k ≢ UNKNOWN → slice_get l.initial.places.items i ≡ Some k)
    × KeepPlaces l.initial.places.items l.places.items

abbrev pub decreases-loop-places : goal.decreases-loop-places
decreases-loop-places l = l.index + 1 - length l.places.items
