use Rattle.std.proofs.Common.{ℕ, ◌+◌, ◌-◌, List, length}
use Rattle.amf_tables.specs.NodePlaces.{ArePlacesOf}
use Rattle.amf_tables.proofs.node_table.make_room.Given as goal

abbrev pub invariant-loop-places : goal.invariant-loop-places
invariant-loop-places l = (own : ℕ) (nodes : List ℕ) → ArePlacesOf own nodes l.initial.places.items → ArePlacesOf own nodes l.places.items

abbrev pub decreases-loop-places : goal.decreases-loop-places
decreases-loop-places l = l.index + 1 - length l.places.items
