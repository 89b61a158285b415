use Rattle.std.proofs.Common.{subst, sym}
use Rattle.amf_tables.specs.NodePlaces.{ArePlacesOf}
use Rattle.amf_tables.proofs.NodePlaces.{room_more}
use Rattle.amf_tables.proofs.node_table.make_room.Goals as goal

pub loop-places-preserved : goal.loop-places-preserved
loop-places-preserved c = λ own nodes h. subst (ArePlacesOf own nodes) (sym c.in_ok-push.ensures.items) (room_more own nodes c.loop-places.places.items (c.loop-places.invariant own nodes h))
