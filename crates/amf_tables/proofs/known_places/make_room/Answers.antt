use Rattle.std.proofs.Common.{◌≡◌, slice_get, Some, sym, subst}
use Rattle.amf_tables.specs.KnownPlaces.{HasPlace}
use Rattle.amf_tables.proofs.KnownPlaces.{room_knows, room_keeps}
use Rattle.amf_tables.proofs.known_places.make_room.Goals as goal

pub loop-places-preserved : goal.loop-places-preserved
loop-places-preserved c = (
  λ i k e there. c.loop-places.invariant.0 i k (room_knows c.loop-places.places.items i k (subst (λ w. slice_get w i ≡ Some k) c.in_ok-push.ensures.items e) there) there,
  λ i p. subst (λ w. HasPlace w i) (sym c.in_ok-push.ensures.items) (room_keeps c.loop-places.places.items i (c.loop-places.invariant.1 i p)),
)

pub returns-in_err-push-clause-keeps : goal.returns-in_err-push-clause-keeps
returns-in_err-push-clause-keeps c = λ i p. subst (λ w. HasPlace w i) (sym c.in_err-push.ensures.items) (c.loop-places.invariant.1 i p)
