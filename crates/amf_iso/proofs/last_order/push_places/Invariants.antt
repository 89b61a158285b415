use Rattle.std.proofs.Common.{◌≡◌, take}
use Rattle.amf_iso.specs.Remembered.{ids_of, placed}
use Rattle.amf_iso.proofs.last_order.push_places.Given as goal

abbrev pub invariant-loop-place : goal.invariant-loop-place
invariant-loop-place l = l.places.items ≡ placed 0 (take l.place (ids_of l.pairs))
