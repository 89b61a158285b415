-- The deliveries so far.
use Rattle.std.proofs.Common.{◌≡◌, take}
use Rattle.amf_broker.proofs.merge.shared.Given as goal

abbrev pub invariant-loop-delivery : goal.invariant-loop-delivery
invariant-loop-delivery l = l.all.items ≡ take l.delivery-index l.deliveries
