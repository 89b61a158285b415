use Rattle.std.proofs.Common.{◌≡◌, length, take}
use Rattle.amf_service.proofs.MadeArrays.{partly}
use Rattle.amf_service_tests.proofs.service_tests.add_array.Given as goal

abbrev pub invariant-loop-item : goal.invariant-loop-item
invariant-loop-item l = record {
  node : l.node.0 ≡ length l.fn.builder.nodes;
  builder : l.builder ≡ partly l.fn.builder (take l.item-index l.items);
}
