use Rattle.std.proofs.Common.{◌≡◌, length, take}
use Rattle.flex_msgs.proofs.Partly.{partly_array}
use Rattle.flex_msgs.proofs.writing.add_array.Given as goal

abbrev pub invariant-loop-item : goal.invariant-loop-item
invariant-loop-item l = record {
  node : l.node.0 ≡ length l.fn.builder.nodes;
  builder : l.builder ≡ partly_array l.fn.builder (take l.item-index l.items);
}
