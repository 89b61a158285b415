use Rattle.std.proofs.Common.{◌≡◌, [], length, take}
use Rattle.amf_graph.specs.Views.{named}
use Rattle.flex_msgs.proofs.Partly.{partly}
use Rattle.amf_plain_calls.proofs.faults.add_members.Given as goal

abbrev pub invariant-loop-name : goal.invariant-loop-name
invariant-loop-name l = record {
  node : l.node.0 ≡ length l.fn.builder.nodes;
  builder : l.builder ≡ partly l.fn.builder l.fn.traits.0 (named (take l.name-index l.members)) [];
}
