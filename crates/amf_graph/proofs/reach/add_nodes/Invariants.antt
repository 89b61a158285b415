use Rattle.std.proofs.Common.{◌≡◌, take}
use Rattle.amf_graph.specs.Gather.{placed, with_nodes}
use Rattle.amf_graph.proofs.reach.add_nodes.Given as goal

abbrev pub invariant-loop-value : goal.invariant-loop-value
invariant-loop-value l = l.nodes ≡ placed l.initial.nodes.count (with_nodes (take l.value-index l.values) l.initial.nodes.items)
