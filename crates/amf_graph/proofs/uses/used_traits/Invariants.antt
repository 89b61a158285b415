use Rattle.std.proofs.Common.{◌≡◌, take}
use Rattle.amf_graph.specs.Gather.{traits_of_nodes}
use Rattle.amf_graph.proofs.uses.used_traits.Given as goal

abbrev pub invariant-loop-place : goal.invariant-loop-place
invariant-loop-place l = l.used.items ≡ traits_of_nodes l.graph.arena (take l.place l.nodes.items)
