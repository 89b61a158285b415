use Rattle.std.proofs.Common.{◌≡◌, ◌++◌, take}
use Rattle.amf_graph.specs.Gather.{texts_of_nodes}
use Rattle.amf_graph.proofs.uses.push_texts_of_nodes.Given as goal

abbrev pub invariant-loop-place : goal.invariant-loop-place
invariant-loop-place l = l.texts.items ≡ l.fn.texts.items ++ texts_of_nodes l.graph.arena (take l.place l.nodes.items)
