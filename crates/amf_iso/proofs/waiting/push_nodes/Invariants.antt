use Rattle.std.proofs.Common.{◌≡◌, ◌++◌, reverse, take}
use Rattle.amf_graph.specs.Renumbered.{numbers_of}
use Rattle.amf_iso.specs.Waiting.{nodes_of}
use Rattle.amf_iso.proofs.waiting.push_nodes.Given as goal

abbrev pub invariant-loop-index : goal.invariant-loop-index
invariant-loop-index l = numbers_of l.waiting.items ++ reverse (nodes_of (take l.index l.values)) ≡ numbers_of l.initial.waiting.items ++ reverse (nodes_of l.values)
