use Rattle.std.proofs.Common.{◌≡◌, ◌++◌, reverse, take}
use Rattle.amf_graph.specs.Renumbered.{numbers_of}
use Rattle.amf_graph.specs.Views.{flat}
use Rattle.amf_iso.specs.Waiting.{nodes_of}
use Rattle.amf_iso.proofs.waiting.push_entry_nodes.Given as goal

abbrev pub invariant-loop-index : goal.invariant-loop-index
invariant-loop-index l = numbers_of l.waiting.items ++ reverse (nodes_of (flat (take l.index l.entries))) ≡ numbers_of l.initial.waiting.items ++ reverse (nodes_of (flat l.entries))
