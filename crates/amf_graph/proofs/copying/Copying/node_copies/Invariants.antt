use Rattle.std.proofs.Common.{◌≡◌, take}
use Rattle.amf_graph.specs.Grafting.{copied_nodes}
use Rattle.amf_graph.specs.Copying.{renaming_of}
use Rattle.amf_graph.proofs.copying.Copying.node_copies.Given as goal

abbrev pub invariant-loop-place : goal.invariant-loop-place
invariant-loop-place l = l.copies ≡ copied_nodes l.graph.arena (renaming_of l.self) (take l.place l.self.nodes.items)
