use Rattle.std.proofs.Common.{◌≡◌, take, length}
use Rattle.amf_graph.specs.Renumbered.{numbers_of}
use Rattle.amf3_write.specs.Found.{AreSeen}
use Rattle.amf3_write.proofs.first_lack.marks.Given as goal

abbrev pub invariant-loop-node : goal.invariant-loop-node
invariant-loop-node l = record {
  marked : AreSeen (numbers_of (take l.node-index l.met)) l.seen.items;
  room : length l.seen.items ≡ length l.graph.arena.nodes;
}
