use Rattle.std.proofs.Common.{◌≡◌, ◌≤◌, ◌-◌, length}
use Rattle.amf_graph.proofs.Gathering.{Gathered}
use Rattle.amf_graph.proofs.reach.reached.Given as goal

abbrev pub invariant-loop-next : goal.invariant-loop-next
invariant-loop-next l = record {
  count : l.nodes.count ≡ length l.graph.arena.nodes;
  within : l.next ≤ length l.nodes.items;
  gathered : Gathered l.graph.arena l.values l.nodes.items l.next;
}

abbrev pub decreases-loop-next : goal.decreases-loop-next
decreases-loop-next l = length l.graph.arena.nodes - l.next
