use Rattle.std.proofs.Common.{◌≡◌, ◌+◌, ◌*◌, ◌≤◌, length}
use Rattle.amf_graph.specs.Rooted.{content}
use Rattle.amf_graph.specs.Renumbered.{numbers_of}
use Rattle.amf_graph.proofs.Counting.{missing}
use Rattle.amf_iso.specs.Numbers.{AreNumbers}
use Rattle.amf_iso.specs.Remembered.{AreInOrder}
use Rattle.amf_iso.proofs.Steps.{Leads, AreNodes}
use Rattle.amf_iso.proofs.numbering.Numbering.of.Given as goal

abbrev pub invariant-loop-node : goal.invariant-loop-node
invariant-loop-node l = record {
  numbered : AreNumbers (numbers_of l.nodes.items) l.numbers.items;
  room : length l.numbers.items ≡ length l.graph.arena.nodes;
  tally : length (numbers_of l.nodes.items) + missing (length l.graph.arena.nodes) (numbers_of l.nodes.items) ≤ length l.graph.arena.nodes;
  waits : AreNodes l.graph.arena (numbers_of l.waiting.items);
  order : AreInOrder l.graph.arena l.order;
  walk : Leads (content l.graph) (numbers_of l.nodes.items) (numbers_of l.waiting.items);
}

abbrev pub decreases-loop-node : goal.decreases-loop-node
decreases-loop-node l = missing (length l.graph.arena.nodes) (numbers_of l.nodes.items) * 536870912 + length l.waiting.items
