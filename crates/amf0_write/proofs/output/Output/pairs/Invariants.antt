use Rattle.std.proofs.Common.{◌≡◌, ◌≤◌, ◌++◌, length}
use Rattle.std.specs.List.{AllByRecursion}
use Rattle.amf_graph.specs.Rooted.{content}
use Rattle.amf_iso.specs.Contents.{pairs_of}
use Rattle.amf0_write.specs.Unwritten0.{IsMetPair, segments_left}
use Rattle.amf0_write.specs.Writes0.{pairs_then, Still, Leads, Keeps}
use Rattle.amf0_write.proofs.output.Output.pairs.Given as goal

abbrev pub invariant-loop-pair : goal.invariant-loop-pair
invariant-loop-pair l = record {
  leads : Leads (content l.graph) (pairs_then (pairs_of l.graph.arena l.pairs) ++ segments_left l.graph.arena l.initial.waiting.items) (pairs_then (pairs_of l.graph.arena l.left) ++ segments_left l.graph.arena l.initial.waiting.items) l.initial.self l.self;
  met : AllByRecursion (IsMetPair l.graph) l.left;
  stack : l.waiting.items ≡ l.initial.waiting.items;
  few : length l.left ≤ length l.pairs;
  still : Still l.initial.self l.self;
  keeps : Keeps l.initial.self l.self;
}

abbrev pub decreases-loop-pair : goal.decreases-loop-pair
decreases-loop-pair l = length l.left
