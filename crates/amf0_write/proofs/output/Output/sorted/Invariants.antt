use Rattle.std.proofs.Common.{◌≡◌, ◌≤◌, ◌++◌, length, reverse}
use Rattle.std.specs.List.{AllByRecursion}
use Rattle.amf_graph.specs.Rooted.{content}
use Rattle.amf_iso.specs.Contents.{pairs_of}
use Rattle.amf0_write.specs.Unwritten0.{IsMetPair, segments_left}
use Rattle.amf0_write.specs.Writes0.{pairs_then, Still, Leads, Keeps}
use Rattle.amf0_write.proofs.output.Output.sorted.Given as goal

abbrev pub invariant-loop-name : goal.invariant-loop-name
invariant-loop-name l = record {
  leads : Leads (content l.graph) (pairs_then (pairs_of l.graph.arena (reverse l.fn.pairs.items)) ++ segments_left l.graph.arena l.initial.waiting.items) (pairs_then (pairs_of l.graph.arena (reverse l.pairs.items)) ++ segments_left l.graph.arena l.initial.waiting.items) l.initial.self l.self;
  met : AllByRecursion (IsMetPair l.graph) l.pairs.items;
  stack : l.waiting.items ≡ l.initial.waiting.items;
  few : length l.pairs.items ≤ length l.fn.pairs.items;
  still : Still l.initial.self l.self;
  keeps : Keeps l.initial.self l.self;
}

abbrev pub decreases-loop-name : goal.decreases-loop-name
decreases-loop-name l = length l.pairs.items
