use Rattle.std.proofs.Common.{◌≡◌, ◌≤◌, ◌++◌, length, reverse}
use Rattle.std.specs.List.{AllByRecursion}
use Rattle.amf_graph.specs.Rooted.{content}
use Rattle.amf_iso.specs.Contents.{values_of}
use Rattle.amf0_write.specs.Unwritten0.{IsMetValue, segments_left}
use Rattle.amf0_write.specs.Writes0.{values_then, Still, Leads, Keeps}
use Rattle.amf0_write.proofs.output.Output.made.Given as goal

abbrev pub invariant-loop-value : goal.invariant-loop-value
invariant-loop-value l = record {
  leads : Leads (content l.graph) (values_then (values_of l.graph.arena (reverse l.fn.values.items)) ++ segments_left l.graph.arena l.initial.waiting.items) (values_then (values_of l.graph.arena (reverse l.values.items)) ++ segments_left l.graph.arena l.initial.waiting.items) l.initial.self l.self;
  met : AllByRecursion (IsMetValue l.graph) l.values.items;
  stack : l.waiting.items ≡ l.initial.waiting.items;
  few : length l.values.items ≤ length l.fn.values.items;
  still : Still l.initial.self l.self;
  keeps : Keeps l.initial.self l.self;
}

abbrev pub decreases-loop-value : goal.decreases-loop-value
decreases-loop-value l = length l.values.items
