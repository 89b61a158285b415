use Rattle.std.proofs.Common.{◌≡◌, ◌≤◌, [], ◌++◌, length}
use Rattle.amf_graph.specs.Rooted.{content}
use Rattle.amf3_spelling.specs.ByteSpelling.{values_then}
use Rattle.amf_iso.specs.Contents.{values_of, AreValues}
use Rattle.amf3_write.specs.Unwritten.{segments_left}
use Rattle.amf3_write.specs.Writes.{Leads, Keeps, IsReady}
use Rattle.amf3_write.proofs.output.Output.values.Given as goal

abbrev pub invariant-loop-value : goal.invariant-loop-value
invariant-loop-value l = record {
  leads : Leads (content l.graph) (values_then (values_of l.graph.arena l.values) [] ++ segments_left l.graph.arena l.initial.waiting.items) (values_then (values_of l.graph.arena l.left) [] ++ segments_left l.graph.arena l.initial.waiting.items) l.initial.self l.self;
  names : AreValues l.graph.arena l.left;
  stack : l.waiting.items ≡ l.initial.waiting.items;
  few : length l.left ≤ length l.values;
  ready : IsReady l.graph.arena l.self.tables l.self.known;
  keeps : Keeps l.initial.self l.self;
}

abbrev pub decreases-loop-value : goal.decreases-loop-value
decreases-loop-value l = length l.left
