use Rattle.std.proofs.Common.{◌≡◌, ◌≤◌, [], ◌++◌, length}
use Rattle.amf_graph.specs.Rooted.{content}
use Rattle.amf_graph.specs.Views.{flat}
use Rattle.amf3_spelling.specs.ByteSpelling.{values_then}
use Rattle.amf_iso.specs.Contents.{values_of, AreValues}
use Rattle.amf3_write.specs.Unwritten.{segments_left}
use Rattle.amf3_write.specs.Writes.{Leads, Keeps, IsReady}
use Rattle.amf3_write.proofs.output.Output.entries.Given as goal

abbrev pub invariant-loop-entry : goal.invariant-loop-entry
invariant-loop-entry l = record {
  leads : Leads (content l.graph) (values_then (values_of l.graph.arena (flat l.entries)) [] ++ segments_left l.graph.arena l.initial.waiting.items) (values_then (values_of l.graph.arena (flat l.left)) [] ++ segments_left l.graph.arena l.initial.waiting.items) l.initial.self l.self;
  names : AreValues l.graph.arena (flat l.left);
  stack : l.waiting.items ≡ l.initial.waiting.items;
  few : length l.left ≤ length l.entries;
  ready : IsReady l.graph.arena l.self.tables l.self.known;
  keeps : Keeps l.initial.self l.self;
}

abbrev pub decreases-loop-entry : goal.decreases-loop-entry
decreases-loop-entry l = length l.left
