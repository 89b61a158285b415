use Rattle.std.proofs.Common.{◌≡◌, ◌≤◌, [], ◌++◌, length}
use Rattle.amf_graph.specs.Rooted.{content}
use Rattle.amf3_spelling.specs.ByteSpelling.{pairs_then}
use Rattle.amf_iso.specs.Contents.{pairs_of}
use Rattle.amf3_write.specs.Unwritten.{AreStoredPairs, segments_left}
use Rattle.amf3_write.specs.Writes.{Leads, Keeps, IsReady}
use Rattle.amf3_write.proofs.output.Output.pairs.Given as goal

abbrev pub invariant-loop-pair : goal.invariant-loop-pair
invariant-loop-pair l = record {
  leads : Leads (content l.graph) (pairs_then (pairs_of l.graph.arena l.pairs) [] ++ segments_left l.graph.arena l.initial.waiting.items) (pairs_then (pairs_of l.graph.arena l.left) [] ++ segments_left l.graph.arena l.initial.waiting.items) l.initial.self l.self;
  names : AreStoredPairs l.graph.arena l.left;
  stack : l.waiting.items ≡ l.initial.waiting.items;
  few : length l.left ≤ length l.pairs;
  ready : IsReady l.graph.arena l.self.tables l.self.known;
  keeps : Keeps l.initial.self l.self;
}

abbrev pub decreases-loop-pair : goal.decreases-loop-pair
decreases-loop-pair l = length l.left
