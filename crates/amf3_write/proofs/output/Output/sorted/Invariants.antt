use Rattle.std.proofs.Common.{◌≡◌, ◌≤◌, [], ◌++◌, length, reverse}
use Rattle.amf_graph.specs.Rooted.{content}
use Rattle.amf3_spelling.specs.ByteSpelling.{pairs_then}
use Rattle.amf_iso.specs.Contents.{pairs_of}
use Rattle.amf3_write.specs.Unwritten.{AreStoredPairs, segments_left}
use Rattle.amf3_write.specs.Writes.{Leads, Keeps, IsReady}
use Rattle.amf3_write.proofs.output.Output.sorted.Given as goal

abbrev pub invariant-loop-name : goal.invariant-loop-name
invariant-loop-name l = record {
  leads : Leads (content l.graph) (pairs_then (pairs_of l.graph.arena (reverse l.fn.pairs.items)) [] ++ segments_left l.graph.arena l.initial.waiting.items) (pairs_then (pairs_of l.graph.arena (reverse l.pairs.items)) [] ++ segments_left l.graph.arena l.initial.waiting.items) l.initial.self l.self;
  names : AreStoredPairs l.graph.arena l.pairs.items;
  stack : l.waiting.items ≡ l.initial.waiting.items;
  few : length l.pairs.items ≤ length l.fn.pairs.items;
  ready : IsReady l.graph.arena l.self.tables l.self.known;
  keeps : Keeps l.initial.self l.self;
}

abbrev pub decreases-loop-name : goal.decreases-loop-name
decreases-loop-name l = length l.pairs.items
