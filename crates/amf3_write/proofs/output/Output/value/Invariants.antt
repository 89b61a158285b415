use Rattle.std.proofs.Common.{◌+◌, ◌*◌, [], ◌∷◌, length}
use Rattle.amf_graph.specs.Arena.{value_content}
use Rattle.amf_graph.specs.Rooted.{content}
use Rattle.amf_graph.proofs.Counting.{missing}
use Rattle.amf_iso.specs.Remembered.{AreInOrder}
use Rattle.amf3_spelling.specs.ByteSpelling.{value}
use Rattle.amf3_write.specs.Unwritten.{AreRunsOf, segments_left, turns_left}
use Rattle.amf3_write.specs.Writes.{Leads, Keeps, IsReady}
use Rattle.amf3_write.proofs.output.Output.value.Given as goal

abbrev pub invariant-loop-top : goal.invariant-loop-top
invariant-loop-top l = record {
  leads : Leads (content l.graph) (value (value_content l.graph.arena l.fn.value) ∷ []) (segments_left l.graph.arena l.waiting.items) l.initial.self l.self;
  runs : AreRunsOf l.graph.arena l.waiting.items;
  order : AreInOrder l.graph.arena l.order;
  ready : IsReady l.graph.arena l.self.tables l.self.known;
  keeps : Keeps l.initial.self l.self;
}

abbrev pub decreases-loop-top : goal.decreases-loop-top
decreases-loop-top l = missing (length l.graph.arena.nodes) l.self.tables.nodes * 1073741824 + turns_left l.waiting.items
