use Rattle.std.proofs.Common.{◌+◌, ◌*◌, [], ◌∷◌, length}
use Rattle.amf_graph.specs.Arena.{value_content}
use Rattle.amf_graph.specs.Rooted.{content}
use Rattle.amf_graph.proofs.Counting.{missing}
use Rattle.amf_iso.specs.Remembered.{AreInOrder}
use Rattle.amf0_write.specs.Unwritten0.{AreRunsOf, segments_left, turns_left}
use Rattle.amf0_write.specs.Writes0.{done_of, value, Leads, Keeps}
use Rattle.amf0_write.proofs.output.Output.value.Given as goal

abbrev pub invariant-loop-top : goal.invariant-loop-top
invariant-loop-top l = record {
  leads : Leads (content l.graph) (value (value_content l.graph.arena l.fn.value) ∷ []) (segments_left l.graph.arena l.waiting.items) l.initial.self l.self;
  runs : AreRunsOf l.graph l.waiting.items;
  order : AreInOrder l.graph.arena l.rooms.order;
  keeps : Keeps l.initial.self l.self;
}

abbrev pub decreases-loop-top : goal.decreases-loop-top
decreases-loop-top l = missing (length l.graph.arena.nodes) (done_of l.self) * 1073741824 + turns_left l.waiting.items
