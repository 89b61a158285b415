use Rattle.std.proofs.Common.{◌++◌, take}
use Rattle.amf_graph.specs.Rooted.{content}
use Rattle.amf_iso.specs.Contents.{values_of}
use Rattle.amf_text.specs.Texts.{all_met}
use Rattle.amf_text_write.specs.Counts.{AreCounts}
use Rattle.amf_text_write.proofs.meetings.count_meetings.Given as goal

abbrev pub invariant-loop-number : goal.invariant-loop-number
invariant-loop-number l = AreCounts l.numbering (all_met (content l.graph) (take l.number l.numbering)) l.counts.items

abbrev pub invariant-loop-value : goal.invariant-loop-value
invariant-loop-value l = AreCounts l.numbering (all_met (content l.graph) (take l.number l.numbering) ++ values_of l.graph.arena (take l.value-index l.value-items)) l.counts.items
