use Rattle.std.proofs.Common.{◌++◌, length, take}
use Rattle.amf_graph.specs.Rooted.{content}
use Rattle.amf_iso.specs.Contents.{values_of}
use Rattle.amf0_write.specs.Meetings.{AreMet}
use Rattle.amf0_write.proofs.MeetingSteps.{met_in}
use Rattle.amf0_write.proofs.meetings.met_again.Given as goal

abbrev pub invariant-loop-number : goal.invariant-loop-number
invariant-loop-number l = AreMet (length l.graph.arena.nodes) (met_in (content l.graph) (take l.number l.numbering)) l.meetings.seen.items l.meetings.again.items

abbrev pub invariant-loop-value : goal.invariant-loop-value
invariant-loop-value l =
    AreMet (length l.graph.arena.nodes) (met_in (content l.graph) (take l.number l.numbering) ++ values_of l.graph.arena (take l.value-index l.value-items)) l.meetings.seen.items l.meetings.again.items
