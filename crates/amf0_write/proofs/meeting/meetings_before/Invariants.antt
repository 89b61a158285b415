use Rattle.std.proofs.Common.{◌≡◌, ℕ, length, slice_get, take, Some}
use Rattle.amf_graph.specs.Renumbered.{numbers_of}
use Rattle.amf0_write.specs.declared.meeting.Meeting.{Meeting}
use Rattle.amf0_write.specs.Searched.{WasMet, AreTold}
use Rattle.amf0_write.proofs.meeting.meetings_before.Given as goal

abbrev pub invariant-loop-number : goal.invariant-loop-number
invariant-loop-number l = record {
  told : (i : ℕ) (m : Meeting) → slice_get l.meetings.items i ≡ Some m → WasMet l.tables l.count i m;
  size : length l.meetings.items ≡ l.number;
}

abbrev pub invariant-loop-node : goal.invariant-loop-node
invariant-loop-node l = record {
  told : AreTold l.tables l.count (numbers_of (take l.node-index l.loose)) l.meetings.items;
  size : length l.meetings.items ≡ length l.graph.arena.nodes;
}
