use Rattle.std.proofs.Common.{◌≡◌, ℕ, ◌≤◌, ◌+◌, ◌*◌, ◌^◌, List, [], ◌∷◌, length}
use Rattle.amf_graph.specs.Arena.{value_content}
use Rattle.amf_graph.specs.Graph.{Value}
use Rattle.amf_graph.specs.Rooted.{content}
use Rattle.amf_iso.specs.Contents.{AreValues}
use Rattle.amf0_write.specs.Searched.{Searched, unmet}
use Rattle.amf0_write.proofs.SearchStack.{stacked}
use Rattle.amf0_write.proofs.part_lack.Search.walk.Given as goal

abbrev pub invariant-loop-value : goal.invariant-loop-value
invariant-loop-value l = record {
  few : l.self.next + unmet l.self.meetings.items ≤ 2 ^ 30;
  room : length l.self.meetings.items ≡ length l.graph.arena.nodes;
  waits : AreValues l.graph.arena l.waiting.items;
  searched : (outside : ℕ) (before : List ℕ) (from : List Value) → Searched (content l.graph) outside before from l.numbering l.initial.self (value_content l.graph.arena l.fn.value ∷ []) → Searched (content l.graph) outside before from l.numbering l.self (stacked l.graph.arena l.waiting.items);
}

abbrev pub decreases-loop-value : goal.decreases-loop-value
decreases-loop-value l = unmet l.self.meetings.items * 18446744073709551616 + length l.waiting.items
