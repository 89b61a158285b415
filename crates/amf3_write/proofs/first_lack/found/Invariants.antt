use Rattle.std.proofs.Common.{◌≡◌, ◌<◌, ◌+◌, ◌*◌, [], ◌∷◌, length}
use Rattle.std.specs.List.{AllByRecursion}
use Rattle.amf_graph.specs.Arena.{value_content}
use Rattle.amf_graph.specs.Renumbered.{numbers_of}
use Rattle.amf_graph.specs.Rooted.{content}
use Rattle.amf_graph.proofs.Counting.{missing}
use Rattle.amf_iso.specs.Contents.{AreValues}
use Rattle.amf3_write.specs.Found.{AreSeen}
use Rattle.amf3_write.proofs.FoundSteps.{stacked, met_then, Ends}
use Rattle.amf3_write.proofs.first_lack.found.Given as goal

abbrev pub invariant-loop-value : goal.invariant-loop-value
invariant-loop-value l = record {
  seen : AreSeen (met_then l.met l.found.items) l.seen.items;
  room : length l.seen.items ≡ length l.graph.arena.nodes;
  within : AllByRecursion (λ n. n.0 < length l.graph.arena.nodes) l.found.items;
  waits : AreValues l.graph.arena l.waiting.items;
  walk : Ends (content l.graph) (numbers_of l.met) (value_content l.graph.arena l.fn.value ∷ []) (met_then l.met l.found.items) (stacked l.graph.arena l.waiting.items);
}

abbrev pub decreases-loop-value : goal.decreases-loop-value
decreases-loop-value l = missing (length l.graph.arena.nodes) (met_then l.met l.found.items) * 18446744073709551616 + length l.waiting.items
