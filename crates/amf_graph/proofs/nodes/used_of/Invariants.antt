use Rattle.std.proofs.Common.{◌≡◌, ℕ, ◌<◌, ◌≤◌, get_or, None}
use Rattle.amf_graph.specs.Slots.{no_slot}
use Rattle.amf_graph.proofs.nodes.used_of.Given as goal

abbrev pub invariant-loop-used : goal.invariant-loop-used
invariant-loop-used l = (l.used ≤ l.count) × ((k : ℕ) → l.used ≤ k → k < l.count → (get_or l.slots k no_slot).owner ≡ None)

abbrev pub decreases-loop-used : goal.decreases-loop-used
decreases-loop-used l = l.used
