use Rattle.std.proofs.Common.{◌≡◌, ◌<◌, ℕ, false, slice_get, Some}
use Rattle.std.specs.List.{list_any}
use Rattle.amf_graph.specs.Graph.{node_at}
use Rattle.amf_graph.specs.Order.{values_met}
use Rattle.amf_graph.specs.Rooted.{content}
use Rattle.amf_sol.specs.HolderTest.{is_node}
use Rattle.amf_sol.proofs.holder.is_held.Given as goal

abbrev pub invariant-loop-number : goal.invariant-loop-number
invariant-loop-number l = (k i : ℕ) → k < l.number → slice_get l.numbering k ≡ Some i → list_any (is_node l.held.0) (values_met (node_at (content l.graph) i)) ≡ false
