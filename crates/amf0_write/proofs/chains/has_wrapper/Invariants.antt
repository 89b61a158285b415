use Rattle.std.proofs.Common.{◌≡◌, ℕ, ◌<◌, false}
use Rattle.amf_graph.specs.Graph.{node_at}
use Rattle.amf_graph.specs.Rooted.{content}
use Rattle.amf0_spelling.specs.Lowered.{is_wrapper}
use Rattle.amf0_write.proofs.chains.has_wrapper.Given as goal

abbrev pub invariant-loop-number : goal.invariant-loop-number
invariant-loop-number l = (i : ℕ) → i < l.number → is_wrapper (node_at (content l.graph) i).head ≡ false
