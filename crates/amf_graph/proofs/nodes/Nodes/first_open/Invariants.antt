use Rattle.std.proofs.Common.{ℕ, ◌<◌}
use Rattle.amf_graph.specs.NodeRows.{IsClosedAt}
use Rattle.amf_graph.proofs.nodes.Nodes.first_open.Given as goal

abbrev pub invariant-loop-place : goal.invariant-loop-place
invariant-loop-place l = (k : ℕ) → k < l.place → IsClosedAt l.self k
