-- Those that were read fit.
use Rattle.std.proofs.Common.{ℕ, ◌<◌, get_or}
use Rattle.amf_graph.specs.Graph.{IsPattern}
use Rattle.amf_graph.proofs.ranges.patterns_fit.Given as goal

abbrev pub invariant-loop-pattern : goal.invariant-loop-pattern
invariant-loop-pattern l = (k : ℕ) → k < l.pattern-index → IsPattern (get_or l.patterns k (record { 0 = 0 })).0
