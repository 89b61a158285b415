-- Those that were read fit.
use Rattle.std.proofs.Common.{ℕ, ◌<◌, get_or, pos, FitsSigned}
use Rattle.std.specs.Int.{w32}
use Rattle.amf_graph.proofs.ranges.ints_fit.Given as goal

abbrev pub invariant-loop-n : goal.invariant-loop-n
invariant-loop-n l = (k : ℕ) → k < l.n-index → FitsSigned w32 (get_or l.ints k (pos 0))
