-- All passes are of the desk, and those of the workers are not the first.
use Rattle.std.proofs.Common.{◌≡◌, ◌≢◌, All}
use Rattle.amf_broker_tests.proofs.desk_tests.gather.Given as goal

abbrev pub invariant-loop-worker : goal.invariant-loop-worker
invariant-loop-worker g l = (l.first.desk ≡ l.desk) × All (λ w. (w.pass.desk ≡ l.desk) × (w.pass.number ≢ 0)) l.workers.items

abbrev pub decreases-loop-worker : goal.decreases-loop-worker
decreases-loop-worker g l = goal.left-loop-worker g l
