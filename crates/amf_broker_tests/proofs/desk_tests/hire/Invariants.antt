-- All passes are of the desk, and those of the workers are not the first.
use Rattle.std.proofs.Common.{◌≡◌, ◌≢◌, All}
use Rattle.amf_broker_tests.proofs.desk_tests.hire.Given as goal

abbrev pub invariant-loop-number : goal.invariant-loop-number
invariant-loop-number g l = (l.first.desk ≡ l.desk) × (l.first.number ≡ 0) × All (λ w. (w.pass.desk ≡ l.desk) × (w.pass.number ≢ 0)) l.workers.items
