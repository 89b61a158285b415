-- The pass is still of its desk, with its number.
use Rattle.std.proofs.Common.{◌≡◌}
use Rattle.amf_broker_tests.proofs.desk_tests.TurnTaker.work.Given as goal

abbrev pub invariant-loop-row : goal.invariant-loop-row
invariant-loop-row g l = (l.self.pass.desk ≡ l.initial.self.pass.desk) × (l.self.pass.number ≡ l.initial.self.pass.number)
