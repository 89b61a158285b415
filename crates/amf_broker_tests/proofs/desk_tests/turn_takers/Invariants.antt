-- All passes are of the desk.
use Rattle.std.proofs.Common.{◌≡◌, All}
use Rattle.amf_broker_tests.proofs.desk_tests.turn_takers.Given as goal

abbrev pub invariant-loop-thread : goal.invariant-loop-thread
invariant-loop-thread g l = (l.first.desk ≡ l.desk) × (l.first.number ≡ 0) × All (λ t. t.pass.desk ≡ l.desk) l.takers.items
