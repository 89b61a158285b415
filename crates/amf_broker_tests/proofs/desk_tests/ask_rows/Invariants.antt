-- Both passes are of the desk, and the second keeps its number.
use Rattle.std.proofs.Common.{◌≡◌}
use Rattle.amf_broker_tests.proofs.desk_tests.ask_rows.Given as goal

abbrev pub invariant-loop-row : goal.invariant-loop-row
invariant-loop-row g l = (l.first.desk ≡ l.desk) × (l.second.desk ≡ l.desk) × (l.second.number ≡ l.initial.second.number)
