use Rattle.std.proofs.Common.{◌≡◌}
use Rattle.amf_delivery_tests.proofs.gateway.answers.Given as goal

abbrev pub invariant-loop-link : goal.invariant-loop-link
invariant-loop-link g l = l.pass.desk ≡ l.desk-inside.table.shared.table_id
