use Rattle.std.proofs.Common.{length}
use Rattle.amf_text_write.proofs.RowSteps.{row_test, RowsSoFar}
use Rattle.amf_text_write.proofs.table.Table.of.Given as goal

abbrev pub invariant-loop-number : goal.invariant-loop-number
invariant-loop-number l = RowsSoFar (row_test l.counts.items l.levels.items) (length l.numbering) l.number l.table.marks.items l.table.rows.items l.table.width
