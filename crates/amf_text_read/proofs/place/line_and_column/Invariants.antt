-- The position of what was passed so far.
use Rattle.std.proofs.Common.{◌≡◌, ◌≤◌, ◌+◌}
use Rattle.amf_text.specs.Refused.{position_of}
use Rattle.amf_text_read.proofs.place.line_and_column.Given as goal

abbrev pub invariant-loop-byte : goal.invariant-loop-byte
invariant-loop-byte l = record {
  line : l.line ≡ (position_of l.byte-items l.byte-index).line;
  column : l.column ≡ (position_of l.byte-items l.byte-index).column;
  few_lines : l.line ≤ l.byte-index + 1;
  few_columns : l.column ≤ l.byte-index + 1;
}
