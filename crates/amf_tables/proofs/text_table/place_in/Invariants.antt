-- The text stands at none of the places so far.
use Rattle.std.proofs.Common.{◌≤◌, ◌-◌, drop}
use Rattle.amf3_spelling.specs.Words3.{NoPlaceBelow}
use Rattle.amf_tables.proofs.text_table.place_in.Given as goal

abbrev pub invariant-loop-index : goal.invariant-loop-index
invariant-loop-index l = (l.moved ≤ l.index) × NoPlaceBelow (l.index - l.moved) (drop l.moved l.late) l.bytes
