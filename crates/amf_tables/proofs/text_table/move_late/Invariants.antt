-- The texts stay the same, and some of them are moved.
use Rattle.std.proofs.Common.{◌≡◌, ◌++◌, ◌-◌, length, drop}
use Rattle.amf_tables.specs.LateTexts.{AreLate}
use Rattle.amf_tables.proofs.text_table.move_late.Given as goal

abbrev pub invariant-loop-moved : goal.invariant-loop-moved
invariant-loop-moved l = (l.hashed ++ drop l.moved l.late ≡ l.initial.hashed ++ drop l.initial.moved l.late) × AreLate l.hashed l.late l.moved

abbrev pub decreases-loop-moved : goal.decreases-loop-moved
decreases-loop-moved l = length l.late - l.moved
