-- The bytes so far are a text.
use Rattle.std.proofs.Common.{◌-◌, ◌≤◌, length, take}
use Rattle.amf_wire.specs.Text.{IsText}
use Rattle.amf_wire.proofs.text.first_bad.Given as goal

abbrev pub invariant-loop-at : goal.invariant-loop-at
invariant-loop-at l = record { within : l.at ≤ length l.bytes; front : IsText (take l.at l.bytes) }

abbrev pub decreases-loop-at : goal.decreases-loop-at
decreases-loop-at l = length l.bytes - l.at
