-- What was passed so far.
use Rattle.std.proofs.Common.{◌-◌, length}
use Rattle.amf_text_read.specs.Modes.{mode_of}
use Rattle.amf_text_read.proofs.Passing.{HasPassed}
use Rattle.amf_text_read.proofs.place.lexeme_from.Given as goal

abbrev pub invariant-loop-at : goal.invariant-loop-at
invariant-loop-at l = HasPassed l.text (mode_of l.fn.mode) l.from (mode_of l.mode) l.at

abbrev pub decreases-loop-at : goal.decreases-loop-at
decreases-loop-at l = length l.text - l.at
