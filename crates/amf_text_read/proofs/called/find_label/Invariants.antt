-- What is left of the tokens has what is left to be found.
use Rattle.std.proofs.Common.{◌≡◌, [], ◌∷◌, Some, length, ◌+◌}
use Rattle.std.specs.Prelude.{slice_get}
use Rattle.amf_text.specs.Asks.{start}
use Rattle.amf_text_read.specs.Verdicts.{asked_of}
use Rattle.amf_text_read.specs.LabelNumbers.{label_numbers}
use Rattle.amf_text_read.proofs.called.find_label.Given as goal

abbrev pub invariant-loop-token : goal.invariant-loop-token
invariant-loop-token l =
    (slice_get (label_numbers l.tokens (Some (asked_of l.asked)) l.reader) l.left ≡ slice_get (label_numbers 0 (Some (start ∷ [])) l.fn.reader) l.label)
    × (l.tokens + length l.reader ≡ length l.fn.reader)

abbrev pub decreases-loop-token : goal.decreases-loop-token
decreases-loop-token l = length l.reader
