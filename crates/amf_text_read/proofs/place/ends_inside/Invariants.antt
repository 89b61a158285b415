-- What is left of the text leads to the same mode.
use Rattle.std.proofs.Common.{◌≡◌, drop}
use Rattle.json.specs.Lex.{between}
use Rattle.amf_text.specs.Scan.{mode_after}
use Rattle.amf_text_read.specs.Modes.{mode_of}
use Rattle.amf_text_read.proofs.place.ends_inside.Given as goal

abbrev pub invariant-loop-byte : goal.invariant-loop-byte
invariant-loop-byte l = mode_after (mode_of l.mode) (drop l.byte-index l.text) ≡ mode_after between l.text
