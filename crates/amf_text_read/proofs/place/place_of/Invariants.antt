-- The token that is counted stands there.
use Rattle.std.proofs.Common.{◌≤◌, length}
use Rattle.amf_text.specs.Scan.{scan}
use Rattle.amf_text_read.specs.Places.{StandsAt}
use Rattle.amf_text_read.proofs.place.place_of.Given as goal

abbrev pub invariant-loop : goal.invariant-loop
invariant-loop l = l.token ≤ length (scan l.text).tokens → StandsAt l.text l.counter l.at
