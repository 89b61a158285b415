-- Each log so far is noted.
use Rattle.std.proofs.Common.{◌≡◌, true, take}
use Rattle.amf_broker.specs.Index.{are_noted}
use Rattle.amf_broker.proofs.logs.places_of.Given as goal

abbrev pub invariant-loop-log : goal.invariant-loop-log
invariant-loop-log l = are_noted l.start l.places (take l.log-index l.logs) ≡ true
