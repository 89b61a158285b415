-- What is so before each of the places that are noted.
use Rattle.std.proofs.Common.{drop}
use Rattle.amf_broker.proofs.Parts.{IsHushed}
use Rattle.amf_broker.proofs.roster.hush.Given as goal

abbrev pub invariant-loop-at : goal.invariant-loop-at
invariant-loop-at l = IsHushed l.client (drop l.at-index l.spots) l.slots l.initial.logs l.logs
