-- The clients so far have left.
use Rattle.std.proofs.Common.{◌≡◌, take}
use Rattle.amf_broker.specs.Lines.{spans_left}
use Rattle.amf_broker.specs.Members.{lines_left}
use Rattle.amf_broker.specs.Slots.{standing}
use Rattle.amf_broker.proofs.roster.part_clients.Given as goal

abbrev pub invariant-loop-client : goal.invariant-loop-client
invariant-loop-client l = record {
  places : standing l.places ≡ spans_left (take l.client-index l.left) (standing l.initial.places);
  logs : l.logs ≡ lines_left (take l.client-index l.left) l.initial.logs;
}
