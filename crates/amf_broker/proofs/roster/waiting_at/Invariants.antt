-- What waits for the client's places so far.
use Rattle.std.proofs.Common.{◌≡◌, take, map}
use Rattle.amf_broker.specs.Lines.{waits}
use Rattle.amf_broker.specs.Members.{raised, logs_of}
use Rattle.amf_broker.specs.Slots.{own_of}
use Rattle.amf_broker.proofs.roster.waiting_at.Given as goal

abbrev pub invariant-loop-at : goal.invariant-loop-at
invariant-loop-at l = l.queue.items ≡ waits (logs_of l.logs) (map (raised l.next) (own_of l.client l.slots (take l.at-index l.spots))) l.client
