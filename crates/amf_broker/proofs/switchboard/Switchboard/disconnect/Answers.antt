-- The client and its subscriptions are gone.
use Rattle.amf_broker.specs.contracts.switchboard.Switchboard.{the_view}
use Rattle.amf_broker.proofs.Sounds.{sound-disconnected}
use Rattle.amf_broker.proofs.Leavers.{one-left}
use Rattle.amf_broker.proofs.switchboard.Switchboard.disconnect.Goals as goal

pub invariant_of-self : goal.invariant_of-self
invariant_of-self c = rw (c.leave.ensures, one-left c.args.client (the_view c.self.inside)) (sound-disconnected _ c.args.client c.self.invariant)

pub returns-clause-state : goal.returns-clause-state
returns-clause-state c = rw (← c.self.view_is, c.leave.ensures) (one-left c.args.client (the_view c.self.inside))
