-- The subscription is live no more.
use Rattle.std.proofs.Common.{refl}
use Rattle.amf_broker.proofs.Sounds.{sound-unsubscribed}
use Rattle.amf_broker.proofs.switchboard.Switchboard.unsubscribe.Goals as goal

pub invariant_of-self : goal.invariant_of-self
invariant_of-self c = rw c.unsubscribe.ensures (sound-unsubscribed _ c.args.sub c.self.invariant)

pub returns-clause-state : goal.returns-clause-state
returns-clause-state c = rw (← c.self.view_is, c.unsubscribe.ensures) refl

pub unsubscribe-requires-clause-own : goal.unsubscribe-requires-clause-own
unsubscribe-requires-clause-own c = rw (← c.self.view_is) at c.requires

pub unsubscribe-requires-clause-ordered : goal.unsubscribe-requires-clause-ordered
unsubscribe-requires-clause-ordered c = c.self.invariant.subs_ordered
