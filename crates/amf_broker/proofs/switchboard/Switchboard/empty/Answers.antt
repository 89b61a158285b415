-- The client's queue is emptied.
use Rattle.std.proofs.Common.{refl}
use Rattle.amf_broker.proofs.Sounds.{sound-polled}
use Rattle.amf_broker.proofs.switchboard.Switchboard.empty.Goals as goal

pub empty-requires : goal.empty-requires
empty-requires c = rw (← c.self.view_is) at c.requires

pub invariant_of-self : goal.invariant_of-self
invariant_of-self c = rw c.empty.ensures.state (sound-polled _ c.args.client c.self.invariant)

pub returns-clause-ended : goal.returns-clause-ended
returns-clause-ended c = rw (← c.self.view_is) c.empty.ensures.ended

pub returns-clause-state : goal.returns-clause-state
returns-clause-state c = rw (← c.self.view_is, c.empty.ensures.state) refl
