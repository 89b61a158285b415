-- The client's batch is kept.
use Rattle.std.proofs.Common.{refl}
use Rattle.amf_broker.proofs.Sounds.{sound-kept}
use Rattle.amf_broker.proofs.switchboard.Switchboard.keep.Goals as goal

pub keep-requires-clause-connected : goal.keep-requires-clause-connected
keep-requires-clause-connected c = rw (← c.self.view_is) at c.requires.connected

pub keep-requires-clause-queue : goal.keep-requires-clause-queue
keep-requires-clause-queue c = rw (← c.self.view_is) at c.requires.queue

pub invariant_of-self : goal.invariant_of-self
invariant_of-self c = rw c.keep.ensures (sound-kept _ c.args.client c.args.number c.self.invariant)

pub returns : goal.returns
returns c = rw (← c.self.view_is, c.keep.ensures) refl
