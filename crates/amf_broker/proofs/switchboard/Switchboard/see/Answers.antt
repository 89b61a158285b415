-- The client was seen.
use Rattle.std.proofs.Common.{refl}
use Rattle.std.specs.Prelude.{Some}
use Rattle.amf_broker.proofs.Sounds.{sound-sighted}
use Rattle.amf_broker.proofs.switchboard.Switchboard.see.Goals as goal

pub invariant_of-self : goal.invariant_of-self
invariant_of-self c = rw (c.settle.ensures, c.see.ensures) (sound-sighted _ (Some c.in-Some.client) c.self.invariant)

pub returns : goal.returns
returns c = rw (← c.self.view_is, c.in-Some.is, c.settle.ensures, c.see.ensures) refl
