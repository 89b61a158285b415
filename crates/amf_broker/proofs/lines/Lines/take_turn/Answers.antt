-- Nothing is seen of what is to be looked through.
use Rattle.std.proofs.Common.{refl}
use Rattle.amf_broker.proofs.lines.Lines.take_turn.Goals as goal

pub invariant_of-self-2 : goal.invariant_of-self-2
invariant_of-self-2 c = rw c.call_up.ensures c.self.invariant

pub returns : goal.returns
returns c = rw (← c.self.view_is, c.call_up.ensures) refl
