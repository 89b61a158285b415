-- Nothing is seen of slots that are given up.
use Rattle.std.proofs.Common.{refl}
use Rattle.amf_broker.proofs.lines.Lines.tidy.Goals as goal

pub invariant_of-self-2 : goal.invariant_of-self-2
invariant_of-self-2 c = rw c.tidy.ensures c.self.invariant

pub returns : goal.returns
returns c = rw (← c.self.view_is, c.tidy.ensures) refl
