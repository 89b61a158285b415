-- Nothing is seen of messages that go.
use Rattle.amf_broker.proofs.Trims.{lined-trimmed, floor-lined-trimmed}
use Rattle.amf_broker.proofs.lines.Lines.trim.Goals as goal

pub invariant_of-self : goal.invariant_of-self
invariant_of-self c = let t = c.trim.ensures.logs in rw (c.trim.ensures.places, t.is) (lined-trimmed _ _ _ _ _ c.self.invariant c.args.at t.was t.line t.within t.trimmed)

pub returns : goal.returns
returns c = let t = c.trim.ensures.logs in rw (← c.self.view_is, c.trim.ensures.places, t.is) (floor-lined-trimmed _ _ _ _ _ c.self.invariant c.args.at t.was t.line t.within t.trimmed)
