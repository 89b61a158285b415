-- The clients have left the lines.
use Rattle.amf_broker.proofs.Gone.{lined-gone, floor-gone}
use Rattle.amf_broker.proofs.lines.Lines.leave.Goals as goal

pub leave-requires-clause-listed : goal.leave-requires-clause-listed
leave-requires-clause-listed c = c.self.invariant.listed

pub leave-requires-clause-apart : goal.leave-requires-clause-apart
leave-requires-clause-apart c = c.self.invariant.apart

pub leave-requires-clause-rise : goal.leave-requires-clause-rise
leave-requires-clause-rise c = c.self.invariant.kept.rise

pub invariant_of-self : goal.invariant_of-self
invariant_of-self c = rw (c.leave.ensures.clients, c.leave.ensures.places, c.leave.ensures.logs) (lined-gone _ _ _ _ _ c.self.invariant c.args.left.now)

pub returns : goal.returns
returns c = rw (← c.self.view_is, c.leave.ensures.clients, c.leave.ensures.places, c.leave.ensures.logs) (floor-gone _ _ _ _ _ c.self.invariant c.args.left.now)
