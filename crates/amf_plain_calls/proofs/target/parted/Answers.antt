use Rattle.std.proofs.Common.{arith}
use Rattle.amf_plain_calls.proofs.Dots.{parted_none, parted_some}
use Rattle.amf_plain_calls.proofs.target.parted.Goals as goal

pub returns-then-last-eq46-clause-some : goal.returns-then-last-eq46-clause-some
returns-then-last-eq46-clause-some c = parted_some c.loop-front.front.now c.args.bytes.now c.loop-front.invariant (omega arith) c.if-last-eq46.true

pub returns-clause-none : goal.returns-clause-none
returns-clause-none c e = parted_none c.loop-front.front.now c.args.bytes.now c.loop-front.invariant (omega arith)
