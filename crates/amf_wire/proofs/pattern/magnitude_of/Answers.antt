-- The number is scaled to 53 digits.
use Rattle.std.proofs.Common.{arith}
use Rattle.amf_wire.proofs.pattern.magnitude_of.Goals as goal
use Rattle.amf_wire.proofs.Doubles.{scaled, scaled_parts}

pub overflow_sub-shift : goal.overflow_sub-shift
overflow_sub-shift c = (scaled c.args.size c.requires.some c.requires.bound).shifted

pub overflow_mul-fraction : goal.overflow_mul-fraction
overflow_mul-fraction c = rw c.power_of_two.ensures (let s = scaled c.args.size c.requires.some c.requires.bound in let l = s.from_above in omega (arith, l))

pub overflow_sub-fraction : goal.overflow_sub-fraction
overflow_sub-fraction c = rw c.power_of_two.ensures (scaled c.args.size c.requires.some c.requires.bound).from_below

pub overflow_add-result : goal.overflow_add-result
overflow_add-result c = rw c.power_of_two.ensures (let s = scaled c.args.size c.requires.some c.requires.bound in let l = s.from_above in omega (arith, l))

pub returns : goal.returns
returns c = rw c.power_of_two.ensures (scaled_parts c.args.size _ (scaled c.args.size c.requires.some c.requires.bound))
