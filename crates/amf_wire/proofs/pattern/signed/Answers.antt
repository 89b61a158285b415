-- A size and a sign give the whole number.
use Rattle.std.proofs.Common.{arith}
use Rattle.std.proofs.lemmas.Int.{ints}
use Rattle.amf_wire.proofs.pattern.signed.Goals as goal
use Rattle.amf_wire.proofs.Doubles.{negative_is, negative_pattern, size_below}

pub returns-else-bits-lt-SIGN : goal.returns-else-bits-lt-SIGN
returns-else-bits-lt-SIGN c =
    let l = size_below _ _ c.args.size (omega arith) c.requires in
    negative_pattern _ c.args.size _ (negative_is c.args.bits c.args.size c.ranges.bits.fits c.if-bits-lt-SIGN.false c.requires) (omega (arith, ints, l))
