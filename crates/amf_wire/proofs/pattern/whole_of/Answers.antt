-- The number is the one that the function names.
use Rattle.std.proofs.Common.{◌<◌, ◌^◌, rules}
use Rattle.amf_wire.proofs.WholeNumbers.{answered, bounded}
use Rattle.amf_wire.proofs.pattern.whole_of.Goals as goal

pub returns-clause-value : goal.returns-clause-value
returns-clause-value c =
    let b : c.args.p.0 < 2 ^ 64 = search rules in
    answered c.args.p.0 c.whole_in.result b c.whole_in.ensures.some c.whole_in.ensures.none

pub returns-clause-bound : goal.returns-clause-bound
returns-clause-bound c = bounded c.args.p.0 c.whole_in.result c.whole_in.ensures.some
