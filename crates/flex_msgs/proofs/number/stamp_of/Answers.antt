-- A moment below 2^53 is its own number.
use Rattle.std.proofs.Common.{◌∙◌, arith}
use Rattle.std.proofs.lemmas.Int.{ints}
use Rattle.flex_msgs.proofs.WholeNumbers.{stamp_is}
use Rattle.flex_msgs.proofs.number.stamp_of.Goals as goal

pub returns-then-moment-lt9007199254740992-clause-stamp : goal.returns-then-moment-lt9007199254740992-clause-stamp
returns-then-moment-lt9007199254740992-clause-stamp c =
    let l = c.if-moment-lt9007199254740992.true in
    c.double_of.ensures c.args.moment (omega (arith, ints, l)) l ∙ stamp_is c.args.moment l
