-- A number below 2^53 in size has one pattern.
use Rattle.std.proofs.Common.{◌≡◌, false, negsuc, pos, subst, arith}
use lib.Signed.{le_z}
use Rattle.std.specs.Int.{w128}
use Rattle.std.proofs.lemmas.Int.{ints, to_z-of_z}
use Rattle.amf_service.proofs.WholeNumbers.{has_pattern, patterned}
use Rattle.amf_service.proofs.number.double_of.Goals as goal

pub returns-clause-some : goal.returns-clause-some
returns-clause-some c =
    let same = to_z-of_z w128 c.args.n c.ranges.n in
    let least = subst (λ z. le_z z (negsuc 9007199254740991) ≡ false) same c.if-n-leminus9007199254740992.false in
    let most = subst (λ z. le_z (pos 9007199254740992) z ≡ false) same c.if-n-ge9007199254740992.false in
    patterned c.args.n _ c.pattern_of.result (has_pattern c.args.n least most) c.pattern_of.ensures.some (omega (arith, ints))
