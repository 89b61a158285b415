-- Whole numbers and their doubles in the range of sums.
use Rattle.std.proofs.Common.{◌≡◌, nat_lt, true, false, ℤ, pos, negsuc, Option, Some, None, subst, arith}
use lib.Signed.{le_z}
use Rattle.std.proofs.lemmas.Int.{ints}
use Rattle.std.specs.Prelude.{IfSome}
use Rattle.amf_wire.specs.declared.pattern.Pattern.{Pattern}
use Rattle.amf_wire.specs.Whole.{IsPatternOf, HasPattern}
use Rattle.amf_wire.specs.WholeNumbers.{signed_pattern}
use Rattle.amf_wire.proofs.Doubles.{inverse}
use Rattle.amf_wire.proofs.WholeNumbers.{pattern_is}
use Rattle.amf_service.specs.Shipped.{size_of as magnitude}

pub has_pattern : (n : ℤ) → le_z n (negsuc 9007199254740991) ≡ false → le_z (pos 9007199254740992) n ≡ false → HasPattern n
has_pattern (pos n) h k = grind (arith, ints)
has_pattern (negsuc n) h k = grind (arith, ints)

small : (n : ℤ) → HasPattern n → nat_lt (magnitude n) 9007199254740992 ≡ true
small (pos n) h = grind arith
small (negsuc n) h = grind arith

-- the pattern of a whole number that has one
pub patterned : (n m : ℤ) (o : Option Pattern) → HasPattern n → IfSome o (λ p. IsPatternOf p.0 m) → m ≡ n → IfSome o (λ p. (nat_lt (magnitude n) 9007199254740992 ≡ true) × (p.0 ≡ signed_pattern n))
patterned n m (Some p) l s e = (small n l, inverse.one_pattern n p.0 (signed_pattern n) (subst (IsPatternOf p.0) e s) (pattern_is n l))
patterned n m None l s e = s
