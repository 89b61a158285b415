-- Each whole number below 2^53 in size has the bits of a double.
use Rattle.std.proofs.Common.{ℕ, zero, suc, ◌+◌, ◌-◌, ◌<◌, ℤ, pos, negsuc, refl, arith}
use Rattle.std.specs.Int.Count.{count_leading_zeros}
use Rattle.amf_wire.specs.Whole.{HasParts, IsPatternOf, HasPattern}
use Rattle.amf_wire.specs.Integer.{IsInteger}
use Rattle.amf_wire.proofs.Doubles.{scaled, scaled_parts}

parts_of : (size : ℕ) → 0 < size → size < 9007199254740992 → (p : ℕ) × HasParts p 0 size
parts_of size l m = (_, scaled_parts size (count_leading_zeros 64 size - 11) (scaled size l m))

with_sign : (size p : ℕ) → HasParts p 0 size → HasParts (9223372036854775808 + p) 1 size
with_sign size p h = let e = h.pattern_is in record {
  exponent = h.exponent;
  fraction = h.fraction;
  in_bits = h.in_bits;
  pattern_is = omega (arith, e);
  size_is = h.size_is;
}

some_pattern : (n : ℤ) → HasPattern n → (p : ℕ) × IsPatternOf p n
some_pattern (pos zero) h = (0, refl)
some_pattern (pos (suc n)) h = parts_of (suc n) (omega arith) h
some_pattern (negsuc n) h = let o = parts_of (suc n) (omega arith) h in (9223372036854775808 + o.0, with_sign (suc n) o.0 o.1)

pub pattern_exists : (n : ℤ) → IsInteger n → (p : ℕ) × IsPatternOf p n
pattern_exists (pos n) h = some_pattern (pos n) (omega (arith, h))
pattern_exists (negsuc n) h = some_pattern (negsuc n) (omega (arith, h))

parts_fit : (p sign size : ℕ) → sign < 2 → HasParts p sign size → p < 18446744073709551616
parts_fit p sign size s x = let a = x.size_is.whole in let b = x.in_bits in let c = x.pattern_is in omega (arith, s, a, b, c)

-- and the bits are 64
pub pattern_fits : (n : ℤ) (p : ℕ) → IsPatternOf p n → p < 18446744073709551616
pattern_fits (pos zero) p x = omega (arith, x)
pattern_fits (pos (suc n)) p x = parts_fit p 0 (suc n) (omega arith) x
pattern_fits (negsuc n) p x = parts_fit p 1 (suc n) (omega arith) x
