-- Whole numbers below 2^53 in size and their bits as doubles, as functions (IEEE 754, 3.4, binary64; AMF 3, 3.7).
use Rattle.std.specs.Prelude.{◌≡◌, ℕ, ◌+◌, ◌-◌, ◌*◌, ◌/◌, ◌%◌, ◌^◌, ◌<◌, Bool, nat_le, ◌==◌, ◌&&◌, if◌then◌else◌, zero, suc, ℤ, pos, negsuc, Option, Some, None}
use Rattle.std.specs.Int.Count.{count_leading_zeros}
use Rattle.amf_wire.specs.Whole.{IsPatternOf, HasPattern}

-- the size of an exponent and a fraction, if it is a whole number: the fraction with its leading 1, moved by the exponent
abbrev pub size_of : ℕ → ℕ → Option ℕ
size_of exponent fraction =
    if nat_le 1023 exponent && (nat_le exponent 1075 && (4503599627370496 + fraction) % 2 ^ (1075 - exponent) == 0)
    then Some ((4503599627370496 + fraction) / 2 ^ (1075 - exponent)) else None

-- a size below zero
abbrev pub below_zero : ℕ → ℤ
below_zero zero = pos 0
below_zero (suc n) = negsuc n

abbrev pub signed : Bool → Option ℕ → Option ℤ
signed negative None = None
signed negative (Some n) = Some (if negative then below_zero n else pos n)

-- the whole number that a double is, if it is one; minus zero is none
abbrev pub whole_of : ℕ → Option ℤ
whole_of p = if p == 0 then Some (pos 0) else signed (nat_le 9223372036854775808 p) (size_of (p / 4503599627370496 % 2048) (p % 4503599627370496))

-- the double of a number below 2^53: moved until it has 53 bits
abbrev pub shift_of : ℕ → ℕ
shift_of n = count_leading_zeros 64 n - 11

abbrev pub pattern_of : ℕ → ℕ
pattern_of zero = 0
pattern_of (suc n) = (1075 - shift_of (suc n)) * 4503599627370496 + (suc n * 2 ^ shift_of (suc n) - 4503599627370496)

-- of one below zero, with the bit of the sign
abbrev pub signed_pattern : ℤ → ℕ
signed_pattern (pos n) = pattern_of n
signed_pattern (negsuc n) = 9223372036854775808 + pattern_of (suc n)

-- they say what IsPatternOf says
pub record WholeNumbers : Type 0 where
  pub whole : (p : ℕ) (n : ℤ) → p < 2 ^ 64 → IsPatternOf p n → whole_of p ≡ Some n
  pub is_whole : (p : ℕ) (n : ℤ) → p < 2 ^ 64 → whole_of p ≡ Some n → IsPatternOf p n
  pub pattern : (n : ℤ) → HasPattern n → IsPatternOf (signed_pattern n) n
