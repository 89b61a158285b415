-- Whole numbers below 2^53 in size as the bits of 64-bit doubles (IEEE 754, 3.4, binary64; AMF 3, 3.7; AMF 0, 2.2).
use Rattle.std.specs.Prelude.{◌≡◌, ℕ, zero, suc, ◌+◌, ◌-◌, ◌*◌, ◌^◌, ◌<◌, ◌≤◌, ℤ, pos, negsuc}

-- the value of an exponent and a fraction, which is 2^52 and the fraction divided by 2^(1075 - exponent), is this whole number
pub record IsSize (exponent fraction size : ℕ) : Type 0 where
  pub whole : exponent ≤ 1075
  pub value : size * 2 ^ (1075 - exponent) ≡ 4503599627370496 + fraction

-- the bits of a whole number that is not 0: sign, exponent and fraction
pub record HasParts (pattern sign size : ℕ) : Type 0 where
  pub exponent : ℕ
  pub fraction : ℕ
  pub in_bits : fraction < 4503599627370496
  pub pattern_is : pattern ≡ 9223372036854775808 * sign + 4503599627370496 * exponent + fraction
  pub size_is : IsSize exponent fraction size

-- minus zero is the pattern of no whole number
abbrev pub IsPatternOf : ℕ → ℤ → Type 0
IsPatternOf pattern (pos zero) = pattern ≡ 0
IsPatternOf pattern (pos (suc n)) = HasParts pattern 0 (suc n)
IsPatternOf pattern (negsuc n) = HasParts pattern 1 (suc n)

-- below 2^53 in size
abbrev pub HasPattern : ℤ → Type 0
HasPattern (pos n) = n < 9007199254740992
HasPattern (negsuc n) = suc n < 9007199254740992

-- whole numbers and their patterns name one another
pub record PatternsAreInverse : Type 0 where
  pub one_pattern : (n : ℤ) (p q : ℕ) → IsPatternOf p n → IsPatternOf q n → p ≡ q
  pub one_number : (p : ℕ) (m n : ℤ) → IsPatternOf p m → IsPatternOf p n → m ≡ n
  pub below : (p : ℕ) (n : ℤ) → IsPatternOf p n → HasPattern n
