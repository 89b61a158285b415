-- Numbers that are written read back.
use Rattle.std.specs.Prelude.{◌≡◌, ℕ, ◌<◌, ◌^◌, ℤ, Some}
use Rattle.std.specs.Fmt.{signed_decimal}
use Rattle.amf_wire.specs.WholeNumbers.{whole_of}
use Rattle.amf_text.specs.Scalars.{read_number, Digits, AreDigits}

pub record NumberLaws : Type 0 where
  -- a whole number below 2^53 reads, by its decimal digits, as its pattern
  pub whole : (p : ℕ) (n : ℤ) → p < 2 ^ 64 → whole_of p ≡ Some n → read_number (signed_decimal n) ≡ Some p

-- there are digits for all others
abbrev pub DigitsExist : Type 0
DigitsExist = (digits : Digits) × AreDigits digits
