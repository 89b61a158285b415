-- A number, a digit at a time.
use Rattle.std.proofs.Common.{◌≡◌, ℕ, ◌+◌, ◌-◌, ◌*◌, ◌<◌, ◌≤◌, IsTrue, List, length, take, get_or, arith}
use Rattle.std.specs.Prelude.{nat_le}
use Rattle.std.specs.List.{list_all}
use Rattle.std.specs.Int.{IsInRange}
use Rattle.std.specs.Char.{digit_value, is_ascii_digit}
use Rattle.std.specs.Str.Parse.{digits_value}
use Rattle.std.proofs.lemmas.Bool.{and_parts, leb-true}
use Rattle.std.proofs.lemmas.List.Sums.{AllPass-from_list_all}
use Rattle.std.proofs.lemmas.Int.Digits.{digits_value_more}
use Rattle.std.proofs.lemmas.Str.{digit_value_digit}
use Rattle.std.proofs.lemmas.Str.Parse.{digits_value-take-le}

-- each byte of decimal digits is a digit
pub digit_at : (xs : List ℕ) (i : ℕ) → IsTrue (list_all is_ascii_digit xs) → i < length xs → IsInRange 48 57 (get_or xs i 0)
digit_at xs i digits inside =
    let passes = AllPass-from_list_all is_ascii_digit xs digits i 0 inside in
    let bounds = and_parts (nat_le 48 (get_or xs i 0)) (nat_le (get_or xs i 0) 57) passes in
    (leb-true 48 (get_or xs i 0) bounds.0, leb-true (get_or xs i 0) 57 bounds.1)

-- a digit more
pub value_more : (xs : List ℕ) (i : ℕ) → IsTrue (list_all is_ascii_digit xs) → i < length xs → digits_value 10 (take (i + 1) xs) ≡ digits_value 10 (take i xs) * 10 + (get_or xs i 0 - 48)
value_more xs i digits inside =
    let d : digit_value (get_or xs i 0) + 48 ≡ get_or xs i 0 = digit_value_digit (get_or xs i 0) (digit_at xs i digits inside) in
    omega (arith, d, digits_value_more 10 xs i inside)

-- the first digits write no larger number than all
pub value_front : (xs : List ℕ) (i : ℕ) → digits_value 10 (take i xs) ≤ digits_value 10 xs
value_front xs i = digits_value-take-le 10 xs i (omega arith)
