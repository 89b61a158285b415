-- Which patterns numbers read as: whole numbers below 2^53 by their decimal digits.
use Rattle.std.proofs.Common.{◌≡◌, ℕ, zero, suc, ◌+◌, ◌-◌, ◌*◌, ◌/◌, ◌%◌, ◌^◌, ◌<◌, ◌≤◌, Bool, true, false, not, ℤ, pos, negsuc, List, [], ◌++◌, length, Some, refl, sym, ap, ◌∙◌, subst, inl, inr, append-nil, arith}
use Rattle.std.specs.Prelude.{to_bits, option_and_then}
use Rattle.std.specs.Float.{Float, binary64, float_is_finite}
use Rattle.std.specs.Float.Parse.{parse_float}
use Rattle.std.specs.Fmt.{decimal, signed_decimal, sign_text}
use Rattle.std.specs.Str.Parse.{digits_value}
use Rattle.std.proofs.lemmas.Bool.{cases_lt}
use Rattle.std.proofs.lemmas.Float.Parse.{parse_float-text_of}
use Rattle.std.proofs.lemmas.Fmt.{decimal_is_IsNumeral}
use Rattle.std.specs.Float.Numeral.{Parts, IsWellFormed}
use Rattle.std.specs.Float.MulAdd.{units_of_bits}
use Rattle.amf_text.proofs.Patterns.{same_value, read, steps_low, steps_high}
use lib.Dec.{T, leb}
use lib.Pow.{pow_pos, pow-add, pow_mono, shl_lt}
use native.Mathlib.Nat.{mul_assoc, mul-one, lt_of_lt_of_le}
use lib.Ieee.{nan, inf, fin, round, of_bits, is_nan}
use lib.Ieee.Fits.{round-fits}
use lib.Ieee.Bits.{of_bits-fits, to_bits-of_bits}
use lib.Ieee.Exact.{HasValue, round_exact}
use lib.Ieee.Scale.{round_same}
use borrow.Author.Tests.{le-leb, lt-leb}
use Rattle.amf_wire.specs.Whole.{IsSize, HasParts, IsPatternOf}
use Rattle.amf_wire.proofs.Doubles.{size_few, some_size, size_below}
use Rattle.amf_wire.specs.WholeNumbers.{whole_of}
use Rattle.amf_wire.proofs.WholeNumbers.{is_whole}
use Rattle.amf_text.specs.Scalars.{finite_pattern, read_number}

-- the size of a pattern without its sign is a number of few digits, moved
pub record IsMoved (a : ℕ) : Type 0 where
  pub part : ℕ
  pub place : ℕ
  pub few : part < 2 ^ 53
  pub fine : part * 2 ^ place < 2 ^ 2098
  pub same : part * 2 ^ place ≡ a

below : (m k : ℕ) → m < 2 ^ 53 → k ≤ 2045 → m * 2 ^ k < 2 ^ 2098
below m k h l = lt_of_lt_of_le (shl_lt 53 k h) (pow_mono {i = 53 + k} {j = 2098} (omega arith))

pub moved : (b : ℕ) → b < 2047 * 2 ^ 52 → IsMoved (units_of_bits b)
moved b h = elim (cases_lt b (2 ^ 52)) [
  | inl l ↦ record { part = b; place = 0; few = omega arith; fine = below b 0 (omega arith) (omega arith); same = (let e : b * 2 ^ 0 ≡ b = omega arith in e ∙ sym (steps_low b l)) }
  | inr l ↦
      let small : 2 ^ 52 + b % 2 ^ 52 < 2 ^ 53 = omega arith in
      record { part = 2 ^ 52 + b % 2 ^ 52; place = b / 2 ^ 52 - 1; few = small; fine = below (2 ^ 52 + b % 2 ^ 52) (b / 2 ^ 52 - 1) small (omega arith); same = sym (steps_high b l) }
]

-- the double of a pattern is what its size is rounded to
pub of_units : (p : ℕ) → p % 2 ^ 63 < 2047 * 2 ^ 52 → round binary64 (leb (2 ^ 63) p) (units_of_bits (p % 2 ^ 63)) (2 ^ 1074) ≡ of_bits binary64 p
of_units p h =
    let a = units_of_bits (p % 2 ^ 63) in
    let s = leb (2 ^ 63) p in
    let m = moved (p % 2 ^ 63) h in
    same_value binary64 (round binary64 s a (2 ^ 1074)) (of_bits binary64 p) s a (round-fits binary64 s a (2 ^ 1074)) (of_bits-fits binary64 p)
    (round_exact binary64 s a (2 ^ 1074) m.part m.place (pow_pos 1074) m.few m.fine (ap (λ x. x * 2 ^ 1074) (sym m.same)))
    (read p h)

pattern_at : (x : Float) (p : ℕ) (s : Bool) (a c : ℕ) → HasValue x s a c → x ≡ of_bits binary64 p → p < 2 ^ 64 → finite_pattern x ≡ Some p
unfolding float_is_finite is_nan
pattern_at nan p s a c v e h = absurd v
pattern_at (inf t) p s a c v e h = absurd v
pattern_at (fin t m k) p s a c v e h = ap Some (ap (to_bits binary64) e ∙ to_bits-of_bits binary64 p h (subst (λ x. T (not (is_nan x))) e tt))

-- a text that is rounded from the size of a pattern reads as it
pub reads_as : (p num den : ℕ) (text : List ℕ) → p < 2 ^ 64 → p % 2 ^ 63 < 2047 * 2 ^ 52 → 0 < den → num * 2 ^ 1074 ≡ units_of_bits (p % 2 ^ 63) * den
    → parse_float binary64 text ≡ Some (round binary64 (leb (2 ^ 63) p) num den) → read_number text ≡ Some p
unfolding read_number
reads_as p num den text b h d e parsed =
    let s = leb (2 ^ 63) p in
    let is : round binary64 s num den ≡ of_bits binary64 p = round_same binary64 s num den (units_of_bits (p % 2 ^ 63)) (2 ^ 1074) d (pow_pos 1074) e ∙ of_units p h in
    ap (option_and_then finite_pattern) parsed
    ∙ pattern_at (round binary64 s num den) p s (units_of_bits (p % 2 ^ 63)) (2 ^ 1074) (subst (λ x. HasValue x s (units_of_bits (p % 2 ^ 63)) (2 ^ 1074)) (sym is) (read p h)) is b

-- the digits of a whole number with a sign
whole_parts : List ℕ → Parts
whole_parts ds = record { whole = ds; point = false; fraction = []; exponent_negative = false; exponent = []; len = length ds }

pub whole_text : (n : ℕ) (negative : Bool) → n < 2 ^ 64 → parse_float binary64 (sign_text negative ++ decimal n) ≡ Some (round binary64 negative n 1)
unfolding whole_parts
whole_text n negative h =
    let d = decimal_is_IsNumeral n h in
    let p = whole_parts (decimal n) in
    let nil : decimal n ++ [] ≡ decimal n = append-nil (decimal n) in
    let w : IsWellFormed p = record { whole_digits = d.0.1; fraction_digits = tt; exponent_digits = tt; no_point = λ e. refl; no_exponent = λ e. refl; len_is = ap length (sym nil) } in
    let value : digits_value 10 (decimal n ++ []) * 1 ≡ n = ap (λ l. digits_value 10 l * 1) nil ∙ mul-one (digits_value 10 (decimal n)) ∙ d.1 in
    ap (λ l. parse_float binary64 (sign_text negative ++ l)) (sym nil)
    ∙ parse_float-text_of binary64 negative p w d.0.0
    ∙ ap (λ x. Some (round binary64 negative x 1)) value

-- of a whole number that is not 0, by the parts of its pattern

moved_size : (size e f : ℕ) → 1023 ≤ e → IsSize e f size → size * 2 ^ 1074 ≡ (2 ^ 52 + f) * 2 ^ (e - 1) * 1
moved_size size e f l s =
    let w = s.whole in
    let k : 1074 ≡ (1075 - e) + (e - 1) = omega (arith, w, l) in
    let split : 2 ^ 1074 ≡ 2 ^ (1075 - e) * 2 ^ (e - 1) = ap (λ (j : ℕ). 2 ^ j) k ∙ pow-add 2 (1075 - e) (e - 1) in
    ap (λ (x : ℕ). size * x) split ∙ sym (mul_assoc size (2 ^ (1075 - e)) (2 ^ (e - 1))) ∙ ap (λ (x : ℕ). x * 2 ^ (e - 1)) s.value ∙ sym (mul-one ((2 ^ 52 + f) * 2 ^ (e - 1)))

parts_read : (p sign size : ℕ) (negative : Bool) → sign < 2 → leb (2 ^ 63) p ≡ negative → HasParts p sign size → read_number (sign_text negative ++ decimal size) ≡ Some p
parts_read p sign size negative two is h =
    let e = h.exponent in
    let f = h.fraction in
    let in_bits = h.in_bits in
    let pattern = h.pattern_is in
    let s = h.size_is in
    let w = s.whole in
    let l = size_few e f size (some_size e f size s) in_bits s in
    let small = size_below e f size in_bits s in
    let b : p % 2 ^ 63 ≡ 2 ^ 52 * e + f = omega (arith, in_bits, pattern, w) in
    let high : 2 ^ 52 ≤ p % 2 ^ 63 = omega (arith, b, l) in
    let one : p % 2 ^ 63 % 2 ^ 52 ≡ f = omega (arith, b, in_bits) in
    let two_is : p % 2 ^ 63 / 2 ^ 52 ≡ e = omega (arith, b, in_bits) in
    let units : units_of_bits (p % 2 ^ 63) ≡ (2 ^ 52 + f) * 2 ^ (e - 1) = steps_high (p % 2 ^ 63) high ∙ (λ i. (2 ^ 52 + one i) * 2 ^ (two_is i - 1)) in
    reads_as p size 1 (sign_text negative ++ decimal size) (omega (arith, pattern, in_bits, w)) (omega (arith, b, in_bits, w)) (omega arith)
    (moved_size size e f l s ∙ ap (λ x. x * 1) (sym units))
    (whole_text size negative (omega (arith, small)) ∙ ap (λ t. Some (round binary64 t size 1)) (sym is))

-- a whole number's decimal digits read as its pattern
pub pattern_read : (p : ℕ) (z : ℤ) → IsPatternOf p z → read_number (signed_decimal z) ≡ Some p
pattern_read p (pos zero) h = subst (λ q. read_number (decimal 0) ≡ Some q) (sym h) (reads_as 0 0 1 (decimal 0) (omega arith) (omega arith) (omega arith) (ap (λ x. x * 1) (sym (steps_low 0 (omega arith)))) (whole_text 0 false (omega arith)))
pattern_read p (pos (suc n)) h =
    parts_read p 0 (suc n) false (omega arith) (lt-leb (2 ^ 63) p (let a = h.pattern_is in let m = h.in_bits in let w = h.size_is.whole in omega (arith, a, m, w))) h
pattern_read p (negsuc n) h =
    parts_read p 1 (suc n) true (omega arith) (le-leb (2 ^ 63) p (let a = h.pattern_is in omega (arith, a))) h

pub whole_read : (p : ℕ) (z : ℤ) → p < 2 ^ 64 → whole_of p ≡ Some z → read_number (signed_decimal z) ≡ Some p
whole_read p z b e = pattern_read p z (is_whole p z b e)
