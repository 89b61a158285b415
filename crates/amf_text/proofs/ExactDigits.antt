-- Digits for each finite double: its exact value in units of the least one, which is a number of 2^-1074.
use Rattle.std.proofs.Common.{◌≡◌, ℕ, zero, suc, ◌+◌, ◌*◌, ◌/◌, ◌%◌, ◌^◌, ◌<◌, Bool, true, false, List, [], ◌∷◌, ◌++◌, length, Some, refl, sym, ap, ◌∙◌, subst, inl, inr, arith}
use Rattle.std.proofs.Math.Nat.{pow-suc, div-lt_iff_lt-mul}
use Rattle.std.proofs.lemmas.Nat.{div-add-mod'}
use Rattle.std.proofs.lemmas.Bool.{cases_lt}
use Rattle.std.proofs.lemmas.Str.{digit_value-digit_char}
use Rattle.std.proofs.lemmas.Float.Parse.{parse_float-text_of}
use Rattle.std.specs.Prelude.{codes, ◌==◌, ◌||◌}
use Rattle.std.specs.Char.{digit_char}
use Rattle.std.specs.Float.{binary64}
use Rattle.std.specs.Float.Parse.{parse_float}
use Rattle.std.specs.Fmt.{sign_text}
use Rattle.std.specs.Str.Parse.{digits_value_after, AllDigits}
use Rattle.std.specs.Float.Numeral.{Parts, text_of, IsWellFormed}
use Rattle.std.specs.Float.MulAdd.{units_of_bits}
use Rattle.ryu.specs.Plain.{IsPlain}
use Rattle.json.proofs.Printed.Floats.{IsNumber-plain}
use native.Mathlib.Nat.{mul_assoc, mul_comm, add-mul, add_assoc, mod-lt}
use lib.Dec.{leb}
use lib.Ieee.{round}
use Rattle.amf_text.specs.Scalars.{is_odd, exponent, read_number}
use Rattle.amf_text.specs.NumberLaws.{DigitsExist}
use Rattle.amf_text.proofs.Numbers.{moved, reads_as}

ten_pos : (k : ℕ) → 0 < 10 ^ k
ten_pos zero = omega arith
ten_pos (suc k) = let h = ten_pos k in let e = pow-suc 10 k in omega (arith, h, e)

-- so many decimal digits of a number
fixed : ℕ → ℕ → List ℕ
fixed zero n = []
fixed (suc k) n = digit_char (n / 10 ^ k) ∷ fixed k (n % 10 ^ k)

top_digit : (k n : ℕ) → n < 10 ^ suc k → n / 10 ^ k < 10
top_digit k n h = let e = pow-suc 10 k in (div-lt_iff_lt-mul {k = 10 ^ k} {x = n} {y = 10} (ten_pos k)).1 (omega (arith, e, h))

fixed_all : (k n : ℕ) → n < 10 ^ k → AllDigits 10 (fixed k n)
unfolding fixed
fixed_all zero n h = tt
fixed_all (suc k) n h = (let d = top_digit k n h in let e = digit_value-digit_char (n / 10 ^ k) (omega (arith, d)) in omega (arith, d, e), fixed_all k (n % 10 ^ k) (mod-lt n (ten_pos k)))

fixed_long : (k n : ℕ) → length (fixed k n) ≡ k
unfolding fixed
fixed_long zero n = refl
fixed_long (suc k) n = ap suc (fixed_long k (n % 10 ^ k))

step_value : (v d m P Q n : ℕ) → Q ≡ P * 10 → d * P + m ≡ n → (v * 10 + d) * P + m ≡ v * Q + n
step_value v d m P Q n q e =
    let one : (v * 10 + d) * P ≡ v * 10 * P + d * P = add-mul (v * 10) d P in
    let two : v * 10 * P ≡ v * Q = mul_assoc v 10 P ∙ ap (λ (x : ℕ). v * x) (mul_comm 10 P ∙ sym q) in
    let three : v * 10 * P + d * P + m ≡ v * Q + (d * P + m) = add_assoc (v * 10 * P) (d * P) m ∙ ap (λ (x : ℕ). x + (d * P + m)) two in
    ap (λ (x : ℕ). x + m) one ∙ three ∙ ap (λ (x : ℕ). v * Q + x) e

fixed_value : (k n v : ℕ) → n < 10 ^ k → digits_value_after 10 v (fixed k n) ≡ v * 10 ^ k + n
unfolding fixed
fixed_value zero n v h = omega (arith, h)
fixed_value (suc k) n v h =
    let d = top_digit k n h in
    let e = digit_value-digit_char (n / 10 ^ k) (omega (arith, d)) in
    ap (λ x. digits_value_after 10 (v * 10 + x) (fixed k (n % 10 ^ k))) e
    ∙ fixed_value k (n % 10 ^ k) (v * 10 + n / 10 ^ k) (mod-lt n (ten_pos k))
    ∙ step_value v (n / 10 ^ k) (n % 10 ^ k) (10 ^ k) (10 ^ suc k) n (pow-suc 10 k) (div-add-mod' n (10 ^ k))

-- 0.DDD..e326, with 1400 digits

exact_parts : ℕ → Parts
exact_parts n = record { whole = 48 ∷ []; point = true; fraction = fixed 1400 n; exponent_negative = false; exponent = codes "326"; len = length (48 ∷ (46 ∷ fixed 1400 n) ++ codes "e326") }

exact_formed : (n : ℕ) → n < 10 ^ 1400 → IsWellFormed (exact_parts n)
unfolding exact_parts
exact_formed n h = record {
  whole_digits = (omega arith, tt);
  fraction_digits = fixed_all 1400 n h;
  exponent_digits = (omega arith, (omega arith, (omega arith, tt)));
  no_point = λ e. cc;
  no_exponent = λ e. refl;
  len_is = refl;
}

exact_plain : (n : ℕ) → n < 10 ^ 1400 → IsPlain (exact_parts n)
unfolding exact_parts
exact_plain n h = record {
  well_formed = exact_formed n h;
  whole = omega arith;
  no_leading_zero = λ e. refl;
  fraction = λ e. let l = fixed_long 1400 n in omega (arith, l);
  marked = λ e. cc;
}

zero_then : (a n : ℕ) → 0 * a + n ≡ n
zero_then a n = omega arith

exact_parse : (n : ℕ) (negative : Bool) → n < 10 ^ 1400 → parse_float binary64 (sign_text negative ++ text_of (exact_parts n)) ≡ Some (round binary64 negative (n * 10 ^ 326) (10 ^ 1400))
unfolding exact_parts
exact_parse n negative h =
    let value : digits_value_after 10 0 (fixed 1400 n) ≡ n = fixed_value 1400 n 0 h ∙ zero_then (10 ^ 1400) n in
    let long : length (fixed 1400 n) + 0 ≡ 1400 = ap (λ x. x + 0) (fixed_long 1400 n) in
    parse_float-text_of binary64 negative (exact_parts n) (exact_formed n h) (omega arith)
    ∙ (λ i. Some (round binary64 negative (value i * 10 ^ 326) (10 ^ long i)))

units_small : (p : ℕ) → p % 2 ^ 63 < 2047 * 2 ^ 52 → units_of_bits (p % 2 ^ 63) * 5 ^ 1074 < 10 ^ 1400
units_small p h =
    let m = moved (p % 2 ^ 63) h in
    let l : units_of_bits (p % 2 ^ 63) < 2 ^ 2098 = subst (λ x. x < 2 ^ 2098) m.same m.fine in
    omega (arith, l)

exact_text : ℕ → List ℕ
exact_text p = sign_text (leb (2 ^ 63) p) ++ text_of (exact_parts (units_of_bits (p % 2 ^ 63) * 5 ^ 1074))

same_ratio : (u : ℕ) → u * 5 ^ 1074 * 10 ^ 326 * 2 ^ 1074 ≡ u * 10 ^ 1400
same_ratio u = omega arith

exact_read : (p : ℕ) → p < 2 ^ 64 → p % 2 ^ 63 < 2047 * 2 ^ 52 → read_number (exact_text p) ≡ Some p
unfolding exact_text
exact_read p b h =
    let u = units_of_bits (p % 2 ^ 63) in
    reads_as p (u * 5 ^ 1074 * 10 ^ 326) (10 ^ 1400) (sign_text (leb (2 ^ 63) p) ++ text_of (exact_parts (u * 5 ^ 1074))) b h (ten_pos 1400) (same_ratio u)
    (exact_parse (u * 5 ^ 1074) (leb (2 ^ 63) p) (units_small p h))

first_false : (a b : Bool) → (a || b) ≡ false → a ≡ false
first_false true b e = e
first_false false b e = refl

not_equal : (a b : ℕ) → (a == b) ≡ false → a ≡ b → ⊥
not_equal a b e h = grind arith

pub finite_size : (p : ℕ) → p < 2 ^ 64 → is_odd p ≡ false → p % 2 ^ 63 < 2047 * 2 ^ 52
finite_size p b e =
    let n = not_equal (exponent p) 2047 (first_false (exponent p == 2047) (p == 2 ^ 63) e) in
    elim (cases_lt (p % 2 ^ 63) (2047 * 2 ^ 52)) [
      | inl l ↦ l
      | inr l ↦ absurd (n (omega (arith, l, b)))
    ]

pub digits_exist : DigitsExist
unfolding exact_text
digits_exist = (
  exact_text,
  λ p b odd none.
      let h = finite_size p b odd in
      let n = units_of_bits (p % 2 ^ 63) * 5 ^ 1074 in
      (IsNumber-plain (exact_text p) (leb (2 ^ 63) p, exact_parts n, refl, exact_plain n (units_small p h)), exact_read p b h),
)
