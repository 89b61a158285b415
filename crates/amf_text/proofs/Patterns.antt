-- The value of a pattern of a double. These lemmas are those of the kit, which it keeps to itself.
use Rattle.std.proofs.Common.{◌≡◌, ℕ, zero, suc, ◌+◌, ◌-◌, ◌*◌, ◌/◌, ◌%◌, ◌^◌, ◌<◌, ◌≤◌, Bool, cond, refl, sym, ap, ◌∙◌, subst, arith}
use native.Mathlib.Nat.{mul-div_cancel}
use lib.Dec.{T, leb, eqb}
use borrow.Author.Tests.{lt-ltb, le-ltb, ne_eqb}
use lib.Ieee.{Float, Format, nan, inf, fin, binary64, prec, low, up, down, size, odd, fits, of_bits, of_fields, to_bits, top, hid}
use lib.Ieee.Fits.{down_pos}
use lib.Ieee.Bits.{of_bits-to_bits}
use lib.Ieee.Exact.{HasValue, odd_sign}
use Rattle.std.specs.Float.MulAdd.{units_of_bits}

bits_of_value : (f : Format) (x : Float) (s : Bool) (a : ℕ) → HasValue x s a (2 ^ low f)
    → to_bits f x ≡ cond s (top f) 0 + (size a - prec f) * hid f + a / 2 ^ (size a - prec f)
unfolding to_bits
bits_of_value f nan s a v = absurd v
bits_of_value f (inf t) s a v = absurd v
bits_of_value f (fin t m e) s a v =
    let n : m * up e * 2 ^ low f / down e ≡ a = ap (λ (k : ℕ). k / down e) v.1 ∙ mul-div_cancel a (down_pos e) in
    λ i. cond (v.0 i) (top f) 0 + (size (n i) - prec f) * hid f + n i / 2 ^ (size (n i) - prec f)

-- two floats that fit and have one value are one float
pub same_value : (f : Format) (x y : Float) (s : Bool) (a : ℕ) → T (fits f x) → T (fits f y) → HasValue x s a (2 ^ low f) → HasValue y s a (2 ^ low f) → x ≡ y
same_value f x y s a p q v w = sym (of_bits-to_bits f x p) ∙ ap (of_bits f) (bits_of_value f x s a v ∙ sym (bits_of_value f y s a w)) ∙ of_bits-to_bits f y q

pub steps_low : (b : ℕ) → b < 2 ^ 52 → units_of_bits b ≡ b
unfolding units_of_bits
steps_low b h = rw (lt-ltb b (2 ^ 52) h) refl

pub steps_high : (b : ℕ) → 2 ^ 52 ≤ b → units_of_bits b ≡ (2 ^ 52 + b % 2 ^ 52) * 2 ^ (b / 2 ^ 52 - 1)
unfolding units_of_bits
steps_high b h = rw (le-ltb b (2 ^ 52) h) refl

fields : (s : Bool) (x t b : ℕ) → x < 2047 → t < 2 ^ 52 → b ≡ x * 2 ^ 52 + t → HasValue (of_fields binary64 s x t) s (units_of_bits b) (2 ^ 1074)
unfolding of_fields
fields s zero t b X H e =
    let v : t * 2 ^ 0 ≡ units_of_bits b = omega (arith, steps_low b (omega arith)) in
    subst (λ (a : ℕ). HasValue (odd 53 s t 0 1074) s a (2 ^ 1074)) v (odd_sign 53 s t 0 1074)
fields s (suc j) t b X H e =
    let p : t ≡ b % 2 ^ 52 = omega arith in
    let q : j ≡ b / 2 ^ 52 - 1 = omega arith in
    let v : (2 ^ 52 + t) * 2 ^ j ≡ units_of_bits b = (λ i. (2 ^ 52 + p i) * 2 ^ q i) ∙ sym (steps_high b (omega arith)) in
    subst (λ (k : Bool). HasValue (cond k (cond (eqb t 0) (inf s) nan) (odd 53 s (2 ^ 52 + t) j 1074)) s (units_of_bits b) (2 ^ 1074)) (sym (ne_eqb (suc j) 2047 (omega arith)))
    (subst (λ (a : ℕ). HasValue (odd 53 s (2 ^ 52 + t) j 1074) s a (2 ^ 1074)) v (odd_sign 53 s (2 ^ 52 + t) j 1074))

pub read : (b : ℕ) → b % 2 ^ 63 < 2047 * 2 ^ 52 → HasValue (of_bits binary64 b) (leb (2 ^ 63) b) (units_of_bits (b % 2 ^ 63)) (2 ^ 1074)
unfolding of_bits
read b h = fields (leb (2 ^ 63) b) (b % 2 ^ 63 / 2 ^ 52) (b % 2 ^ 52) (b % 2 ^ 63) (omega arith) (omega arith) (omega arith)
