-- A double whose exponent is not the greatest is finite.
use Rattle.std.proofs.Common.{◌≡◌, ℕ, zero, suc, ◌+◌, ◌/◌, ◌%◌, ◌^◌, ◌<◌, Bool, true, false, cond, eqb, leb, T, refl, ap, ◌∙◌, arith}
use Rattle.std.specs.Float.{float_is_finite, binary64}
use Rattle.std.specs.Prelude.{◌&&◌, not, to_bits, option_and_then, if◌then◌else◌, Some, None, List}
use Rattle.std.specs.Float.Parse.{parse_float}
use Rattle.amf_text.specs.Scalars.{finite_pattern, read_number}
use Rattle.ryu.proofs.Signs.{finite_number}
use lib.Ieee.Bits.{to_bits-of_bits}
use lib.Ieee.{prec, low, hid, ones, top, odd, inf, nan, is_nan, of_bits, of_fields, nan_bits}

finite_odd : (d : ℕ) (s : Bool) (q k l : ℕ) → float_is_finite (odd d s q k l) ≡ true
unfolding float_is_finite odd
finite_odd d s zero k l = refl
finite_odd d s (suc q) k l = refl

finite_fields : (s : Bool) (x t : ℕ) → eqb x (ones binary64) ≡ false → float_is_finite (of_fields binary64 s x t) ≡ true
unfolding of_fields
finite_fields s zero t e = finite_odd (prec binary64) s t 0 (low binary64)
finite_fields s (suc x) t e = ap (λ (a : Bool). float_is_finite (cond a (cond (eqb t 0) (inf s) nan) (odd (prec binary64) s (hid binary64 + t) x (low binary64)))) e ∙ finite_odd (prec binary64) s (hid binary64 + t) x (low binary64)

pub finite : (p : ℕ) → eqb (p / 2 ^ 52 % 2048) 2047 ≡ false → float_is_finite (of_bits binary64 p) ≡ true
unfolding of_bits
finite p e =
    let same : p % top binary64 / hid binary64 ≡ p / 2 ^ 52 % 2048 = omega arith in
    finite_fields (leb (top binary64) p) (p % top binary64 / hid binary64) (p % hid binary64) (ap (λ n. eqb n 2047) same ∙ e)

-- nor is it no number
pub numbered : (p : ℕ) → eqb (p / 2 ^ 52 % 2048) 2047 ≡ false → nan_bits binary64 p ≡ false
unfolding nan_bits
numbered p e =
    let same : p % top binary64 / hid binary64 ≡ p / 2 ^ 52 % 2048 = omega arith in
    ap (λ n. eqb n 2047 && not (eqb (p % hid binary64) 0)) same ∙ ap (λ a. a && not (eqb (p % hid binary64) 0)) e

-- the text that reads as such a double
pub reads_back : (p : ℕ) (s : List ℕ) → p < 2 ^ 64 → eqb (p / 2 ^ 52 % 2048) 2047 ≡ false → parse_float binary64 s ≡ Some (of_bits binary64 p) → read_number s ≡ Some p
unfolding read_number
reads_back p s l e r =
    let number : T (not (is_nan (of_bits binary64 p))) = finite_number (of_bits binary64 p) (finite p e) in
    ap (option_and_then finite_pattern) r
    ∙ ap (λ t. if t then Some (to_bits binary64 (of_bits binary64 p)) else None) (finite p e)
    ∙ ap (λ n. Some n) (to_bits-of_bits binary64 p (omega (arith, l)) number)
