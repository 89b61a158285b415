-- How doubles and texts are told, by their tests.
use Rattle.std.proofs.Common.{◌≡◌, ℕ, ◌/◌, ◌%◌, ◌^◌, ◌<◌, Bool, true, false, ℤ, Option, Some, None, List, [], ◌∷◌, refl, ap, ◌∙◌, inr}
use Rattle.std.specs.Prelude.{◌==◌, ◌&&◌, ◌||◌, not, codes}
use Rattle.json.specs.Token.{number}
use Rattle.json.specs.Json as json
use Rattle.json.specs.Print.{IsNumber}
use Rattle.amf_wire.specs.WholeNumbers.{whole_of}
use Rattle.amf_text.specs.Scalars.{word, alone, hex, is_plain, told_text, is_odd, read_number, Digits, AreDigits, odd_word, written_number, told_pattern, is_integer_like, told_double}
use Rattle.amf_text_write.specs.Laid.{Shown, with_more}
use Rattle.amf_text_write.specs.Tells.{Tells}
use Rattle.amf_text_write.proofs.Bools.{if_true, if_false, or_neither}

pub odd_pattern : (d : Digits) (p : ℕ) → is_odd p ≡ true → told_pattern d p ≡ word (odd_word p)
unfolding told_pattern
odd_pattern d p e = if_true (is_odd p) (word (odd_word p)) (json.number (written_number d p (whole_of p))) e

pub even_pattern : (d : Digits) (p : ℕ) (o : Option ℤ) → is_odd p ≡ false → whole_of p ≡ o → told_pattern d p ≡ json.number (written_number d p o)
unfolding told_pattern
even_pattern d p o e w = if_false (is_odd p) (word (odd_word p)) (json.number (written_number d p (whole_of p))) e ∙ ap (λ x. json.number (written_number d p x)) w

-- whether a double is told apart
abbrev pub is_apart : Bool → ℕ → Bool
is_apart bare p = is_odd p || (is_integer_like (whole_of p) && not bare)

pub apart : (d : Digits) (bare : Bool) (p : ℕ) → is_apart bare p ≡ true → told_double d bare p ≡ alone (codes "$double") (told_pattern d p)
unfolding told_double
apart d bare p e = if_true (is_apart bare p) (alone (codes "$double") (told_pattern d p)) (told_pattern d p) e

pub not_apart : (d : Digits) (bare : Bool) (p : ℕ) → is_apart bare p ≡ false → told_double d bare p ≡ told_pattern d p
unfolding told_double
not_apart d bare p e = if_false (is_apart bare p) (alone (codes "$double") (told_pattern d p)) (told_pattern d p) e

-- the same tests in the order of the code
pub apart_by : (a b c : Bool) → (a || (not b && c)) ≡ (a || (c && not b))
apart_by true b c = refl
apart_by false true true = refl
apart_by false true false = refl
apart_by false false true = refl
apart_by false false false = refl

pub plain_text : (x : List ℕ) → is_plain x ≡ true → told_text x ≡ word x
unfolding told_text
plain_text x e = if_true (is_plain x) (word x) (alone (codes "$text") (word (hex x))) e

pub hex_text : (x : List ℕ) → is_plain x ≡ false → told_text x ≡ alone (codes "$text") (word (hex x))
unfolding told_text
hex_text x e = if_false (is_plain x) (word x) (alone (codes "$text") (word (hex x))) e

-- digits that read as the double, for those that are told
pub digits_told : (d : Digits) (p : ℕ) (s : List ℕ) (a b : Shown) → AreDigits d → p < 2 ^ 64 → is_odd p ≡ false → whole_of p ≡ None → IsNumber s → read_number s ≡ Some p → b ≡ with_more a (number s ∷ []) → Tells (number (d p) ∷ []) a b
digits_told d p s a b are l odd none is reads e =
    let own = are p l odd none in
    record { told = number s ∷ []; alike = (inr (d p, s, refl, refl, (is, p, none, own.1, reads)), tt); is = e }

-- the exponent of a double that is not odd
pub exponent_below : (p : ℕ) → is_odd p ≡ false → (p / 2 ^ 52 % 2048 == 2047) ≡ false
exponent_below p e = (or_neither (p / 2 ^ 52 % 2048 == 2047) (p == 2 ^ 63) e).0
