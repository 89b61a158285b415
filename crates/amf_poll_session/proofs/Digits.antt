-- Decimal digits are a text.
use Rattle.std.proofs.Common.{rules, ◌≡◌, ◌∙◌, ℕ, zero, suc, ◌+◌, ◌-◌, ◌*◌, ◌^◌, ◌<◌, true, List, [], ◌∷◌, get_or, refl, ap, arith, Some}
use Rattle.std.specs.Prelude.{nat_le, decimal}
use Rattle.std.specs.Str.{all_ascii_digits}
use Rattle.std.specs.Char.{is_ascii_digit}
use Rattle.std.proofs.lemmas.Bool.{and_parts, leb-true}
use Rattle.std.proofs.lemmas.Fmt.{digits_decimal}
use Rattle.std.proofs.lemmas.Str.Parse.{IsNumeralModel, numerals_by_fold}
use Rattle.std.proofs.lemmas.Bool.Decides.{nat_tests}
use Rattle.amf_wire.specs.Text.{following, is_text_after, is_text, IsText}
use Rattle.amf_wire.proofs.TextTest.{is_text-is}

-- each byte is one of ASCII
abbrev Ascii : List ℕ → Type 0
Ascii x = (i : ℕ) → get_or x i 0 < 128

is_small : (b : ℕ) → b < 128 → nat_le b 127 ≡ true
is_small b h = grind (arith, nat_tests)

ascii_following : (b : ℕ) → b < 128 → following b ≡ Some []
ascii_following b h = rw (is_small b h)

ascii_passes : (x : List ℕ) → Ascii x → is_text x ≡ true
ascii_passes [] h = refl
ascii_passes (b ∷ x) h = ap (λ f. is_text_after f x) (ascii_following b (h 0)) ∙ ascii_passes x (λ i. h (suc i))

abbrev read_on : ℕ → List ℕ → ℕ
read_on n [] = n
read_on n (c ∷ cs) = read_on (10 * n + (c - 48)) cs

own : IsNumeralModel (λ ds. all_ascii_digits ds ≡ true) (read_on 0)
own = numerals_by_fold _ (search rules) read_on (search rules)

digits_ascii : (x : List ℕ) → all_ascii_digits x ≡ true → Ascii x
digits_ascii [] h = λ i. omega arith
digits_ascii (b ∷ x) h = let parts = and_parts (is_ascii_digit b) (all_ascii_digits x) h in at parts.0 (digits_ascii x parts.1)
  where
    at : is_ascii_digit b ≡ true → Ascii x → Ascii (b ∷ x)
    at p q zero = let bounds = and_parts (nat_le 48 b) (nat_le b 57) p in omega (arith, leb-true b 57 bounds.1)
    at p q (suc i) = q i

pub decimal_text : (n : ℕ) → n < 2 ^ 64 → IsText (decimal n)
decimal_text n h = (is_text-is (decimal n)).0 (ascii_passes (decimal n) (digits_ascii (decimal n) (digits_decimal own n h)))
