-- Texts that the gateway writes.
use Rattle.std.proofs.Common.{rules, ◌≡◌, ◌∙◌, ℕ, zero, suc, ◌+◌, ◌-◌, ◌*◌, ◌^◌, ◌<◌, ◌≤◌, Bool, true, false, List, [], ◌∷◌, ◌++◌, length, get_or, refl, ap, arith, inl, Some}
use Rattle.std.specs.Prelude.{nat_le, decimal, if◌then◌else◌}
use Rattle.std.specs.Str.{all_ascii_digits}
use Rattle.std.specs.Char.{is_ascii_digit}
use Rattle.std.proofs.lemmas.Bool.{and_parts, leb-true}
use Rattle.std.proofs.lemmas.Fmt.{digits_decimal, length-decimal-le}
use Rattle.std.proofs.lemmas.Str.Parse.{IsNumeralModel, numerals_by_fold}
use Rattle.std.proofs.lemmas.Bool.Decides.{nat_tests}
use Rattle.amf_wire.specs.Text.{following, is_text_after, is_text, IsText}
use Rattle.amf_wire.proofs.TextTest.{is_text-is}
use Rattle.std.specs.Int.{to_be_bytes, w64}
use Rattle.uuid.specs.declared.Variant.TheVariants.{RFC4122}
use Rattle.uuid.specs.declared.Version.TheVariants.{Random}
use Rattle.uuid.specs.Parts.{with_variant, with_version}
use Rattle.uuid.specs.Text.{hex_digit, nibble, digit_place, is_hyphen_place, lower, hyphenated_text}
use Rattle.uuid.proofs.TextLemmas.{by_index_ascii, by_index_length, hex_digit_ascii, nibble_small}
use Rattle.amf_answer_plan.specs.Kept.{Fits, FaultFits}
use Rattle.amf_answer_plan.specs.Numbers.{identifier}
use Rattle.amf_answer_plan.specs.Replies.{nil, or_nil}

-- each byte is one of ASCII
abbrev Ascii : List ℕ → Type 0
Ascii x = (i : ℕ) → get_or x i 0 < 128

is_small : (b : ℕ) → b < 128 → nat_le b 127 ≡ true
is_small b h = grind (arith, nat_tests)

ascii_following : (b : ℕ) → b < 128 → following b ≡ Some []
ascii_following b h = rw (is_small b h)

ascii_passes : (x : List ℕ) → Ascii x → is_text x ≡ true
ascii_passes [] h = refl
ascii_passes (b ∷ x) h = ap (λ f. is_text_after f x) (ascii_following b (h 0)) ∙ ascii_passes x (λ i. h (suc i))

pub ascii_text : (x : List ℕ) → Ascii x → IsText x
ascii_text x h = (is_text-is x).0 (ascii_passes x h)

-- a text that is tested, and is short
pub tested : (x : List ℕ) → is_text x ≡ true → length x ≤ 268435455 → Fits x
tested x t n = record { text = (is_text-is x).0 t; short = n }

pub cause_fits : (code text : List ℕ) → is_text code ≡ true → is_text text ≡ true → length code ≤ 268435455 → length text ≤ 268435455 → FaultFits (record { code = code; text = text })
cause_fits code text c t m n = record { code = tested code c m; text = tested text t n }

-- The identifier.

place_small : (xs : List ℕ) (k : ℕ) → (if is_hyphen_place k then 45 else hex_digit lower (nibble xs (digit_place k))) < 128
place_small xs k = at (is_hyphen_place k)
  where
    at : (b : Bool) → (if b then 45 else hex_digit lower (nibble xs (digit_place k))) < 128
    at true = omega arith
    at false = hex_digit_ascii lower (nibble xs (digit_place k)) (inl refl) (nibble_small xs (digit_place k))

hyphenated_fits : (xs : List ℕ) → Fits (hyphenated_text lower xs)
hyphenated_fits xs = record {
  text = ascii_text (hyphenated_text lower xs) (by_index_ascii 36 (λ k. if is_hyphen_place k then 45 else hex_digit lower (nibble xs (digit_place k))) (λ k h. place_small xs k));
  short = omega (arith, by_index_length 36 (λ k. if is_hyphen_place k then 45 else hex_digit lower (nibble xs (digit_place k))));
}

pub identifier_fits : (high low : ℕ) → Fits (identifier high low)
identifier_fits high low = hyphenated_fits (with_version (with_variant (to_be_bytes w64 high ++ to_be_bytes w64 low) RFC4122) Random)

-- What a reply says of its request.

pub nil_fits : Fits nil
nil_fits = tested nil refl (omega arith)

pub or_nil_fits : (x : List ℕ) → Fits x → Fits (or_nil x)
or_nil_fits [] f = nil_fits
or_nil_fits (b ∷ x) f = f

-- Numbers.

abbrev read_on : ℕ → List ℕ → ℕ
read_on n [] = n
read_on n (c ∷ cs) = read_on (10 * n + (c - 48)) cs

own : IsNumeralModel (λ ds. all_ascii_digits ds ≡ true) (read_on 0)
own = numerals_by_fold _ (search rules) read_on (search rules)

digits_ascii : (x : List ℕ) → all_ascii_digits x ≡ true → Ascii x
digits_ascii [] h = λ i. omega arith
digits_ascii (b ∷ x) h = let parts = and_parts (is_ascii_digit b) (all_ascii_digits x) h in at parts.0 (digits_ascii x parts.1)
  where
    at : is_ascii_digit b ≡ true → Ascii x → Ascii (b ∷ x)
    at p q zero = let bounds = and_parts (nat_le 48 b) (nat_le b 57) p in omega (arith, leb-true b 57 bounds.1)
    at p q (suc i) = q i

pub number_fits : (n : ℕ) → n < 2 ^ 64 → Fits (decimal n)
number_fits n h = record {
  text = ascii_text (decimal n) (digits_ascii (decimal n) (digits_decimal own n h));
  short = omega (arith, length-decimal-le 20 n (omega arith) (omega arith) h);
}
