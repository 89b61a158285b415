-- Each byte of what is escaped is harmless.
use Rattle.std.proofs.Common.{◌≡◌, ◌≢◌, ◌∙◌, ℕ, ◌+◌, ◌/◌, ◌%◌, ◌<◌, ◌≤◌, ◌⊎◌, inl, inr, Bool, true, false, List, [], ◌∷◌, ◌++◌, refl, sym, ap, subst, arith}
use Rattle.std.specs.Prelude.{◌==◌, ◌||◌, ◌&&◌, nat_lt, if◌then◌else◌}
use Rattle.std.specs.List.{AllByRecursion}
use Rattle.std.proofs.lemmas.Bool.{and_parts, cases_lt}
use Rattle.std.proofs.lemmas.Bool.Decides.{nat_tests}
use Rattle.http_backend.specs.Escaped.{is_unreserved, digit, escaped_byte, escaped}
use Rattle.http_backend.specs.PathLaws.{IsHarmless}

-- a digit of 0 to 15 is one of 0 to 9, or one of A to F
abbrev IsDigit : ℕ → Type 0
IsDigit d = ((48 ≤ d) × (d ≤ 57)) ⊎ ((65 ≤ d) × (d ≤ 70))

by_digit : (n : ℕ) → n < 16 → (n < 10) ⊎ (10 ≤ n) → IsDigit (digit n)
by_digit n below (inl few) = inl (grind (arith, nat_tests), grind (arith, nat_tests))
by_digit n below (inr many) = inr (grind (arith, nat_tests), grind (arith, nat_tests))

digit_harmless : (d : ℕ) → IsDigit d → IsHarmless d
digit_harmless d (inl w) = let least = w.0 in let most = w.1 in record { no_slash = λ e. absurd (omega (arith, e)); no_query = λ e. absurd (omega (arith, e)); no_fragment = λ e. absurd (omega (arith, e)); no_control = omega arith; no_delete = λ e. absurd (omega (arith, e)) }
digit_harmless d (inr w) = let least = w.0 in let most = w.1 in record { no_slash = λ e. absurd (omega (arith, e)); no_query = λ e. absurd (omega (arith, e)); no_fragment = λ e. absurd (omega (arith, e)); no_control = omega arith; no_delete = λ e. absurd (omega (arith, e)) }

one_digit : (n : ℕ) → n < 16 → IsHarmless (digit n)
one_digit n below = digit_harmless (digit n) (by_digit n below (cases_lt n 10))

kept_harmless : (b : ℕ) → is_unreserved b ≡ true → IsHarmless b
kept_harmless b kept = record { no_slash = grind (arith, nat_tests); no_query = grind (arith, nat_tests); no_fragment = grind (arith, nat_tests); no_control = grind (arith, nat_tests); no_delete = grind (arith, nat_tests) }

percent : IsHarmless 37
percent = record { no_slash = λ e. absurd (omega (arith, e)); no_query = λ e. absurd (omega (arith, e)); no_fragment = λ e. absurd (omega (arith, e)); no_control = omega arith; no_delete = λ e. absurd (omega (arith, e)) }

either_byte : (b : ℕ) (kept : Bool) → b < 256 → is_unreserved b ≡ kept → AllByRecursion IsHarmless (if kept then b ∷ [] else 37 ∷ digit (b / 16) ∷ digit (b % 16) ∷ [])
either_byte b true below e = (kept_harmless b e, tt)
either_byte b false below e = (percent, (one_digit (b / 16) (omega arith), (one_digit (b % 16) (omega arith), tt)))

byte_harmless : (b : ℕ) → b < 256 → AllByRecursion IsHarmless (escaped_byte b)
byte_harmless b below = either_byte b (is_unreserved b) below refl

all_both : (xs ys : List ℕ) → AllByRecursion IsHarmless xs → AllByRecursion IsHarmless ys → AllByRecursion IsHarmless (xs ++ ys)
all_both [] ys a b = b
all_both (x ∷ xs) ys a b = (a.0, all_both xs ys a.1 b)

pub escapes_all : (x : List ℕ) → AllByRecursion (λ b. b < 256) x → AllByRecursion IsHarmless (escaped x)
escapes_all [] h = tt
escapes_all (b ∷ x) h = all_both (escaped_byte b) (escaped x) (byte_harmless b h.0) (escapes_all x h.1)
