-- The digits of a number: a line's text, a field's value, and what they say.
use Rattle.std.proofs.Common.{◌≡◌, ◌∙◌, ℕ, ◌<◌, ◌≤◌, ◌^◌, Bool, true, false, List, [], ◌∷◌, ◌++◌, length, reverse, ap, refl, sym, subst, arith}
use Rattle.std.specs.Prelude.{◌&&◌, nat_lt, decimal}
use Rattle.std.specs.Int.{IsInRange}
use Rattle.std.specs.Char.{is_ascii_digit}
use Rattle.std.specs.List.{AllByRecursion, list_all}
use Rattle.std.specs.Str.Parse.{AllDigits, digits_value}
use Rattle.std.proofs.lemmas.Fmt.{decimal_is_IsNumeral, length-decimal-le}
use Rattle.std.proofs.lemmas.Str.Parse.{digit_from_value}
use Rattle.std.proofs.lemmas.Bool.Decides.{nat_tests}
use Rattle.std.proofs.lemmas.List.{reverse-append}
use Rattle.http_link.specs.Fields.{is_number}
use Rattle.httparse.specs.Grammar.{is_ows, is_value_byte, skip_ows, trim_ows}
use Rattle.httparse.proofs.TrimLemmas.{skip_ows_no, trim_ows_space}
use Rattle.amf_self_call_laws.proofs.Lines.{is_not_cr}

-- each is a digit
abbrev pub AreDigits : List ℕ → Type 0
AreDigits = AllByRecursion (λ c. IsInRange 48 57 c)

are_digits : (ds : List ℕ) → AllDigits 10 ds → AreDigits ds
are_digits [] a = tt
are_digits (c ∷ cs) a = (digit_from_value c a.0, are_digits cs a.1)

digit_test : (c : ℕ) → IsInRange 48 57 c → is_ascii_digit c ≡ true
digit_test c r = grind (arith, nat_tests, r.0, r.1)

digit_not_cr : (c : ℕ) → IsInRange 48 57 c → is_not_cr c ≡ true
digit_not_cr c r = grind (arith, nat_tests, r.0, r.1)

digit_value_byte : (c : ℕ) → IsInRange 48 57 c → is_value_byte c ≡ true
digit_value_byte c r = grind (arith, nat_tests, r.0, r.1)

digit_not_ows : (c : ℕ) → IsInRange 48 57 c → false ≡ is_ows c
digit_not_ows c r = grind (arith, nat_tests, r.0, r.1)

passes : (test : ℕ → Bool) → ((c : ℕ) → IsInRange 48 57 c → test c ≡ true) → (ds : List ℕ) → AreDigits ds → list_all test ds ≡ true
passes test each [] a = refl
passes test each (c ∷ cs) a = ap (λ b. b && list_all test cs) (each c a.0) ∙ passes test each cs a.1

digits_behind : (xs ys : List ℕ) → AreDigits xs → AreDigits ys → AreDigits (xs ++ ys)
digits_behind [] ys a b = b
digits_behind (x ∷ xs) ys a b = (a.0, digits_behind xs ys a.1 b)

digits_back : (ds : List ℕ) → AreDigits ds → AreDigits (reverse ds)
digits_back [] a = tt
digits_back (c ∷ cs) a = subst AreDigits (sym (reverse-append (c ∷ []) cs)) (digits_behind (reverse cs) (c ∷ []) (digits_back cs a.1) (a.0, tt))

skips_none : (ds : List ℕ) → AreDigits ds → skip_ows ds ≡ ds
skips_none [] a = refl
skips_none (c ∷ cs) a = skip_ows_no refl (digit_not_ows c a.0)

pub digits_trimmed : (ds : List ℕ) → AreDigits ds → trim_ows (32 ∷ ds) ≡ ds
digits_trimmed ds a = trim_ows_space ds (skips_none ds a) (skips_none (reverse ds) (digits_back ds a))

pub digits_clear : (ds : List ℕ) → AreDigits ds → list_all is_not_cr ds ≡ true
digits_clear = passes is_not_cr digit_not_cr

pub digits_value_bytes : (ds : List ℕ) → AreDigits ds → list_all is_value_byte ds ≡ true
digits_value_bytes = passes is_value_byte digit_value_byte

some_bytes : (ds : List ℕ) → 0 < length ds → nat_lt 0 (length ds) ≡ true
some_bytes ds some = grind (arith, nat_tests)

pub digits_number : (ds : List ℕ) → AreDigits ds → 0 < length ds → is_number ds ≡ true
digits_number ds a some = ap (λ b. b && list_all is_ascii_digit ds) (some_bytes ds some) ∙ passes is_ascii_digit digit_test ds a

-- of a number
pub decimal_digits : (n : ℕ) → n < 2 ^ 64 → AreDigits (decimal n)
decimal_digits n h = are_digits (decimal n) (decimal_is_IsNumeral n h).0.1

pub decimal_some : (n : ℕ) → n < 2 ^ 64 → 0 < length (decimal n)
decimal_some n h = (decimal_is_IsNumeral n h).0.0

pub decimal_value : (n : ℕ) → n < 2 ^ 64 → digits_value 10 (decimal n) ≡ n
decimal_value n h = (decimal_is_IsNumeral n h).1

pub decimal_short : (n : ℕ) → n < 2 ^ 64 → length (decimal n) ≤ 20
decimal_short n h = length-decimal-le 20 n (omega arith) (omega arith) h
