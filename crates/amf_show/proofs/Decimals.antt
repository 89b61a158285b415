-- The decimal digits of numbers below 10,000.
use Rattle.std.proofs.Common.{◌≡◌, ℕ, ◌+◌, ◌/◌, ◌%◌, ◌<◌, ◌≤◌, true, [], ◌∷◌, ◌++◌, ℤ, pos, negsuc, int_le, unsigned_abs, refl, sym, ap, ap₂, ◌∙◌, arith}
use Rattle.std.specs.Fmt.{decimal, signed_decimal}
use Rattle.std.proofs.lemmas.Fmt.{decimal_digit, decimal_step}

pub one : (n : ℕ) → n < 10 → (48 + n % 10) ∷ [] ≡ decimal n
one n high =
    let same : n % 10 ≡ n = omega (arith, high) in
    ap (λ d. (48 + d) ∷ []) same ∙ sym (decimal_digit n high)

pub two : (n : ℕ) → 10 ≤ n → n < 100 → (48 + n / 10 % 10) ∷ (48 + n % 10) ∷ [] ≡ decimal n
two n low high = ap (λ w. w ++ (48 + n % 10) ∷ []) (one (n / 10) (omega (arith, high))) ∙ sym (decimal_step n low (omega (arith, high)))

pub three : (n : ℕ) → 100 ≤ n → n < 1000 → (48 + n / 100 % 10) ∷ (48 + n / 10 % 10) ∷ (48 + n % 10) ∷ [] ≡ decimal n
three n low high =
    let hundreds : n / 100 ≡ n / 10 / 10 = omega arith in
    ap (λ h. (48 + h % 10) ∷ (48 + n / 10 % 10) ∷ (48 + n % 10) ∷ []) hundreds
    ∙ ap (λ w. w ++ (48 + n % 10) ∷ []) (two (n / 10) (omega (arith, low)) (omega (arith, high))) ∙ sym (decimal_step n (omega (arith, low)) (omega (arith, high)))

pub four : (n : ℕ) → 1000 ≤ n → n < 10000 → (48 + n / 1000 % 10) ∷ (48 + n / 100 % 10) ∷ (48 + n / 10 % 10) ∷ (48 + n % 10) ∷ [] ≡ decimal n
four n low high =
    let thousands : n / 1000 ≡ n / 10 / 100 = omega arith in
    let hundreds : n / 100 ≡ n / 10 / 10 = omega arith in
    ap₂ (λ t h. (48 + t % 10) ∷ (48 + h % 10) ∷ (48 + n / 10 % 10) ∷ (48 + n % 10) ∷ []) thousands hundreds
    ∙ ap (λ w. w ++ (48 + n % 10) ∷ []) (three (n / 10) (omega (arith, low)) (omega (arith, high))) ∙ sym (decimal_step n (omega (arith, low)) (omega (arith, high)))

pub not_negative : (z : ℤ) → int_le (pos 0) z ≡ true → decimal (unsigned_abs z) ≡ signed_decimal z
not_negative (pos n) e = refl
not_negative (negsuc n) e = cc
