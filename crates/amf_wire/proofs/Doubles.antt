-- Whole numbers scaled by powers of two, and the bits of their doubles.
use Rattle.std.proofs.Common.{◌-ℤ◌, ◌%◌, ◌/◌, ◌≢◌, ◌≡◌, ℕ, zero, suc, ◌+◌, ◌-◌, ◌*◌, ◌^◌, ◌<◌, ◌≤◌, ◌⊎◌, ℤ, pos, negsuc, refl, ap, sym, ◌∙◌, subst, inl, inr, arith}
use Rattle.std.specs.Int.Count.{count_leading_zeros}
use Rattle.std.proofs.lemmas.Bool.{cases_lt}
use Rattle.std.proofs.lemmas.Int.{ints}
use Rattle.std.proofs.lemmas.Nat.{leading_top, pow-add, pow_pos}
use Rattle.std.proofs.Math.Nat.{mul-le-mul_left, mul-le-mul_right, mul_left_comm, pow-succ', eq_of_mul-eq-mul_right, div-add-mod, mul-mod_left, mul_comm}
use Rattle.std.proofs.Math.Pow.{pow_mono, shl_lt}
use Rattle.amf_wire.specs.Whole.{IsSize, HasParts, IsPatternOf, HasPattern, PatternsAreInverse}

-- a number that is not 0 is at most so many times a power of two
at_least : (size k : ℕ) → 0 < size → 2 ^ k ≤ size * 2 ^ k
at_least size k l = subst (λ w. w ≤ size * 2 ^ k) (let e : 1 * 2 ^ k ≡ 2 ^ k = omega arith in e) (mul-le-mul_right (2 ^ k) l)

-- what is scaled to 53 digits is scaled by at most 2^52
few_digits : (size k f : ℕ) → 0 < size → f < 4503599627370496 → size * 2 ^ k ≡ 4503599627370496 + f → k < 53
few_digits size k f l m e = elim (cases_lt k 53) [
  | inl a ↦ a
  | inr a ↦ absurd (let p : 2 ^ 53 ≤ 2 ^ k = pow_mono a in let q = at_least size k l in omega (arith, p, q, e, m))
]

-- scaled once more, there are too many digits
not_more : (size k j f g : ℕ) → f < 4503599627370496 → g < 4503599627370496 → size * 2 ^ k ≡ 4503599627370496 + f → size * 2 ^ j ≡ 4503599627370496 + g → k < j → ⊥
not_more size k j f g m n e o l =
    let p : size * 2 ^ suc k ≤ size * 2 ^ j = mul-le-mul_left size (pow_mono l) in
    let q : size * 2 ^ suc k ≡ 2 * (size * 2 ^ k) = ap (λ w. size * w) (pow-succ' 2 k) ∙ mul_left_comm size 2 (2 ^ k) in
    omega (arith, p, q, e, o, m, n)

one_scale : (size k j f g : ℕ) → f < 4503599627370496 → g < 4503599627370496 → size * 2 ^ k ≡ 4503599627370496 + f → size * 2 ^ j ≡ 4503599627370496 + g → k ≡ j
one_scale size k j f g m n e o = elim (cases_lt k j) [
  | inl a ↦ absurd (not_more size k j f g m n e o a)
  | inr a ↦ elim (cases_lt j k) [
    | inl b ↦ absurd (not_more size j k g f n m o e b)
    | inr b ↦ omega (arith, a, b)
  ]
]

-- a number that is not 0 and is below 2^53, scaled to 53 digits
pub record Scaled (size shift : ℕ) : Type 0 where
  pub shifted : 11 ≤ count_leading_zeros 64 size
  pub shift_is : shift ≡ count_leading_zeros 64 size - 11
  pub few : shift ≤ 52
  pub from_below : 4503599627370496 ≤ size * 2 ^ shift
  pub from_above : size * 2 ^ shift < 9007199254740992

pub scaled : (size : ℕ) → 0 < size → size < 9007199254740992 → Scaled size (count_leading_zeros 64 size - 11)
scaled size l m =
    let o = leading_top 64 size l (omega (arith, m)) in
    let j = o.0 in
    let e = o.1 in
    let low = o.2 in
    let high = o.3 in
    let b : j < 53 = elim (cases_lt j 53) [
      | inl a ↦ a
      | inr a ↦ absurd (let p : 2 ^ 53 ≤ 2 ^ j = pow_mono a in omega (arith, p, low, m))
    ] in
    let z : count_leading_zeros 64 size ≡ 63 - j = omega (arith, e) in
    let s : count_leading_zeros 64 size - 11 ≡ 52 - j = omega (arith, e) in
    let sum : j + (52 - j) ≡ 52 = omega (arith, b) in
    let top : suc j + (52 - j) ≡ 53 = omega (arith, b) in
    let p = mul-le-mul_right (2 ^ (52 - j)) low in
    let q : 2 ^ j * 2 ^ (52 - j) ≡ 4503599627370496 = sym (pow-add 2 j (52 - j)) ∙ ap (λ w. 2 ^ w) sum in
    let r = shl_lt (suc j) (52 - j) high in
    record {
      shifted = omega (arith, e, b);
      shift_is = refl;
      few = omega (arith, e, b);
      from_below = subst (λ w. 4503599627370496 ≤ size * 2 ^ w) (sym s) (omega (arith, p, q));
      from_above = subst (λ w. size * 2 ^ w < 9007199254740992) (sym s) (subst (λ w. size * 2 ^ (52 - j) < 2 ^ w) top r);
    }

-- the parts of a scaled number
pub scaled_parts : (size shift : ℕ) → Scaled size shift → HasParts ((1075 - shift) * 4503599627370496 + (size * 2 ^ shift - 4503599627370496)) 0 size
scaled_parts size shift s =
    let few = s.few in
    let low = s.from_below in
    let high = s.from_above in
    let back : 1075 - (1075 - shift) ≡ shift = omega (arith, few) in
    record {
      exponent = 1075 - shift;
      fraction = size * 2 ^ shift - 4503599627370496;
      in_bits = omega (arith, low, high);
      pattern_is = omega arith;
      size_is = record { whole = omega arith; value = ap (λ w. size * 2 ^ w) back ∙ (let v : size * 2 ^ shift ≡ 4503599627370496 + (size * 2 ^ shift - 4503599627370496) = omega (arith, low) in v) };
    }

-- a size has parts of its own

pub size_few : (exponent fraction size : ℕ) → 0 < size → fraction < 4503599627370496 → IsSize exponent fraction size → 1023 ≤ exponent
size_few exponent fraction size l m s = let k = few_digits size (1075 - exponent) fraction l m s.value in omega (arith, k)

pub one_exponent : (size e d f g : ℕ) → 0 < size → f < 4503599627370496 → g < 4503599627370496 → IsSize e f size → IsSize d g size → e ≡ d
one_exponent size e d f g l m n s z =
    let k = one_scale size (1075 - e) (1075 - d) f g m n s.value z.value in
    let a = s.whole in
    let b = z.whole in
    omega (arith, k, a, b)

pub one_fraction : (size e f g : ℕ) → IsSize e f size → IsSize e g size → f ≡ g
one_fraction size e f g s z = let v = s.value in let w = z.value in omega (arith, v, w)

pub one_size : (e f size other : ℕ) → IsSize e f size → IsSize e f other → size ≡ other
one_size e f size other s z = eq_of_mul-eq-mul_right (2 ^ (1075 - e)) (pow_pos (1075 - e)) size other (s.value ∙ sym z.value)

-- a size of which there is one is not 0
pub some_size : (e f size : ℕ) → IsSize e f size → 0 < size
some_size e f zero s = absurd (let v = s.value in let o : 0 * 2 ^ (1075 - e) ≡ 0 = omega arith in omega (arith, v, o))
some_size e f (suc n) s = omega arith

pub size_below : (e f size : ℕ) → f < 4503599627370496 → IsSize e f size → size < 9007199254740992
size_below e f size m s =
    let p : size * 1 ≤ size * 2 ^ (1075 - e) = mul-le-mul_left size (pow_pos (1075 - e)) in
    let v = s.value in
    omega (arith, p, v, m)

parts_alone : (sign size p q : ℕ) → 0 < size → HasParts p sign size → HasParts q sign size → p ≡ q
parts_alone sign size p q l h k =
    let e = one_exponent size h.exponent k.exponent h.fraction k.fraction l h.in_bits k.in_bits h.size_is k.size_is in
    let f = one_fraction size h.exponent h.fraction k.fraction h.size_is (subst (λ w. IsSize w k.fraction size) (sym e) k.size_is) in
    let a = h.pattern_is in
    let b = k.pattern_is in
    omega (arith, a, b, e, f)

same_parts : (p sign size other : ℕ) → HasParts p sign size → HasParts p sign other → size ≡ other
same_parts p sign size other h k =
    let a = h.pattern_is in
    let b = k.pattern_is in
    let l = h.in_bits in
    let m = k.in_bits in
    let e : h.exponent ≡ k.exponent = omega (arith, a, b, l, m) in
    let f : h.fraction ≡ k.fraction = omega (arith, a, b, l, m) in
    one_size h.exponent h.fraction size other h.size_is (subst (λ w. IsSize w h.fraction other) (sym e) (subst (λ w. IsSize k.exponent w other) (sym f) k.size_is))

no_zero : (sign size : ℕ) → 0 < size → HasParts 0 sign size → ⊥
no_zero sign size l h =
    let a = h.pattern_is in
    let e : h.exponent ≡ 0 = omega (arith, a) in
    let x = size_few h.exponent h.fraction size l h.in_bits h.size_is in
    omega (arith, e, x)

other_sign : (p size other : ℕ) → HasParts p 0 size → HasParts p 1 other → ⊥
other_sign p size other h k =
    let a = h.pattern_is in
    let b = k.pattern_is in
    let w = h.size_is.whole in
    let l = h.in_bits in
    omega (arith, a, b, w, l)

one_pattern : (n : ℤ) (p q : ℕ) → IsPatternOf p n → IsPatternOf q n → p ≡ q
one_pattern (pos zero) p q h k = h ∙ sym k
one_pattern (pos (suc n)) p q h k = parts_alone 0 (suc n) p q (omega arith) h k
one_pattern (negsuc n) p q h k = parts_alone 1 (suc n) p q (omega arith) h k

pub one_number : (p : ℕ) (m n : ℤ) → IsPatternOf p m → IsPatternOf p n → m ≡ n
one_number p (pos zero) (pos zero) h k = refl
one_number p (pos zero) (pos (suc n)) h k = absurd (no_zero 0 (suc n) (omega arith) (subst (λ w. HasParts w 0 (suc n)) h k))
one_number p (pos zero) (negsuc n) h k = absurd (no_zero 1 (suc n) (omega arith) (subst (λ w. HasParts w 1 (suc n)) h k))
one_number p (pos (suc m)) (pos zero) h k = absurd (no_zero 0 (suc m) (omega arith) (subst (λ w. HasParts w 0 (suc m)) k h))
one_number p (pos (suc m)) (pos (suc n)) h k = ap pos (same_parts p 0 (suc m) (suc n) h k)
one_number p (pos (suc m)) (negsuc n) h k = absurd (other_sign p (suc m) (suc n) h k)
one_number p (negsuc m) (pos zero) h k = absurd (no_zero 1 (suc m) (omega arith) (subst (λ w. HasParts w 1 (suc m)) k h))
one_number p (negsuc m) (pos (suc n)) h k = absurd (other_sign p (suc n) (suc m) k h)
one_number p (negsuc m) (negsuc n) h k = let e = same_parts p 1 (suc m) (suc n) h k in let o : m ≡ n = omega (arith, e) in ap negsuc o

below : (p : ℕ) (n : ℤ) → IsPatternOf p n → HasPattern n
below p (pos zero) h = omega arith
below p (pos (suc n)) h = size_below h.exponent h.fraction (suc n) h.in_bits h.size_is
below p (negsuc n) h = size_below h.exponent h.fraction (suc n) h.in_bits h.size_is

pub inverse : PatternsAreInverse
inverse = record { one_pattern = one_pattern; one_number = one_number; below = below }

-- where the scaled number does not end in so many zeros, it is the scaled form of no number
pub no_size : (exponent fraction size : ℕ) → (4503599627370496 + fraction) % 2 ^ (1075 - exponent) ≢ 0 → IsSize exponent fraction size → ⊥
no_size exponent fraction size n s = n (ap (λ w. w % 2 ^ (1075 - exponent)) (sym s.value) ∙ mul-mod_left size (2 ^ (1075 - exponent)))

-- where it does, it is that of the quotient
pub its_size : (exponent fraction : ℕ) → exponent ≤ 1075 → (4503599627370496 + fraction) % 2 ^ (1075 - exponent) ≡ 0 → IsSize exponent fraction ((4503599627370496 + fraction) / 2 ^ (1075 - exponent))
its_size exponent fraction l e = record { whole = l; value = mul_comm ((4503599627370496 + fraction) / 2 ^ (1075 - exponent)) (2 ^ (1075 - exponent)) ∙ (let q = div-add-mod (4503599627370496 + fraction) (2 ^ (1075 - exponent)) in let v : 2 ^ (1075 - exponent) * ((4503599627370496 + fraction) / 2 ^ (1075 - exponent)) ≡ 4503599627370496 + fraction = omega (arith, q, e) in v) }

-- an exponent past these is that of no whole number
pub no_exponent : (exponent fraction size : ℕ) → fraction < 4503599627370496 → (exponent < 1023) ⊎ (1075 < exponent) → IsSize exponent fraction size → ⊥
no_exponent exponent fraction size m (inl a) s = let l = some_size exponent fraction size s in let x = size_few exponent fraction size l m s in omega (arith, a, x)
no_exponent exponent fraction size m (inr b) s = let w = s.whole in omega (arith, b, w)

-- the parts of the bits of a number that is not 0
pub positive_is : (p size : ℕ) → p < 9223372036854775808 → IsSize (p / 4503599627370496 % 2048) (p % 4503599627370496) size → HasParts p 0 size
positive_is p size l s = record { exponent = p / 4503599627370496 % 2048; fraction = p % 4503599627370496; in_bits = omega arith; pattern_is = omega (arith, l); size_is = s }

pub negative_is : (p size : ℕ) → p < 18446744073709551616 → 9223372036854775808 ≤ p → IsSize (p / 4503599627370496 % 2048) (p % 4503599627370496) size → HasParts p 1 size
negative_is p size b l s = record { exponent = p / 4503599627370496 % 2048; fraction = p % 4503599627370496; in_bits = omega arith; pattern_is = omega (arith, l, b); size_is = s }

-- and the other way: what has these parts has them in its bits
pub bits_of : (p sign size : ℕ) → sign < 2 → HasParts p sign size → IsSize (p / 4503599627370496 % 2048) (p % 4503599627370496) size
bits_of p sign size l h =
    let e : h.exponent ≡ p / 4503599627370496 % 2048 = (let a = h.pattern_is in let m = h.in_bits in let w = h.size_is.whole in omega (arith, a, m, w, l)) in
    let f : h.fraction ≡ p % 4503599627370496 = (let a = h.pattern_is in let m = h.in_bits in omega (arith, a, m, l)) in
    subst (λ w. IsSize w (p % 4503599627370496) size) e (subst (λ w. IsSize h.exponent w size) f h.size_is)

pub whole_bits : (p : ℕ) (n : ℤ) → p ≢ 0 → IsPatternOf p n → (size : ℕ) × IsSize (p / 4503599627370496 % 2048) (p % 4503599627370496) size
whole_bits p (pos zero) o h = absurd (o h)
whole_bits p (pos (suc n)) o h = (suc n, bits_of p 0 (suc n) (omega arith) h)
whole_bits p (negsuc n) o h = (suc n, bits_of p 1 (suc n) (omega arith) h)

-- the whole number of a size and a sign
pub positive_pattern : (p size : ℕ) → HasParts p 0 size → IsPatternOf p (pos size)
positive_pattern p zero h = absurd (let s = some_size h.exponent h.fraction 0 h.size_is in omega (arith, s))
positive_pattern p (suc n) h = h

pub negative_pattern : (p size : ℕ) (n : ℤ) → HasParts p 1 size → n ≡ pos 0 -ℤ pos size → IsPatternOf p n
negative_pattern p zero n h e = absurd (let s = some_size h.exponent h.fraction 0 h.size_is in omega (arith, s))
negative_pattern p (suc m) n h e = let o : n ≡ negsuc m = omega (arith, ints, e) in rw o h
