-- Whole numbers and their doubles as functions are those that the relation names.
use Rattle.std.proofs.Common.{◌≡◌, ◌≢◌, ℕ, zero, suc, ◌+◌, ◌-◌, ◌/◌, ◌%◌, ◌^◌, ◌<◌, ◌≤◌, nat_lt, Bool, true, false, if◌then◌else◌, ℤ, pos, negsuc, Option, Some, None, refl, ap, sym, ◌∙◌, subst, inl, inr, arith}
use Rattle.std.specs.Prelude.{nat_le, ◌==◌, ◌&&◌, ◌≤ℤ◌, IfSome, IsNone}
use Rattle.std.proofs.lemmas.Int.{ints}
use Rattle.std.proofs.Math.Nat.{mul-mod_left}
use Rattle.std.proofs.lemmas.Bool.{cases_eq, cases_lt}
use Rattle.std.proofs.lemmas.Option.{same_Some}
use Rattle.amf_wire.specs.Whole.{IsSize, HasParts, IsPatternOf, HasPattern}
use Rattle.amf_wire.proofs.Doubles.{inverse, scaled, scaled_parts, size_few, one_size, its_size, some_size, bits_of, positive_is, negative_is, positive_pattern}
use Rattle.amf_wire.specs.WholeNumbers.{size_of, below_zero, signed, whole_of, shift_of, pattern_of, signed_pattern, WholeNumbers}

all_true : (a b c : Bool) → a ≡ true → b ≡ true → c ≡ true → (a && (b && c)) ≡ true
all_true true true true p q r = refl
all_true true true false p q r = cc
all_true true false c p q r = cc
all_true false b c p q r = cc

each_true : (a b c : Bool) → (a && (b && c)) ≡ true → (a ≡ true) × (b ≡ true) × (c ≡ true)
each_true true true true e = (refl, refl, refl)
each_true true true false e = cc
each_true true false c e = cc
each_true false b c e = cc

pub if_true : {X : Type 0} (t : Bool) (x y : X) → t ≡ true → (if t then x else y) ≡ x
if_true true x y e = refl
if_true false x y e = cc

if_false : {X : Type 0} (t : Bool) (x y : X) → t ≡ false → (if t then x else y) ≡ y
if_false true x y e = cc
if_false false x y e = refl

pub lt_true : (a b : ℕ) → a < b → nat_lt a b ≡ true
lt_true a b l = grind arith

le_true : (a b : ℕ) → a ≤ b → nat_le a b ≡ true
le_true a b l = grind arith

le_false : (a b : ℕ) → b < a → nat_le a b ≡ false
le_false a b l = grind arith

true_le : (a b : ℕ) → nat_le a b ≡ true → a ≤ b
true_le a b e = grind arith

eq_true : (a b : ℕ) → a ≡ b → (a == b) ≡ true
eq_true a b e = grind arith

true_eq : (a b : ℕ) → (a == b) ≡ true → a ≡ b
true_eq a b e = grind arith

eq_false : (a b : ℕ) → a ≢ b → (a == b) ≡ false
eq_false a b n = grind arith

size_some : (e f size : ℕ) → f < 4503599627370496 → IsSize e f size → size_of e f ≡ Some size
size_some e f size m s =
    let l = some_size e f size s in
    let rest : (4503599627370496 + f) % 2 ^ (1075 - e) ≡ 0 = ap (λ w. w % 2 ^ (1075 - e)) (sym s.value) ∙ mul-mod_left size (2 ^ (1075 - e)) in
    if_true (nat_le 1023 e && (nat_le e 1075 && (4503599627370496 + f) % 2 ^ (1075 - e) == 0)) (Some ((4503599627370496 + f) / 2 ^ (1075 - e))) None
    (all_true (nat_le 1023 e) (nat_le e 1075) ((4503599627370496 + f) % 2 ^ (1075 - e) == 0) (le_true 1023 e (size_few e f size l m s)) (le_true e 1075 s.whole) (eq_true ((4503599627370496 + f) % 2 ^ (1075 - e)) 0 rest))
    ∙ ap (λ w. Some w) (one_size e f ((4503599627370496 + f) / 2 ^ (1075 - e)) size (its_size e f s.whole rest) s)

by_test : (t : Bool) (q size : ℕ) → (if t then Some q else None) ≡ Some size → (t ≡ true) × (q ≡ size)
by_test true q size h = (refl, same_Some q size h)
by_test false q size h = let h : ◌≡◌ {A = Option ℕ} None (Some size) = h in cc

size_is : (e f size : ℕ) → size_of e f ≡ Some size → IsSize e f size
size_is e f size h =
    let t = by_test (nat_le 1023 e && (nat_le e 1075 && (4503599627370496 + f) % 2 ^ (1075 - e) == 0)) ((4503599627370496 + f) / 2 ^ (1075 - e)) size h in
    let b = each_true (nat_le 1023 e) (nat_le e 1075) ((4503599627370496 + f) % 2 ^ (1075 - e) == 0) t.0 in
    subst (IsSize e f) t.1 (its_size e f (true_le e 1075 b.1) (true_eq ((4503599627370496 + f) % 2 ^ (1075 - e)) 0 b.2))

-- Of a number that is not 0, by its sign.

not_zero : (p sign size : ℕ) → HasParts p sign size → p ≢ 0
not_zero p sign size h e =
    let a = h.pattern_is in
    let l = some_size h.exponent h.fraction size h.size_is in
    let w = size_few h.exponent h.fraction size l h.in_bits h.size_is in
    absurd (omega (arith, a, w, e))

of_sign : (p : ℕ) → p ≢ 0 → whole_of p ≡ signed (nat_le 9223372036854775808 p) (size_of (p / 4503599627370496 % 2048) (p % 4503599627370496))
of_sign p n = if_false (p == 0) (Some (pos 0)) (signed (nat_le 9223372036854775808 p) (size_of (p / 4503599627370496 % 2048) (p % 4503599627370496))) (eq_false p 0 n)

whole_parts : (p sign size : ℕ) (negative : Bool) → sign < 2 → HasParts p sign size → nat_le 9223372036854775808 p ≡ negative → whole_of p ≡ signed negative (Some size)
whole_parts p sign size negative l h e =
    of_sign p (not_zero p sign size h)
    ∙ ap (λ t. signed t (size_of (p / 4503599627370496 % 2048) (p % 4503599627370496))) e
    ∙ ap (signed negative) (size_some (p / 4503599627370496 % 2048) (p % 4503599627370496) size (omega arith) (bits_of p sign size l h))

pub whole : (p : ℕ) (n : ℤ) → p < 2 ^ 64 → IsPatternOf p n → whole_of p ≡ Some n
whole p (pos zero) b h = if_true (p == 0) (Some (pos 0)) (signed (nat_le 9223372036854775808 p) (size_of (p / 4503599627370496 % 2048) (p % 4503599627370496))) (eq_true p 0 h)
whole p (pos (suc n)) b h =
    whole_parts p 0 (suc n) false (omega arith) h (le_false 9223372036854775808 p (let a = h.pattern_is in let m = h.in_bits in let w = h.size_is.whole in omega (arith, a, m, w)))
whole p (negsuc n) b h =
    whole_parts p 1 (suc n) true (omega arith) h (le_true 9223372036854775808 p (let a = h.pattern_is in omega (arith, a)))

signed_is : (negative : Bool) (o : Option ℕ) (n : ℤ) → signed negative o ≡ Some n → (size : ℕ) × (o ≡ Some size) × ((if negative then below_zero size else pos size) ≡ n)
signed_is negative None n e = cc
signed_is negative (Some size) n e = (size, refl, same_Some (if negative then below_zero size else pos size) n e)

below_is : (p size : ℕ) → HasParts p 1 size → IsPatternOf p (below_zero size)
below_is p zero h = absurd (let s = some_size h.exponent h.fraction 0 h.size_is in omega (arith, s))
below_is p (suc n) h = h

pub is_whole : (p : ℕ) (n : ℤ) → p < 2 ^ 64 → whole_of p ≡ Some n → IsPatternOf p n
is_whole p n b e = elim (cases_eq p 0) [
  | inl z ↦ subst (IsPatternOf p) (same_Some (pos 0) n (sym (if_true (p == 0) (Some (pos 0)) (signed (nat_le 9223372036854775808 p) (size_of (p / 4503599627370496 % 2048) (p % 4503599627370496))) (eq_true p 0 z)) ∙ e)) z
  | inr o ↦
      let s = signed_is (nat_le 9223372036854775808 p) (size_of (p / 4503599627370496 % 2048) (p % 4503599627370496)) n (sym (of_sign p o) ∙ e) in
      let z = size_is (p / 4503599627370496 % 2048) (p % 4503599627370496) s.0 s.1 in
      elim (cases_lt p 9223372036854775808) [
        | inl l ↦ subst (IsPatternOf p) (ap (λ t. if t then below_zero s.0 else pos s.0) (sym (le_false 9223372036854775808 p l)) ∙ s.2) (positive_pattern p s.0 (positive_is p s.0 l z))
        | inr l ↦ subst (IsPatternOf p) (ap (λ t. if t then below_zero s.0 else pos s.0) (sym (le_true 9223372036854775808 p l)) ∙ s.2) (below_is p s.0 (negative_is p s.0 b l z))
      ]
]

parts : (n : ℕ) → suc n < 9007199254740992 → HasParts (pattern_of (suc n)) 0 (suc n)
parts n l = scaled_parts (suc n) (shift_of (suc n)) (scaled (suc n) (omega arith) l)

pub pattern : (n : ℕ) → n < 9007199254740992 → IsPatternOf (pattern_of n) (pos n)
pattern zero l = refl
pattern (suc n) l = parts n l

below : (n : ℕ) → suc n < 9007199254740992 → IsPatternOf (signed_pattern (negsuc n)) (negsuc n)
below n l =
    let h = parts n l in
    record { exponent = h.exponent; fraction = h.fraction; in_bits = h.in_bits; pattern_is = (let a = h.pattern_is in omega (arith, a)); size_is = h.size_is }

pub pattern_is : (n : ℤ) → HasPattern n → IsPatternOf (signed_pattern n) n
pattern_is (pos n) l = pattern n l
pattern_is (negsuc n) l = below n l

pub whole_numbers : WholeNumbers
whole_numbers = record { whole = whole; is_whole = is_whole; pattern = pattern_is }

-- what is answered by the relation is the function
pub answered : (p : ℕ) (o : Option ℤ) → p < 2 ^ 64 → IfSome o (λ v. IsPatternOf p v) → (IsNone o → (v : ℤ) → IsPatternOf p v → ⊥) → o ≡ whole_of p
answered p (Some v) b s n = sym (whole p v b s)
answered p None b s n = go (whole_of p) refl
  where
    go : (o : Option ℤ) → whole_of p ≡ o → None ≡ o
    go None e = refl
    go (Some v) e = absurd (n refl v (is_whole p v b e))

-- a whole number of a double is below 2^53 in size
in_range : (n : ℤ) → HasPattern n → (negsuc 9007199254740990 ≤ℤ n) × (n ≤ℤ pos 9007199254740991)
in_range (pos n) l = (omega (arith, ints, l), omega (arith, ints, l))
in_range (negsuc n) l = (omega (arith, ints, l), omega (arith, ints, l))

pub bounded : (p : ℕ) (o : Option ℤ) → IfSome o (λ v. IsPatternOf p v) → IfSome o (λ v. (negsuc 9007199254740990 ≤ℤ v) × (v ≤ℤ pos 9007199254740991))
bounded p (Some v) s = in_range v (inverse.below p v s)
bounded p None s = s
