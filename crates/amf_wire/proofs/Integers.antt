-- An integer of 29 bits and the number of the same bits give each other.
use Rattle.std.proofs.Common.{◌≡◌, ℕ, ◌-◌, ◌<◌, ◌≤◌, ℤ, pos, negsuc, ◌-ℤ◌, true, false, nat_lt, refl, ap, sym, subst, ◌∙◌, arith, inl, inr}
use Rattle.std.proofs.lemmas.Int.{ints}
use Rattle.amf_wire.specs.Integer.{IsInteger, integer_bits, integer_of}
use Rattle.amf_wire.proofs.Digits.{below}

small : (n : ℕ) → n < 268435456 → nat_lt n 268435456 ≡ true
small n h = grind arith

large : (n : ℕ) → 268435456 ≤ n → nat_lt n 268435456 ≡ false
large n h = grind arith

less : (n : ℕ) → n < 536870912 → (pos n -ℤ pos 536870912) ≡ negsuc (536870911 - n)
less n h = omega (arith, ints)

-- the integer of bits below 2^28, and from there on
pub integer_of-low : (n : ℕ) → n < 268435456 → integer_of n ≡ pos n
integer_of-low n h = rw (small n h) refl

pub integer_of-high : (n : ℕ) → 268435456 ≤ n → n < 536870912 → integer_of n ≡ negsuc (536870911 - n)
integer_of-high n h k = rw (large n h) (less n k)

pub bits_below : (z : ℤ) → IsInteger z → integer_bits z < 536870912
bits_below (pos n) h = omega arith
bits_below (negsuc n) h = omega arith

pub integer_of-integer_bits : (z : ℤ) → IsInteger z → integer_of (integer_bits z) ≡ z
integer_of-integer_bits (pos n) h = integer_of-low n h
integer_of-integer_bits (negsuc n) h =
    let back : 536870911 - (536870911 - n) ≡ n = omega arith in
    integer_of-high (536870911 - n) (omega arith) (omega arith) ∙ ap negsuc back

pub integer_bits-integer_of : (n : ℕ) → n < 536870912 → integer_bits (integer_of n) ≡ n
integer_bits-integer_of n h = elim (below n 268435456) [
  | inl p ↦ ap integer_bits (integer_of-low n p)
  | inr p ↦ let back : 536870911 - (536870911 - n) ≡ n = omega arith in ap integer_bits (integer_of-high n p h) ∙ back
]

pub integer_of-in_range : (n : ℕ) → n < 536870912 → IsInteger (integer_of n)
integer_of-in_range n h = elim (below n 268435456) [
  | inl p ↦ subst IsInteger (sym (integer_of-low n p)) p
  | inr p ↦ let k : 536870911 - n < 268435456 = omega arith in subst IsInteger (sym (integer_of-high n p h)) k
]
