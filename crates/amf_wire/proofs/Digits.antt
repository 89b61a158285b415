-- The digits of a number below 2^29 spell it, by as few bytes as may be.
use Rattle.std.proofs.Common.{◌≡◌, ◌⊎◌, ℕ, ◌≤◌, ◌<◌, ◌+◌, ◌/◌, ◌%◌, List, [], ◌∷◌, take, refl, sym, ◌∙◌, subst, arith, inl, inr}
use Rattle.std.proofs.lemmas.Bool.Decides.{leb_tells}
use Rattle.amf_wire.specs.Style.{canonical}
use Rattle.amf_wire.specs.U29.{IsU29}
use Rattle.amf_wire.proofs.Shortest.{small, middle, large, big}

-- a number is below a bound, or not
pub below : (n m : ℕ) → (n < m) ⊎ (m ≤ n)
below n m = elim (leb_tells m n) [ inl p ↦ inr p.1 | inr p ↦ inl p.1 ]

pub two_digits : (n : ℕ) → 128 ≤ n → n < 16384 → IsU29 canonical n ((128 + n / 128 % 128) ∷ (n % 128) ∷ [])
two_digits n h k = middle n (n / 128 % 128) (n % 128) h (omega arith) (omega arith) (omega arith)

pub three_digits : (n : ℕ) → 16384 ≤ n → n < 2097152 → IsU29 canonical n ((128 + n / 16384 % 128) ∷ (128 + n / 128 % 128) ∷ (n % 128) ∷ [])
three_digits n h k = large n (n / 16384 % 128) (n / 128 % 128) (n % 128) h (omega arith) (omega arith) (omega arith) (omega arith)

pub four_digits : (n : ℕ) → 2097152 ≤ n → n < 536870912 → IsU29 canonical n ((128 + n / 4194304 % 128) ∷ (128 + n / 32768 % 128) ∷ (128 + n / 256 % 128) ∷ (n % 256) ∷ [])
four_digits n h k = big n (n / 4194304 % 128) (n / 32768 % 128) (n / 256 % 128) (n % 256) h (omega arith) (omega arith) (omega arith) (omega arith) (omega arith)

pub has_shortest : (n : ℕ) → n < 536870912 → (bytes : List ℕ) × IsU29 canonical n bytes
has_shortest n h = elim (below n 128) [
  | inl p ↦ (_, small canonical n p)
  | inr p ↦ elim (below n 16384) [
    | inl q ↦ (_, two_digits n p q)
    | inr q ↦ elim (below n 2097152) [
      | inl r ↦ (_, three_digits n q r)
      | inr r ↦ (_, four_digits n r h)
    ]
  ]
]

-- The same of bytes in a buffer of four, with their count.

abbrev Written : Type 0
Written = List ℕ × (ℕ × Unit {0})

written : (m n : ℕ) (bytes : List ℕ) (r : Written) → m ≡ n → take r.1.0 r.0 ≡ bytes → IsU29 canonical m bytes → IsU29 canonical n (take r.1.0 r.0)
written m n bytes r e f u = subst (λ k. IsU29 canonical k (take r.1.0 r.0)) e (subst (λ bs. IsU29 canonical m bs) (sym f) u)

front : (r q : Written) → r ≡ q → take r.1.0 r.0 ≡ take q.1.0 q.0
front r q e = subst (λ (x : Written). take r.1.0 r.0 ≡ take x.1.0 x.0) e refl

one_is : (a b : ℕ) → a ≡ b → (a ∷ []) ≡ (b ∷ [])
one_is a b e = cc

two_are : (a b c d : ℕ) → a ≡ c → b ≡ d → (a ∷ b ∷ []) ≡ (c ∷ d ∷ [])
two_are a b c d e f = cc

three_are : (a b c a' b' c' : ℕ) → a ≡ a' → b ≡ b' → c ≡ c' → (a ∷ b ∷ c ∷ []) ≡ (a' ∷ b' ∷ c' ∷ [])
three_are a b c a' b' c' e f g = cc

four_are : (a b c d a' b' c' d' : ℕ) → a ≡ a' → b ≡ b' → c ≡ c' → d ≡ d' → (a ∷ b ∷ c ∷ d ∷ []) ≡ (a' ∷ b' ∷ c' ∷ d' ∷ [])
four_are a b c d a' b' c' d' e f g h = cc

pub one_written : (m n : ℕ) (r : Written) → m ≡ n → m < 128 → r ≡ (m ∷ 0 ∷ 0 ∷ 0 ∷ [], (1, tt)) → IsU29 canonical n (take r.1.0 r.0)
one_written m n r e h k = written m n (m ∷ []) r e (front r (m ∷ 0 ∷ 0 ∷ 0 ∷ [], (1, tt)) k) (small canonical m h)

pub two_written : (m n a b : ℕ) (r : Written) → m ≡ n → 128 ≤ m → m < 16384 → a ≡ 128 + m / 128 % 128 → b ≡ m % 128 → r ≡ (a ∷ b ∷ 0 ∷ 0 ∷ [], (2, tt)) → IsU29 canonical n (take r.1.0 r.0)
two_written m n a b r e h l p q k = written m n ((128 + m / 128 % 128) ∷ (m % 128) ∷ []) r e (front r (a ∷ b ∷ 0 ∷ 0 ∷ [], (2, tt)) k ∙ two_are a b (128 + m / 128 % 128) (m % 128) p q) (two_digits m h l)

pub three_written : (m n a b c : ℕ) (r : Written) → m ≡ n → 16384 ≤ m → m < 2097152 → a ≡ 128 + m / 16384 % 128 → b ≡ 128 + m / 128 % 128 → c ≡ m % 128 → r ≡ (a ∷ b ∷ c ∷ 0 ∷ [], (3, tt)) → IsU29 canonical n (take r.1.0 r.0)
three_written m n a b c r e h l p q s k = written m n ((128 + m / 16384 % 128) ∷ (128 + m / 128 % 128) ∷ (m % 128) ∷ []) r e (front r (a ∷ b ∷ c ∷ 0 ∷ [], (3, tt)) k ∙ three_are a b c (128 + m / 16384 % 128) (128 + m / 128 % 128) (m % 128) p q s) (three_digits m h l)

pub four_written : (m n a b c : ℕ) (r : Written) → m ≡ n → 2097152 ≤ m → m < 536870912 → a ≡ 128 + m / 4194304 % 128 → b ≡ 128 + m / 32768 % 128 → c ≡ 128 + m / 256 % 128 → r ≡ (a ∷ b ∷ c ∷ (m % 256) ∷ [], (4, tt)) → IsU29 canonical n (take r.1.0 r.0)
four_written m n a b c r e h l p q s k = written m n ((128 + m / 4194304 % 128) ∷ (128 + m / 32768 % 128) ∷ (128 + m / 256 % 128) ∷ (m % 256) ∷ []) r e (front r (a ∷ b ∷ c ∷ (m % 256) ∷ [], (4, tt)) k ∙ four_are a b c (m % 256) (128 + m / 4194304 % 128) (128 + m / 32768 % 128) (128 + m / 256 % 128) (m % 256) p q s refl) (four_digits m h l)
