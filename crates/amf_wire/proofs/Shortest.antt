-- When a spelling of so many bytes is the shortest.
use Rattle.std.proofs.Common.{◌≡◌, ℕ, ◌≤◌, ◌<◌, ◌+◌, ◌*◌, List, [], ◌∷◌, length, refl, arith}
use Rattle.amf_wire.specs.Style.{Style, free, canonical}
use Rattle.amf_wire.specs.U29.{SpellsU29, one, two, three, four, IsU29}

pub one_at_least : {n : ℕ} {bytes : List ℕ} → SpellsU29 n bytes → 1 ≤ length bytes
one_at_least (one a p e q) = rw q (omega arith)
one_at_least (two a b p q e r) = rw r (omega arith)
one_at_least (three a b c p q r e s) = rw s (omega arith)
one_at_least (four a b c d p q r s e t) = rw t (omega arith)

pub two_at_least : {n : ℕ} {bytes : List ℕ} → 128 ≤ n → SpellsU29 n bytes → 2 ≤ length bytes
two_at_least h (one a p e q) = absurd (omega arith)
two_at_least h (two a b p q e r) = rw r (omega arith)
two_at_least h (three a b c p q r e s) = rw s (omega arith)
two_at_least h (four a b c d p q r s e t) = rw t (omega arith)

pub three_at_least : {n : ℕ} {bytes : List ℕ} → 16384 ≤ n → SpellsU29 n bytes → 3 ≤ length bytes
three_at_least h (one a p e q) = absurd (omega arith)
three_at_least h (two a b p q e r) = absurd (omega arith)
three_at_least h (three a b c p q r e s) = rw s (omega arith)
three_at_least h (four a b c d p q r s e t) = rw t (omega arith)

pub four_at_least : {n : ℕ} {bytes : List ℕ} → 2097152 ≤ n → SpellsU29 n bytes → 4 ≤ length bytes
four_at_least h (one a p e q) = absurd (omega arith)
four_at_least h (two a b p q e r) = absurd (omega arith)
four_at_least h (three a b c p q r e s) = absurd (omega arith)
four_at_least h (four a b c d p q r s e t) = rw t (omega arith)

-- one byte
pub small : (s : Style) (n : ℕ) → n < 128 → IsU29 s n (n ∷ [])
small free n h = record { spelled = one n h refl refl; shortest = tt }
small canonical n h = record { spelled = one n h refl refl; shortest = λ other o. one_at_least o }

pub middle : (n a b : ℕ) → 128 ≤ n → a < 128 → b < 128 → n ≡ 128 * a + b → IsU29 canonical n ((128 + a) ∷ b ∷ [])
middle n a b h p q e = record { spelled = two a b p q e refl; shortest = λ other o. two_at_least h o }

pub large : (n a b c : ℕ) → 16384 ≤ n → a < 128 → b < 128 → c < 128 → n ≡ 16384 * a + 128 * b + c → IsU29 canonical n ((128 + a) ∷ (128 + b) ∷ c ∷ [])
large n a b c h p q r e = record { spelled = three a b c p q r e refl; shortest = λ other o. three_at_least h o }

pub big : (n a b c d : ℕ) → 2097152 ≤ n → a < 128 → b < 128 → c < 128 → d < 256 → n ≡ 4194304 * a + 32768 * b + 256 * c + d → IsU29 canonical n ((128 + a) ∷ (128 + b) ∷ (128 + c) ∷ d ∷ [])
big n a b c d h p q r s e = record { spelled = four a b c d p q r s e refl; shortest = λ other o. four_at_least h o }
