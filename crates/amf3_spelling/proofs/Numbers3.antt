-- Numbers of 29 bits at the front of one input, and the shortest ones.
use Rattle.std.proofs.Common.{◌≡◌, ℕ, ◌<◌, List, ◌∷◌, ◌++◌, sym, ◌∙◌, arith}
use Rattle.amf_wire.specs.Style.{Style, canonical}
use Rattle.amf_wire.specs.U29.{SpellsU29, one, two, three, four, IsU29}
use Rattle.amf_wire.proofs.Alone.{alone}
use Rattle.amf_wire.proofs.Digits.{has_shortest}
use Rattle.amf_graph.proofs.Lists.{cons_same, moved}

same_two : {a a' b b' : ℕ} {r q : List ℕ} → a ∷ b ∷ r ≡ a' ∷ b' ∷ q → (a ≡ a') × (b ≡ b') × (r ≡ q)
same_two e = (cc, cc, cc)

same_three : {a a' b b' c c' : ℕ} {r q : List ℕ} → a ∷ b ∷ c ∷ r ≡ a' ∷ b' ∷ c' ∷ q → (a ≡ a') × (b ≡ b') × (c ≡ c') × (r ≡ q)
same_three e = (cc, cc, cc, cc)

same_four : {a a' b b' c c' d d' : ℕ} {r q : List ℕ} → a ∷ b ∷ c ∷ d ∷ r ≡ a' ∷ b' ∷ c' ∷ d' ∷ q → (a ≡ a') × (b ≡ b') × (c ≡ c') × (d ≡ d') × (r ≡ q)
same_four e = (cc, cc, cc, cc, cc)

spells_same : (n m : ℕ) (b c r q : List ℕ) → SpellsU29 n b → SpellsU29 m c → b ++ r ≡ c ++ q → (n ≡ m) × (r ≡ q)
spells_same n m b c r q (one a0 l i e) (one b0 k i2 f) h = let p = cons_same (moved b _ c _ r q e f h) in (i ∙ p.0 ∙ sym i2, p.1)
spells_same n m b c r q (one a0 l i e) (two h1 l1 _ _ _ f) h = let p = cons_same (moved b _ c _ r q e f h) in absurd (omega arith)
spells_same n m b c r q (one a0 l i e) (three h1 m1 l1 _ _ _ _ f) h = let p = cons_same (moved b _ c _ r q e f h) in absurd (omega arith)
spells_same n m b c r q (one a0 l i e) (four h1 m1 l1 e1 _ _ _ _ _ f) h = let p = cons_same (moved b _ c _ r q e f h) in absurd (omega arith)
spells_same n m b c r q (two h1 l1 _ _ _ e) (one b0 k i2 f) h = let p = cons_same (moved b _ c _ r q e f h) in absurd (omega arith)
spells_same n m b c r q (two h1 l1 a a1 v e) (two h2 l2 a2 a3 v2 f) h = let p = same_two (moved b _ c _ r q e f h) in (omega arith, p.2)
spells_same n m b c r q (two h1 l1 a a1 v e) (three h2 m2 l2 a2 a3 a4 v2 f) h = let p = same_two (moved b _ c _ r q e f h) in absurd (omega arith)
spells_same n m b c r q (two h1 l1 a a1 v e) (four h2 m2 l2 e2 a2 a3 a4 a5 v2 f) h = let p = same_two (moved b _ c _ r q e f h) in absurd (omega arith)
spells_same n m b c r q (three h1 m1 l1 a a1 a2 v e) (one b0 k i2 f) h = let p = cons_same (moved b _ c _ r q e f h) in absurd (omega arith)
spells_same n m b c r q (three h1 m1 l1 a a1 a2 v e) (two h2 l2 a3 a4 v2 f) h = let p = same_two (moved b _ c _ r q e f h) in absurd (omega arith)
spells_same n m b c r q (three h1 m1 l1 a a1 a2 v e) (three h2 m2 l2 a3 a4 a5 v2 f) h = let p = same_three (moved b _ c _ r q e f h) in (omega arith, p.3)
spells_same n m b c r q (three h1 m1 l1 a a1 a2 v e) (four h2 m2 l2 e2 a3 a4 a5 a6 v2 f) h = let p = same_three (moved b _ c _ r q e f h) in absurd (omega arith)
spells_same n m b c r q (four h1 m1 l1 e1 _ _ _ _ _ e) (one b0 k i2 f) h = let p = cons_same (moved b _ c _ r q e f h) in absurd (omega arith)
spells_same n m b c r q (four h1 m1 l1 e1 a a1 a2 a3 v e) (two h2 l2 a4 a5 v2 f) h = let p = same_two (moved b _ c _ r q e f h) in absurd (omega arith)
spells_same n m b c r q (four h1 m1 l1 e1 a a1 a2 a3 v e) (three h2 m2 l2 a4 a5 a6 v2 f) h = let p = same_three (moved b _ c _ r q e f h) in absurd (omega arith)
spells_same n m b c r q (four h1 m1 l1 e1 a a1 a2 a3 v e) (four h2 m2 l2 e2 a4 a5 a6 a7 v2 f) h = let p = same_four (moved b _ c _ r q e f h) in (omega arith, p.4)

spells_bound : (n : ℕ) (b : List ℕ) → SpellsU29 n b → n < 536870912
spells_bound n b (one a l i e) = omega arith
spells_bound n b (two h1 l1 a a1 v e) = omega arith
spells_bound n b (three h1 m1 l1 a a1 a2 v e) = omega arith
spells_bound n b (four h1 m1 l1 e1 a a1 a2 a6 v e) = omega arith

pub number_same : {s z : Style} (n m : ℕ) (b c r q : List ℕ) → IsU29 s n b → IsU29 z m c → b ++ r ≡ c ++ q → (n ≡ m) × (r ≡ q)
number_same n m b c r q x y e = spells_same n m b c r q x.spelled y.spelled e

pub number_fixed : (n : ℕ) (b c : List ℕ) → IsU29 canonical n b → IsU29 canonical n c → b ≡ c
number_fixed = alone

pub number_bound : (s : Style) (n : ℕ) (b : List ℕ) → IsU29 s n b → n < 536870912
number_bound s n b x = spells_bound n b x.spelled

pub number_found : (n : ℕ) → n < 536870912 → (b : List ℕ) × IsU29 canonical n b
number_found = has_shortest
