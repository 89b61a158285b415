-- No number has two shortest spellings.
use Rattle.std.proofs.Common.{◌≡◌, ℕ, ◌+◌, List, [], ◌∷◌, length, sym, ◌∙◌, ap, arith}
use Rattle.amf_wire.specs.Style.{canonical}
use Rattle.amf_wire.specs.U29.{SpellsU29, one, two, three, four, IsU29}

one_is : (a b : ℕ) → a ≡ b → (a ∷ []) ≡ (b ∷ [])
one_is a b e = cc

two_are : (a b c d : ℕ) → a ≡ c → b ≡ d → ((128 + a) ∷ b ∷ []) ≡ ((128 + c) ∷ d ∷ [])
two_are a b c d e f = cc

three_are : (a b c a' b' c' : ℕ) → a ≡ a' → b ≡ b' → c ≡ c' → ((128 + a) ∷ (128 + b) ∷ c ∷ []) ≡ ((128 + a') ∷ (128 + b') ∷ c' ∷ [])
three_are a b c a' b' c' e f g = cc

four_are : (a b c d a' b' c' d' : ℕ) → a ≡ a' → b ≡ b' → c ≡ c' → d ≡ d' → ((128 + a) ∷ (128 + b) ∷ (128 + c) ∷ d ∷ []) ≡ ((128 + a') ∷ (128 + b') ∷ (128 + c') ∷ d' ∷ [])
four_are a b c d a' b' c' d' e f g h = cc

-- spellings of as many bytes are the same
pub as_long : {n : ℕ} {xs ys : List ℕ} → length xs ≡ length ys → SpellsU29 n xs → SpellsU29 n ys → xs ≡ ys
as_long l (one a p e s) (one a' p' e' s') = s ∙ one_is a a' (omega arith) ∙ sym s'
as_long l (two a b p q e s) (two a' b' p' q' e' s') = s ∙ two_are a b a' b' (omega arith) (omega arith) ∙ sym s'
as_long l (three a b c p q r e s) (three a' b' c' p' q' r' e' s') = s ∙ three_are a b c a' b' c' (omega arith) (omega arith) (omega arith) ∙ sym s'
as_long l (four a b c d p q r t e s) (four a' b' c' d' p' q' r' t' e' s') = s ∙ four_are a b c d a' b' c' d' (omega arith) (omega arith) (omega arith) (omega arith) ∙ sym s'
as_long l (one a p e s) (two a' b' p' q' e' s') = absurd (omega (arith, ap length s, ap length s'))
as_long l (one a p e s) (three a' b' c' p' q' r' e' s') = absurd (omega (arith, ap length s, ap length s'))
as_long l (one a p e s) (four a' b' c' d' p' q' r' t' e' s') = absurd (omega (arith, ap length s, ap length s'))
as_long l (two a b p q e s) (one a' p' e' s') = absurd (omega (arith, ap length s, ap length s'))
as_long l (two a b p q e s) (three a' b' c' p' q' r' e' s') = absurd (omega (arith, ap length s, ap length s'))
as_long l (two a b p q e s) (four a' b' c' d' p' q' r' t' e' s') = absurd (omega (arith, ap length s, ap length s'))
as_long l (three a b c p q r e s) (one a' p' e' s') = absurd (omega (arith, ap length s, ap length s'))
as_long l (three a b c p q r e s) (two a' b' p' q' e' s') = absurd (omega (arith, ap length s, ap length s'))
as_long l (three a b c p q r e s) (four a' b' c' d' p' q' r' t' e' s') = absurd (omega (arith, ap length s, ap length s'))
as_long l (four a b c d p q r t e s) (one a' p' e' s') = absurd (omega (arith, ap length s, ap length s'))
as_long l (four a b c d p q r t e s) (two a' b' p' q' e' s') = absurd (omega (arith, ap length s, ap length s'))
as_long l (four a b c d p q r t e s) (three a' b' c' p' q' r' e' s') = absurd (omega (arith, ap length s, ap length s'))

pub alone : (n : ℕ) (bytes other : List ℕ) → IsU29 canonical n bytes → IsU29 canonical n other → bytes ≡ other
alone n bytes other u v = as_long (omega (arith, u.shortest other v.spelled, v.shortest bytes u.spelled)) u.spelled v.spelled
