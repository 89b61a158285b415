-- Lists of numbers that rise: two of the same members are one list.
use Rattle.std.proofs.Common.{◌≡◌, ℕ, zero, suc, ◌<◌, ◌≤◌, List, [], ◌∷◌, slice_get, Some, refl, sym, ap₂, arith}
use Rattle.std.proofs.lemmas.Option.{same_Some}
use Rattle.amf_graph.proofs.Lists.{no_entry}

abbrev pub Rises : List ℕ → Type 0
Rises xs = (j k a b : ℕ) → j < k → slice_get xs j ≡ Some a → slice_get xs k ≡ Some b → a < b

-- each member of the one is a member of the other
abbrev pub IsPart : List ℕ → List ℕ → Type 0
IsPart xs ys = (k i : ℕ) → slice_get xs k ≡ Some i → (l : ℕ) × (slice_get ys l ≡ Some i)

tail_rises : (x : ℕ) (xs : List ℕ) → Rises (x ∷ xs) → Rises xs
tail_rises x xs r j k a b l e f = r (suc j) (suc k) a b (omega arith) e f

first_least : (x : ℕ) (xs : List ℕ) → Rises (x ∷ xs) → (k i : ℕ) → slice_get (x ∷ xs) k ≡ Some i → x ≤ i
first_least x xs r zero i e = let same : x ≡ i = same_Some x i e in omega arith
first_least x xs r (suc k) i e = let less : x < i = r 0 (suc k) x i (omega arith) refl e in omega arith

tail_part : (x y : ℕ) (xs ys : List ℕ) → x ≡ y → Rises (x ∷ xs) → IsPart (x ∷ xs) (y ∷ ys) → IsPart xs ys
tail_part x y xs ys same r p k i e = go (p (suc k) i e)
  where
    less : x < i
    less = r 0 (suc k) x i (omega arith) refl e

    go : (l : ℕ) × (slice_get (y ∷ ys) l ≡ Some i) → (l : ℕ) × (slice_get ys l ≡ Some i)
    go (zero, f) = let first : y ≡ i = same_Some y i f in absurd (omega (arith, less))
    go (suc l, f) = (l, f)

pub same_members : (xs ys : List ℕ) → Rises xs → Rises ys → IsPart xs ys → IsPart ys xs → xs ≡ ys
same_members [] [] r s p q = refl
same_members [] (y ∷ ys) r s p q = let o = q 0 y refl in absurd (no_entry o.0 y o.1)
same_members (x ∷ xs) [] r s p q = let o = p 0 x refl in absurd (no_entry o.0 x o.1)
same_members (x ∷ xs) (y ∷ ys) r s p q =
    let o = p 0 x refl in
    let u = q 0 y refl in
    let low : y ≤ x = first_least y ys s o.0 x o.1 in
    let high : x ≤ y = first_least x xs r u.0 y u.1 in
    let same : x ≡ y = omega arith in
    ap₂ (λ a b. a ∷ b) same (same_members xs ys (tail_rises x xs r) (tail_rises y ys s) (tail_part x y xs ys same r p) (tail_part y x ys xs (sym same) s q))
