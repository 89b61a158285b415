-- Values one behind the other, each of which takes up so many places from its number on.
use Rattle.std.proofs.Common.{◌≡◌, ℕ, zero, suc, ◌+◌, List, [], ◌∷◌, ◌++◌, length, slice_get, Some, refl, sym, ap, ap₂, ◌∙◌, subst, append_assoc, length-append, arith}
use Rattle.std.proofs.lemmas.Option.{same_Some}
use Rattle.amf_graph.specs.Graph.{Value}
use Rattle.amf_graph.proofs.Lists.{at_left}

module _ (size : Value → ℕ) where
  abbrev pub sizes : List Value → ℕ
  sizes [] = 0
  sizes (v ∷ vs) = size v + sizes vs

  -- of those before a place
  abbrev pub front : List Value → ℕ → ℕ
  front vs zero = 0
  front [] (suc k) = 0
  front (v ∷ vs) (suc k) = size v + front vs k

  pub sizes_append : (xs ys : List Value) → sizes (xs ++ ys) ≡ sizes xs + sizes ys
  sizes_append [] ys = omega arith
  sizes_append (x ∷ xs) ys = let e = sizes_append xs ys in omega (arith, e)

-- the one list stands in the other, from this place on
abbrev pub Covers : {X : Type 0} → List X → ℕ → List X → Type 0
Covers {X} xs n ys = (j : ℕ) (x : X) → slice_get xs j ≡ Some x → slice_get ys (n + j) ≡ Some x

pub behind_at : {X : Type 0} (xs ys : List X) (j : ℕ) (x : X) → slice_get ys j ≡ Some x → slice_get (xs ++ ys) (length xs + j) ≡ Some x
behind_at [] ys j x e = ap (λ n. slice_get ys n) (zero_left j) ∙ e
  where
    zero_left : (j : ℕ) → 0 + j ≡ j
    zero_left j = omega arith
behind_at (y ∷ xs) ys j x e = ap (λ n. slice_get (y ∷ (xs ++ ys)) n) (suc_left (length xs) j) ∙ behind_at xs ys j x e
  where
    suc_left : (n j : ℕ) → suc n + j ≡ suc (n + j)
    suc_left n j = omega arith

pub covers_left : {X : Type 0} (xs ys : List X) → Covers xs 0 (xs ++ ys)
covers_left xs ys j x e = ap (λ n. slice_get (xs ++ ys) n) (zero_left j) ∙ at_left xs ys j x e
  where
    zero_left : (j : ℕ) → 0 + j ≡ j
    zero_left j = omega arith

pub covers_behind : {X : Type 0} (xs ys zs : List X) (n m : ℕ) → n ≡ length ys → Covers xs m zs → Covers xs (n + m) (ys ++ zs)
covers_behind xs ys zs n m e c j x h = ap (λ k. slice_get (ys ++ zs) k) (by_parts n m j (length ys) e) ∙ behind_at ys zs (m + j) x (c j x h)
  where
    by_parts : (n m j l : ℕ) → n ≡ l → n + m + j ≡ l + (m + j)
    by_parts n m j l e = omega (arith, e)

pub covers_through : {X : Type 0} (xs ys zs : List X) (n m : ℕ) → Covers xs n ys → Covers ys m zs → Covers xs (m + n) zs
covers_through xs ys zs n m c d j x h = ap (λ k. slice_get zs k) (by_parts m n j) ∙ d (n + j) x (c j x h)
  where
    by_parts : (m n j : ℕ) → m + n + j ≡ m + (n + j)
    by_parts m n j = omega arith

module _ {X : Type 0} (size : Value → ℕ) (fl : ℕ → Value → List X) where
  abbrev pub spread : ℕ → List Value → List X
  spread n [] = []
  spread n (v ∷ vs) = fl n v ++ spread (n + size v) vs

  pub spread_append : (n : ℕ) (xs ys : List Value) → spread n (xs ++ ys) ≡ spread n xs ++ spread (n + sizes size xs) ys
  spread_append n [] ys = ap (λ m. spread m ys) (plus_zero n)
    where
      plus_zero : (n : ℕ) → n ≡ n + 0
      plus_zero n = omega arith
  spread_append n (x ∷ xs) ys =
      ap (λ l. fl n x ++ l) (spread_append (n + size x) xs ys ∙ ap (λ m. spread (n + size x) xs ++ spread m ys) (by_parts n (size x) (sizes size xs)))
      ∙ sym (append_assoc (fl n x) (spread (n + size x) xs) (spread (n + (size x + sizes size xs)) ys))
    where
      by_parts : (a b c : ℕ) → a + b + c ≡ a + (b + c)
      by_parts a b c = omega arith

  module _ (long : (n : ℕ) (v : Value) → length (fl n v) ≡ size v) where
    pub spread_length : (n : ℕ) (vs : List Value) → length (spread n vs) ≡ sizes size vs
    spread_length n [] = refl
    spread_length n (v ∷ vs) = length-append (fl n v) (spread (n + size v) vs) ∙ ap₂ (λ a b. a + b) (long n v) (spread_length (n + size v) vs)

    pub spread_covers : (n : ℕ) (vs : List Value) (k : ℕ) (v : Value) → slice_get vs k ≡ Some v → Covers (fl (n + front size vs k) v) (front size vs k) (spread n vs)
    spread_covers n [] k v e = cc
    spread_covers n (u ∷ vs) zero v e = subst (λ m. Covers (fl m v) 0 (fl n u ++ spread (n + size u) vs)) (plus_zero n) (subst (λ z. Covers (fl n z) 0 (fl n u ++ spread (n + size u) vs)) (same_Some u v e) (covers_left (fl n u) (spread (n + size u) vs)))
      where
        plus_zero : (n : ℕ) → n ≡ n + 0
        plus_zero n = omega arith
    spread_covers n (u ∷ vs) (suc k) v e =
        covers_behind (fl (n + (size u + front size vs k)) v) (fl n u) (spread (n + size u) vs) (size u) (front size vs k) (sym (long n u))
        (subst (λ m. Covers (fl m v) (front size vs k) (spread (n + size u) vs)) (by_parts n (size u) (front size vs k)) (spread_covers (n + size u) vs k v e))
      where
        by_parts : (a b c : ℕ) → a + b + c ≡ a + (b + c)
        by_parts a b c = omega arith

pub spread_same : {X : Type 0} (size : Value → ℕ) (fl gl : ℕ → Value → List X) → ((n : ℕ) (v : Value) → fl n v ≡ gl n v) → (n : ℕ) (vs : List Value) → spread size fl n vs ≡ spread size gl n vs
spread_same size fl gl same n [] = refl
spread_same size fl gl same n (v ∷ vs) = ap₂ (λ a b. a ++ b) (same n v) (spread_same size fl gl same (n + size v) vs)
