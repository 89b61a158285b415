-- Entries of lists by their places.
use Rattle.std.proofs.Common.{◌≡◌, ℕ, zero, suc, ◌<◌, ◌≢◌, ◌⊎◌, List, [], ◌∷◌, ◌++◌, length, slice_get, Some, sym, refl, ap, ◌∙◌, inl, inr, arith}
use Rattle.std.proofs.lemmas.Option.{same_Some}

pub cons_same : {X : Type 0} {x y : X} {xs ys : List X} → x ∷ xs ≡ y ∷ ys → (x ≡ y) × (xs ≡ ys)
cons_same e = (cc, cc)

pub moved : (b b' c c' r q : List ℕ) → b ≡ b' → c ≡ c' → b ++ r ≡ c ++ q → b' ++ r ≡ c' ++ q
moved b b' c c' r q e f h = sym (ap (λ z. z ++ r) e) ∙ h ∙ ap (λ z. z ++ q) f

pub entry : {X : Type 0} (xs : List X) (k : ℕ) → k < length xs → (x : X) × (slice_get xs k ≡ Some x)
entry [] k h = absurd (omega arith)
entry (x ∷ xs) zero h = (x, refl)
entry (x ∷ xs) (suc k) h = entry xs k (omega arith)

pub at_left : {X : Type 0} (xs ys : List X) (k : ℕ) (x : X) → slice_get xs k ≡ Some x → slice_get (xs ++ ys) k ≡ Some x
at_left [] ys k x e = cc
at_left (y ∷ xs) ys zero x e = e
at_left (y ∷ xs) ys (suc k) x e = at_left xs ys k x e

pub at_end : {X : Type 0} (xs : List X) (x : X) → slice_get (xs ++ x ∷ []) (length xs) ≡ Some x
at_end [] x = refl
at_end (y ∷ xs) x = at_end xs x

pub at_push : {X : Type 0} (xs : List X) (y : X) (k : ℕ) (x : X) → slice_get (xs ++ y ∷ []) k ≡ Some x → (slice_get xs k ≡ Some x) ⊎ ((k ≡ length xs) × (y ≡ x))
at_push [] y zero x e = inr (refl, cc)
at_push [] y (suc k) x e = cc
at_push (z ∷ xs) y zero x e = inl e
at_push (z ∷ xs) y (suc k) x e = elim (at_push xs y k x e) [ inl f ↦ inl f | inr p ↦ inr (ap suc p.0, p.1) ]

pub length_pushed : {X : Type 0} (xs : List X) (y : X) → length (xs ++ y ∷ []) ≡ suc (length xs)
length_pushed [] y = refl
length_pushed (x ∷ xs) y = ap suc (length_pushed xs y)

pub split_same : {X : Type 0} (xs ys r q : List X) → length xs ≡ length ys → xs ++ r ≡ ys ++ q → (xs ≡ ys) × (r ≡ q)
split_same [] [] r q l e = (refl, e)
split_same [] (y ∷ ys) r q l e = absurd (omega arith)
split_same (x ∷ xs) [] r q l e = absurd (omega arith)
split_same (x ∷ xs) (y ∷ ys) r q l e =
    let p : (x ≡ y) × (xs ++ r ≡ ys ++ q) = cons_same e in
    let f : (xs ≡ ys) × (r ≡ q) = split_same xs ys r q (omega arith) p.1 in
    (cc, f.1)

pub not_empty : {X : Type 0} (xs : List X) → xs ≢ [] → 0 < length xs
not_empty [] h = absurd (h refl)
not_empty (x ∷ xs) h = omega arith

-- the first place of an entry, or that there is none
pub search_for : {X : Type 0} → ((x y : X) → (x ≡ y) ⊎ (x ≡ y → ⊥)) → (xs : List X) (x : X) → ((k : ℕ) × (slice_get xs k ≡ Some x) × ((j : ℕ) → j < k → slice_get xs j ≢ Some x)) ⊎ ((k : ℕ) → slice_get xs k ≢ Some x)
search_for same [] x = inr (λ k e. cc)
search_for same (y ∷ ys) x = step (same y x) (search_for same ys x)
  where
    later : (y ≡ x → ⊥) → (n : ℕ) → ((j : ℕ) → j < n → slice_get ys j ≢ Some x) → (j : ℕ) → j < suc n → slice_get (y ∷ ys) j ≢ Some x
    later no_x n f zero l e = no_x (same_Some y x e)
    later no_x n f (suc j) l e = f j (omega arith) e

    nowhere : (y ≡ x → ⊥) → ((k : ℕ) → slice_get ys k ≢ Some x) → (k : ℕ) → slice_get (y ∷ ys) k ≢ Some x
    nowhere no_x a zero e = no_x (same_Some y x e)
    nowhere no_x a (suc k) e = a k e

    step : (y ≡ x) ⊎ (y ≡ x → ⊥) → ((k : ℕ) × (slice_get ys k ≡ Some x) × ((j : ℕ) → j < k → slice_get ys j ≢ Some x)) ⊎ ((k : ℕ) → slice_get ys k ≢ Some x) → ((k : ℕ) × (slice_get (y ∷ ys) k ≡ Some x) × ((j : ℕ) → j < k → slice_get (y ∷ ys) j ≢ Some x)) ⊎ ((k : ℕ) → slice_get (y ∷ ys) k ≢ Some x)
    step (inl e) r = inl (0, ap (λ w. Some w) e, λ j l. absurd (omega arith))
    step (inr n) (inl p) = inl (suc p.0, p.1, later n p.0 p.2)
    step (inr n) (inr a) = inr (nowhere n a)

pub same_list : {X : Type 0} → ((x y : X) → (x ≡ y) ⊎ (x ≡ y → ⊥)) → (xs ys : List X) → (xs ≡ ys) ⊎ (xs ≡ ys → ⊥)
same_list same [] [] = inl refl
same_list same [] (y ∷ ys) = inr (λ e. cc)
same_list same (x ∷ xs) [] = inr (λ e. cc)
same_list same (x ∷ xs) (y ∷ ys) = step (same x y) (same_list same xs ys)
  where
    step : (x ≡ y) ⊎ (x ≡ y → ⊥) → (xs ≡ ys) ⊎ (xs ≡ ys → ⊥) → (x ∷ xs ≡ y ∷ ys) ⊎ (x ∷ xs ≡ y ∷ ys → ⊥)
    step (inl e) (inl f) = inl (cc)
    step (inl e) (inr n) = inr (λ h. n (cons_same h).1)
    step (inr n) r = inr (λ h. n (cons_same h).0)

pub no_entry : {X : Type 0} (k : ℕ) (x : X) → slice_get [] k ≡ Some x → ⊥
no_entry k x e = cc

pub at_right : {X : Type 0} (xs ys : List X) (k : ℕ) (x : X) → slice_get ys k ≡ Some x → (j : ℕ) × (slice_get (xs ++ ys) j ≡ Some x)
at_right [] ys k x e = (k, e)
at_right (y ∷ xs) ys k x e = let o = at_right xs ys k x e in (suc o.0, o.1)

pub in_either : {X : Type 0} (xs ys : List X) (k : ℕ) (x : X) → slice_get (xs ++ ys) k ≡ Some x → ((j : ℕ) × (slice_get xs j ≡ Some x)) ⊎ ((j : ℕ) × (slice_get ys j ≡ Some x))
in_either [] ys k x e = inr (k, e)
in_either (y ∷ xs) ys zero x e = inl (0, e)
in_either (y ∷ xs) ys (suc k) x e = elim (in_either xs ys k x e) [ inl p ↦ inl (suc p.0, p.1) | inr p ↦ inr p ]
