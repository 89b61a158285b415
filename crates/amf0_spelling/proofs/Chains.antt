-- Wrappers one behind another: where they end, and that they go in a ring where they are more than there are nodes.
use Rattle.std.proofs.Common.{◌≡◌, ◌≢◌, ℕ, zero, suc, ◌+◌, ◌-◌, ◌<◌, ◌≤◌, ◌⊎◌, Bool, true, false, cond, eqb, List, [], ◌∷◌, length, get_or, sym, refl, ap, ◌∙◌, subst, inl, inr, arith, eq-eqb}
use Rattle.std.proofs.lemmas.Bool.{cases_lt, cases_eq, eqb-true}
use Rattle.amf_graph.specs.Graph.{Value, leaf, node, Node, no_node, Graph, node_at}
use Rattle.amf0_spelling.specs.Lowered.{is_wrapper, wraps, first_of_values, unwrapped, unwrapped_times}

-- either a number below the bound at which the test fails, or none
pub first_false : (f : ℕ → Bool) (m : ℕ) → ((n : ℕ) × (f n ≡ false)) ⊎ ((n : ℕ) → n < m → f n ≡ true)
first_false f zero = inr (λ n l. absurd (omega arith))
first_false f (suc m) = step (f m) refl (first_false f m)
  where
    step : (b : Bool) → f m ≡ b → ((n : ℕ) × (f n ≡ false)) ⊎ ((n : ℕ) → n < m → f n ≡ true) → ((n : ℕ) × (f n ≡ false)) ⊎ ((n : ℕ) → n < suc m → f n ≡ true)
    step false e r = inl (m, e)
    step true e (inl r) = inl r
    step true e (inr r) = inr (λ n l. elim (cases_lt n m) [ inl below ↦ r n below | inr above ↦ (let at : m ≡ n = omega arith in subst (λ w. f w ≡ true) at e) ])

-- a place below the bound with this number, or none
find : (f : ℕ → ℕ) (x m : ℕ) → ((n : ℕ) × (n < m) × (f n ≡ x)) ⊎ ((n : ℕ) → n < m → f n ≢ x)
find f x zero = inr (λ n l. absurd (omega arith))
find f x (suc m) = step (cases_eq (f m) x) (find f x m)
  where
    step : (f m ≡ x) ⊎ (f m ≢ x) → ((n : ℕ) × (n < m) × (f n ≡ x)) ⊎ ((n : ℕ) → n < m → f n ≢ x) → ((n : ℕ) × (n < suc m) × (f n ≡ x)) ⊎ ((n : ℕ) → n < suc m → f n ≢ x)
    step (inl e) r = inl (m, omega arith, e)
    step (inr e) (inl r) = inl (r.0, omega (arith, r.1), r.2)
    step (inr e) (inr r) = inr (λ n l. elim (cases_lt n m) [ inl below ↦ r n below | inr above ↦ (let at : m ≡ n = omega arith in subst (λ w. f w ≢ x) at e) ])

abbrev moved : (ℕ → ℕ) → ℕ → ℕ → ℕ
moved f size n = cond (eqb (f n) size) (f (suc size)) (f n)

-- more places than numbers: one number stands twice
pub twice : (size : ℕ) (f : ℕ → ℕ) → ((n : ℕ) → n < suc size → f n < size) → (a : ℕ) × (b : ℕ) × (a < b) × (b < suc size) × (f a ≡ f b)
twice zero f h = let l = h 0 (omega arith) in absurd (omega (arith, l))
twice (suc size) f h = step (twice size (moved f size)) (find f (f (suc size)) (suc size))
  where
    last_less : ((n : ℕ) → n < suc size → f n ≢ f (suc size)) → (n : ℕ) → n < suc size → f n ≡ size → f (suc size) < size
    last_less none n l e =
        let top = h (suc size) (omega arith) in
        let other : f (suc size) ≢ size = λ d. none n l (e ∙ sym d) in
        omega (arith, top, other)

    step : (((n : ℕ) → n < suc size → moved f size n < size) → (a : ℕ) × (b : ℕ) × (a < b) × (b < suc size) × (moved f size a ≡ moved f size b)) → ((n : ℕ) × (n < suc size) × (f n ≡ f (suc size))) ⊎ ((n : ℕ) → n < suc size → f n ≢ f (suc size)) → (a : ℕ) × (b : ℕ) × (a < b) × (b < suc (suc size)) × (f a ≡ f b)
    step again (inl r) = (r.0, suc size, r.1, omega arith, r.2)
    step again (inr none) = back (again less)
      where
        less : (n : ℕ) → n < suc size → moved f size n < size
        less n l = go (eqb (f n) size) refl
          where
            go : (b : Bool) → eqb (f n) size ≡ b → cond b (f (suc size)) (f n) < size
            go true e = last_less none n l (eqb-true (f n) size e)
            go false e = let top = h n (omega (arith, l)) in let other : f n ≢ size = λ d. (let x : eqb (f n) size ≡ true = eq-eqb (f n) size d in cc) in omega (arith, top, other)

        back : (a : ℕ) × (b : ℕ) × (a < b) × (b < suc size) × (moved f size a ≡ moved f size b) → (a : ℕ) × (b : ℕ) × (a < b) × (b < suc (suc size)) × (f a ≡ f b)
        back (a, b, l, m, e) = (a, b, l, omega (arith, m), go (eqb (f a) size) (eqb (f b) size) refl refl e)
          where
            go : (x y : Bool) → eqb (f a) size ≡ x → eqb (f b) size ≡ y → cond x (f (suc size)) (f a) ≡ cond y (f (suc size)) (f b) → f a ≡ f b
            go true true p q r = eqb-true (f a) size p ∙ sym (eqb-true (f b) size q)
            go true false p q r = absurd (none b m (sym r))
            go false true p q r = absurd (none a (omega (arith, l, m)) r)
            go false false p q r = r

module _ (g : Graph) where
  wraps_stays : (v : Value) → wraps g v ≡ false → unwrapped g v ≡ v
  wraps_stays (leaf x) e = refl
  wraps_stays (node i) e = ap (λ t. cond t (first_of_values (node_at g i).values (node i)) (node i)) e

  -- what has ended stays as it is
  pub times_stays : (n : ℕ) (v : Value) → wraps g v ≡ false → unwrapped_times g n v ≡ v
  times_stays zero v e = refl
  times_stays (suc n) v e = ap (unwrapped_times g n) (wraps_stays v e) ∙ times_stays n v e

  pub times_plus : (n m : ℕ) (v : Value) → unwrapped_times g (n + m) v ≡ unwrapped_times g m (unwrapped_times g n v)
  times_plus zero m v = ap (λ w. unwrapped_times g w v) (let e : 0 + m ≡ m = omega arith in e)
  times_plus (suc n) m v = ap (λ w. unwrapped_times g w v) (let e : suc n + m ≡ suc (n + m) = omega arith in e) ∙ times_plus n m (unwrapped g v)

  abbrev number_of : Value → ℕ
  number_of (leaf x) = 0
  number_of (node i) = i

  none_past : (xs : List Node) (i : ℕ) → is_wrapper (get_or xs i no_node).head ≡ true → i < length xs
  none_past [] i e = cc
  none_past (x ∷ xs) zero e = omega arith
  none_past (x ∷ xs) (suc i) e = let l = none_past xs i e in omega (arith, l)

  wraps_within : (v : Value) → wraps g v ≡ true → number_of v < length g.nodes
  wraps_within (leaf x) e = cc
  wraps_within (node i) e = none_past g.nodes i e

  same_number : (v w : Value) → wraps g v ≡ true → wraps g w ≡ true → number_of v ≡ number_of w → v ≡ w
  same_number (leaf x) w d e f = cc
  same_number (node i) (leaf y) d e f = cc
  same_number (node i) (node j) d e f = ap (λ n. node n) f

  -- a ring
  ring : (v : Value) (a b : ℕ) → a < b → unwrapped_times g a v ≡ unwrapped_times g b v → ((n : ℕ) → n < b → wraps g (unwrapped_times g n v) ≡ true) → (k n : ℕ) → n ≤ k → wraps g (unwrapped_times g n v) ≡ true
  ring v a b l e h zero n m = h n (omega (arith, l, m))
  ring v a b l e h (suc k) n m = elim (cases_lt n b) [
    | inl below ↦ h n below
    | inr above ↦ (
        let c = n - b in
        let at : b + c ≡ n = omega arith in
        let back : unwrapped_times g (a + c) v ≡ unwrapped_times g n v = times_plus a c v ∙ ap (unwrapped_times g c) e ∙ sym (times_plus b c v) ∙ ap (λ w. unwrapped_times g w v) at in
        subst (λ w. wraps g w ≡ true) back (ring v a b l e h k (a + c) (omega (arith, l, m, at))))
  ]

  -- a chain that is longer than the number of nodes never ends: it is a ring
  pub never_ending : (v : Value) → ((n : ℕ) → n < suc (length g.nodes) → wraps g (unwrapped_times g n v) ≡ true) → (n : ℕ) → wraps g (unwrapped_times g n v) ≡ true
  never_ending v h n =
      let o = twice (length g.nodes) (λ n. number_of (unwrapped_times g n v)) (λ n l. wraps_within (unwrapped_times g n v) (h n l)) in
      let a = o.0 in
      let b = o.1 in
      let same = same_number (unwrapped_times g a v) (unwrapped_times g b v) (h a (omega (arith, o.2, o.3))) (h b o.3) o.4 in
      ring v a b o.2 same (λ k l. h k (omega (arith, l, o.3))) n n (omega arith)

  -- wrappers end, or never do
  pub chain : (v : Value) → ((n : ℕ) × (wraps g (unwrapped_times g n v) ≡ false)) ⊎ ((n : ℕ) → wraps g (unwrapped_times g n v) ≡ true)
  chain v = step (first_false (λ n. wraps g (unwrapped_times g n v)) (suc (length g.nodes)))
    where
      step : ((n : ℕ) × (wraps g (unwrapped_times g n v) ≡ false)) ⊎ ((n : ℕ) → n < suc (length g.nodes) → wraps g (unwrapped_times g n v) ≡ true) → ((n : ℕ) × (wraps g (unwrapped_times g n v) ≡ false)) ⊎ ((n : ℕ) → wraps g (unwrapped_times g n v) ≡ true)
      step (inl r) = inl r
      step (inr h) = inr (never_ending v h)
