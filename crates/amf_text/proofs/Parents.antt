-- In its order a node that is met once stands behind the one node that holds it.
use Rattle.std.proofs.Common.{◌≡◌, ◌⊎◌, ℕ, zero, suc, ◌+◌, ◌<◌, ◌≤◌, List, [], ◌∷◌, ◌++◌, length, slice_get, Some, refl, sym, ap, ◌∙◌, subst, inl, inr, arith}
use Rattle.std.specs.List.{flat_map}
use Rattle.std.proofs.lemmas.Bool.{cases_lt}
use Rattle.std.proofs.lemmas.Option.{same_Some, slice_get_within}
use Rattle.amf_graph.specs.Graph.{Value, leaf, node, Graph, node_at}
use Rattle.amf_graph.specs.Order.{values_met, Walks, over, past, again, first, IsOrder}
use Rattle.amf_graph.proofs.Alls.{each_at}
use Rattle.amf_graph.proofs.Lists.{at_left, at_end, length_pushed, in_either}
use Rattle.amf_graph.proofs.Walks.{In, walk_stays, walk_closed}
use Rattle.amf_text.specs.Texts.{all_met, IsShared, HoldsNode, Under, itself, step, InTable, shared, below_root, below}

-- Lists of lists, one behind the other.

pub at_behind : {X : Type 0} (xs ys : List X) (k : ℕ) (x : X) → slice_get ys k ≡ Some x → (j : ℕ) × (j ≡ length xs + k) × (slice_get (xs ++ ys) j ≡ Some x)
at_behind [] ys k x e = (k, omega arith, e)
at_behind (y ∷ xs) ys k x e = let o = at_behind xs ys k x e in (suc o.0, omega (arith, o.1), o.2)

module _ {X : Type 0} (f : ℕ → List X) where
  pub at_flat : (us : List ℕ) (l i t : ℕ) (x : X) → slice_get us l ≡ Some i → slice_get (f i) t ≡ Some x → (s : ℕ) × (slice_get (flat_map f us) s ≡ Some x)
  at_flat [] l i t x e h = cc
  at_flat (u ∷ us) zero i t x e h = (t, at_left (f u) (flat_map f us) t x (ap (λ n. slice_get (f n) t) (same_Some u i e) ∙ h))
  at_flat (u ∷ us) (suc l) i t x e h = let o = at_flat us l i t x e h in let p = at_behind (f u) (flat_map f us) o.0 x o.1 in (p.0, p.2)

  pub flat_at : (us : List ℕ) (s : ℕ) (x : X) → slice_get (flat_map f us) s ≡ Some x → (l : ℕ) × (i : ℕ) × (t : ℕ) × (slice_get us l ≡ Some i) × (slice_get (f i) t ≡ Some x)
  flat_at [] s x e = cc
  flat_at (u ∷ us) s x e =
      elim (in_either (f u) (flat_map f us) s x e) [
        | inl p ↦ (0, u, p.0, refl, p.1)
        | inr p ↦ let o = flat_at us p.0 x p.1 in (suc o.0, o.1, o.2, o.3, o.4)
      ]

  pub two_in_flat : (us : List ℕ) (l r i j t u : ℕ) (x : X) → l < r → slice_get us l ≡ Some i → slice_get us r ≡ Some j → slice_get (f i) t ≡ Some x → slice_get (f j) u ≡ Some x
      → (a : ℕ) × (b : ℕ) × (a < b) × (slice_get (flat_map f us) a ≡ Some x) × (slice_get (flat_map f us) b ≡ Some x)
  two_in_flat [] l r i j t u x less e h p q = cc
  two_in_flat (v ∷ us) l zero i j t u x less e h p q = absurd (omega arith)
  two_in_flat (v ∷ us) zero (suc r) i j t u x less e h p q =
      let left : slice_get (f v) t ≡ Some x = ap (λ n. slice_get (f n) t) (same_Some v i e) ∙ p in
      let within : t < length (f v) = slice_get_within (f v) t x left in
      let o = at_flat us r j u x h q in
      let b = at_behind (f v) (flat_map f us) o.0 x o.1 in
      (t, b.0, omega (arith, within, b.1), at_left (f v) (flat_map f us) t x left, b.2)
  two_in_flat (v ∷ us) (suc l) (suc r) i j t u x less e h p q =
      let o = two_in_flat us l r i j t u x (omega arith) e h p q in
      let a = at_behind (f v) (flat_map f us) o.0 x o.3 in
      let b = at_behind (f v) (flat_map f us) o.1 x o.4 in
      (a.0, b.0, omega (arith, o.2, a.1, b.1), a.2, b.2)

-- Each node of an order was among the values to go through, or a node before it holds it.

abbrev Before : Graph → List ℕ → List Value → ℕ → ℕ → Type 0
Before g all vs k i = ((p : ℕ) × (slice_get vs p ≡ Some (node i))) ⊎ ((l : ℕ) × (j : ℕ) × (l < k) × (slice_get all l ≡ Some j) × HoldsNode g j i)

later : (g : Graph) (all : List ℕ) (v : Value) (vs : List Value) (k i : ℕ) → Before g all vs k i → Before g all (v ∷ vs) k i
later g all v vs k i (inl p) = inl (suc p.0, p.1)
later g all v vs k i (inr p) = inr p

inner : (g : Graph) (all : List ℕ) (n m : ℕ) (vs : List Value) (k i : ℕ) → slice_get all n ≡ Some m → n < k → Before g all (values_met (node_at g m) ++ vs) k i → Before g all (node m ∷ vs) k i
inner g all n m vs k i e l (inl p) =
    elim (in_either (values_met (node_at g m)) vs p.0 (node i) p.1) [
      | inl q ↦ inr (n, m, l, e, (q.0, q.1))
      | inr q ↦ inl (suc q.0, q.1)
    ]
inner g all n m vs k i e l (inr p) = inr p

early : {g : Graph} {xs all : List ℕ} {vs : List Value} → Walks g xs vs all → (k i : ℕ) → length xs ≤ k → slice_get all k ≡ Some i → Before g all vs k i
early {xs = xs} over k i l e = absurd (omega (arith, slice_get_within xs k i e, l))
early {g} (past {all = all} {vs = vs} x a) k i l e = later g all (leaf x) vs k i (early a k i l e)
early {g} (again {all = all} {vs = vs} j n f a) k i l e = later g all (node j) vs k i (early a k i l e)
early {g} (first {met = xs} {all = all} {vs = vs} j n new a) k i l e =
    elim (cases_lt (length xs) k) [
      | inl above ↦
          let here : slice_get all (length xs) ≡ Some j = walk_stays a (length xs) j (at_end xs j) in
          inner g all (length xs) j vs k i here above (early a k i (subst (λ w. w ≤ k) (sym (length_pushed xs j)) above) e)
      | inr under ↦
          let at : length xs ≡ k = omega arith in
          let same : j ≡ i = same_Some j i (sym (walk_stays a (length xs) j (at_end xs j)) ∙ ap (λ w. slice_get all w) at ∙ e) in
          inl (0, ap (λ n. Some (node n)) same)
    ]

module _ (g : Graph) (xs : List ℕ) (a : IsOrder g xs) where
  pub root_or_held : (k i : ℕ) → slice_get xs k ≡ Some i → (g.root ≡ node i) ⊎ ((l : ℕ) × (j : ℕ) × (l < k) × (slice_get xs l ≡ Some j) × HoldsNode g j i)
  root_or_held k i e = go (early a k i (omega arith) e)
    where
      go : ((p : ℕ) × (slice_get (g.root ∷ []) p ≡ Some (node i))) ⊎ ((l : ℕ) × (j : ℕ) × (l < k) × (slice_get xs l ≡ Some j) × HoldsNode g j i) → (g.root ≡ node i) ⊎ ((l : ℕ) × (j : ℕ) × (l < k) × (slice_get xs l ≡ Some j) × HoldsNode g j i)
      go (inl (zero, f)) = inl (same_Some g.root (node i) f)
      go (inl (suc p, f)) = cc
      go (inr p) = inr p

  -- the root and a node's part
  pub root_and_held : (i c r : ℕ) → g.root ≡ node i → slice_get xs r ≡ Some c → HoldsNode g c i → IsShared g xs i
  root_and_held i c r e at o =
      let s = at_flat (λ n. values_met (node_at g n)) xs r c o.0 (node i) at o.1 in
      (0, suc s.0, omega arith, ap (λ v. Some v) e, s.1)

  -- parts of two nodes
  pub held_twice : (i c d r s : ℕ) → r < s → slice_get xs r ≡ Some c → slice_get xs s ≡ Some d → HoldsNode g c i → HoldsNode g d i → IsShared g xs i
  held_twice i c d r s less at to o u =
      let t = two_in_flat (λ n. values_met (node_at g n)) xs r s c d o.0 u.0 (node i) less at to o.1 u.1 in
      (suc t.0, suc t.1, omega (arith, t.2), t.3, t.4)

  pub parent_before : (c i r q : ℕ) → slice_get xs r ≡ Some c → slice_get xs q ≡ Some i → HoldsNode g c i → (IsShared g xs i → ⊥) → r < q
  parent_before c i r q at to o once =
      elim (root_or_held q i to) [
        | inl e ↦ absurd (once (root_and_held i c r e at o))
        | inr p ↦ elim (cases_lt p.0 r) [
          | inl less ↦ absurd (once (held_twice i p.1 c p.0 r less p.3 at p.4 o))
          | inr not_less ↦ elim (cases_lt r p.0) [
            | inl less ↦ omega (arith, less, p.2)
            | inr other ↦ omega (arith, not_less, other, p.2)
          ]
        ]
      ]

  -- What stands in the order.

  pub held_stands : (c i r : ℕ) → slice_get xs r ≡ Some c → HoldsNode g c i → (q : ℕ) × (slice_get xs q ≡ Some i)
  held_stands c i r e o = each_at (In xs) (values_met (node_at g c)) o.0 (node i) ((walk_closed a).1 r c (omega arith) e) o.1

  pub root_stands : (i : ℕ) → g.root ≡ node i → (q : ℕ) × (slice_get xs q ≡ Some i)
  root_stands i e = subst (λ v. In xs v) e (walk_closed a).0.0

  pub under_stands : {n j i : ℕ} → Under g xs n j i → (p : ℕ) × (slice_get xs p ≡ Some j) → (q : ℕ) × (slice_get xs q ≡ Some i)
  under_stands (itself i) p = p
  under_stands (step {j = c} {k = k} u o once) p = let q = under_stands u p in held_stands c k q.0 q.1 o

  met_stands : (i s : ℕ) → slice_get (all_met g xs) s ≡ Some (node i) → (q : ℕ) × (slice_get xs q ≡ Some i)
  met_stands i zero e = root_stands i (same_Some g.root (node i) e)
  met_stands i (suc s) e = let o = flat_at (λ n. values_met (node_at g n)) xs s (node i) e in held_stands o.1 i o.0 o.3 (o.2, o.4)

  pub table_stands : {i : ℕ} → InTable g xs i → (q : ℕ) × (slice_get xs q ≡ Some i)
  table_stands (shared {i = i} s) = met_stands i s.0 s.3
  table_stands (below_root {j = r} e u) = under_stands u (root_stands r e)
  table_stands (below t u) = under_stands u (table_stands t)
