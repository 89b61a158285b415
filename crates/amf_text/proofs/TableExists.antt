-- Each order has its table: whether a node stands in it is decided along the order.
use Rattle.std.proofs.Common.{◌≡◌, ◌⊎◌, ℕ, zero, suc, ◌+◌, ◌<◌, ◌≤◌, List, [], ◌∷◌, slice_get, Some, refl, sym, ap, inl, inr, arith}
use Rattle.std.proofs.lemmas.Bool.{cases_eq}
use Rattle.std.proofs.lemmas.Option.{same_Some}
use Rattle.amf_graph.specs.Graph.{Value, leaf, node, Graph, node_at}
use Rattle.amf_graph.specs.Order.{values_met, IsOrder}
use Rattle.amf_graph.proofs.Reaching.{order_once}
use Rattle.amf_text.specs.Texts.{all_met, IsShared, HoldsNode, Under, itself, step, InTable, shared, below_root, below, IsTable}
use Rattle.amf_text.proofs.Parents.{parent_before, under_stands, root_stands, table_stands}

abbrev Decided : Type 0 → Type 0
Decided P = P ⊎ (P → ⊥)

-- Searches.

is_node : (v : Value) (i : ℕ) → Decided (v ≡ node i)
is_node (leaf x) i = inr (λ e. cc)
is_node (node n) i = elim (cases_eq n i) [ inl e ↦ inl (ap node e) | inr d ↦ inr (λ e. d (same_node n i e)) ]
  where
    same_node : (n i : ℕ) → node n ≡ node i → n ≡ i
    same_node n i e = cc

abbrev Stands : List Value → ℕ → Type 0
Stands vs i = (k : ℕ) × (slice_get vs k ≡ Some (node i))

find : (vs : List Value) (i : ℕ) → Decided (Stands vs i)
find [] i = inr (λ o. no_value i o.0 o.1)
  where
    no_value : (i k : ℕ) → slice_get [] k ≡ Some (node i) → ⊥
    no_value i k e = cc
find (v ∷ vs) i = go (is_node v i) (find vs i)
  where
    not_here : (v ≡ node i → ⊥) → (Stands vs i → ⊥) → Stands (v ∷ vs) i → ⊥
    not_here n m (zero, e) = n (same_Some v (node i) e)
    not_here n m (suc k, e) = m (k, e)

    go : Decided (v ≡ node i) → Decided (Stands vs i) → Decided (Stands (v ∷ vs) i)
    go (inl e) d = inl (0, ap (λ w. Some w) e)
    go (inr n) (inl o) = inl (suc o.0, o.1)
    go (inr n) (inr m) = inr (not_here n m)

abbrev Twice : List Value → ℕ → Type 0
Twice vs i = (j k : ℕ) × (j < k) × (slice_get vs j ≡ Some (node i)) × (slice_get vs k ≡ Some (node i))

twice : (vs : List Value) (i : ℕ) → Decided (Twice vs i)
twice [] i = inr (λ o. none i o.0 o.3)
  where
    none : (i k : ℕ) → slice_get [] k ≡ Some (node i) → ⊥
    none i k e = cc
twice (v ∷ vs) i = go (twice vs i) (is_node v i) (find vs i)
  where
    no_two : (Twice vs i → ⊥) → ((v ≡ node i) × Stands vs i → ⊥) → Twice (v ∷ vs) i → ⊥
    no_two t n (zero, zero, l, e, f) = omega (arith, l)
    no_two t n (zero, suc k, l, e, f) = n (same_Some v (node i) e, (k, f))
    no_two t n (suc j, zero, l, e, f) = omega (arith, l)
    no_two t n (suc j, suc k, l, e, f) = t (j, k, omega arith, e, f)

    go : Decided (Twice vs i) → Decided (v ≡ node i) → Decided (Stands vs i) → Decided (Twice (v ∷ vs) i)
    go (inl o) d s = inl (suc o.0, suc o.1, omega (arith, o.2), o.3, o.4)
    go (inr t) (inl e) (inl s) = inl (0, suc s.0, omega arith, ap (λ w. Some w) e, s.1)
    go (inr t) (inl e) (inr s) = inr (no_two t (λ p. s p.1))
    go (inr t) (inr n) s = inr (no_two t (λ p. n p.0))

-- one of a list, at its place
search_list : (P : ℕ → ℕ → Type 0) (us : List ℕ) → ((k i : ℕ) → slice_get us k ≡ Some i → Decided (P k i)) → Decided ((k : ℕ) × (i : ℕ) × (slice_get us k ≡ Some i) × P k i)
search_list P [] d = inr (λ o. none o.0 o.1 o.2)
  where
    none : (k i : ℕ) → slice_get [] k ≡ Some i → ⊥
    none k i e = cc
search_list P (u ∷ us) d = go (d 0 u refl) (search_list (λ k. P (suc k)) us (λ k. d (suc k)))
  where
    nowhere : (P 0 u → ⊥) → ((k : ℕ) × (i : ℕ) × (slice_get us k ≡ Some i) × P (suc k) i → ⊥) → (k : ℕ) × (i : ℕ) × (slice_get (u ∷ us) k ≡ Some i) × P k i → ⊥
    nowhere n m (zero, i, e, p) = n (subst_first (same_Some u i e) p)
      where
        subst_first : u ≡ i → P 0 i → P 0 u
        subst_first e p = rw e p
    nowhere n m (suc k, i, e, p) = m (k, i, e, p)

    go : Decided (P 0 u) → Decided ((k : ℕ) × (i : ℕ) × (slice_get us k ≡ Some i) × P (suc k) i) → Decided ((k : ℕ) × (i : ℕ) × (slice_get (u ∷ us) k ≡ Some i) × P k i)
    go (inl p) d = inl (0, u, refl, p)
    go (inr n) (inl o) = inl (suc o.0, o.1, o.2, o.3)
    go (inr n) (inr m) = inr (nowhere n m)

module _ (g : Graph) (xs : List ℕ) (a : IsOrder g xs) where
  -- from a node of the kind Q so many steps down to this one
  abbrev From : (ℕ → Type 0) → ℕ → ℕ → Type 0
  From Q n i = (j : ℕ) × Under g xs n j i × Q j

  module _ (Q : ℕ → Type 0) (stands : (j : ℕ) → Q j → (p : ℕ) × (slice_get xs p ≡ Some j)) where
    no_way : (i : ℕ) → (Q i → ⊥) → From Q 0 i → ⊥
    no_way i n (j, itself _, q) = n q

    -- a step down to this node, from the node at this place
    abbrev Down : ℕ → ℕ → ℕ → ℕ → Type 0
    Down n i k c = HoldsNode g c i × From Q n c

    no_step : (n i : ℕ) → ((k : ℕ) × (c : ℕ) × (slice_get xs k ≡ Some c) × (HoldsNode g c i × From Q n c) → ⊥) → From Q (suc n) i → ⊥
    no_step n i none (j, step {j = c} u o once, q) =
        let at = under_stands g xs a u (stands j q) in
        none (at.0, c, at.1, (o, (j, u, q)))

    is_shared : (n i : ℕ) → IsShared g xs i → From Q (suc n) i → ⊥
    is_shared n i s (j, step u o once, q) = once s

    one_down : (n i q k c : ℕ) → slice_get xs q ≡ Some i → (IsShared g xs i → ⊥) → slice_get xs k ≡ Some c → (k < q → Decided (From Q n c)) → Decided (HoldsNode g c i × From Q n c)
    one_down n i q k c e once at above = go (find (values_met (node_at g c)) i)
      where
        next : HoldsNode g c i → Decided (From Q n c) → Decided (HoldsNode g c i × From Q n c)
        next o (inl f) = inl (o, f)
        next o (inr f) = inr (λ p. f p.1)

        go : Decided (Stands (values_met (node_at g c)) i) → Decided (HoldsNode g c i × From Q n c)
        go (inl o) = next (o.0, o.1) (above (parent_before g xs a c i k q at e (o.0, o.1) once))
        go (inr m) = inr (λ p. m (p.0.0, p.0.1))

    decide_from : (n i q : ℕ) → slice_get xs q ≡ Some i → ((j m : ℕ) → slice_get xs m ≡ Some j → m + n ≤ q → Decided (Q j)) → Decided (From Q n i)
    decide_from zero i q e d = go (d i q e (omega arith))
      where
        go : Decided (Q i) → Decided (From Q 0 i)
        go (inl p) = inl (i, itself i, p)
        go (inr n) = inr (no_way i n)
    decide_from (suc n) i q e d = go (λ k c at h. decide_from n c k at h) (twice (all_met g xs) i)
      where
        found : (IsShared g xs i → ⊥) → Decided ((k : ℕ) × (c : ℕ) × (slice_get xs k ≡ Some c) × (HoldsNode g c i × From Q n c)) → Decided (From Q (suc n) i)
        found once (inl o) = inl (o.3.1.0, step o.3.1.1 o.3.0 once, o.3.1.2)
        found once (inr f) = inr (no_step n i f)

        go : ((k c : ℕ) → slice_get xs k ≡ Some c → ((j m : ℕ) → slice_get xs m ≡ Some j → m + n ≤ k → Decided (Q j)) → Decided (From Q n c)) → Decided (Twice (all_met g xs) i) → Decided (From Q (suc n) i)
        go above (inl s) = inr (is_shared n i (s.0, s.1, s.2, s.3, s.4))
        go above (inr once) =
            let not_shared : IsShared g xs i → ⊥ = λ s. once (s.0, s.1, s.2, s.3, s.4) in
            found not_shared
            (search_list (λ k c. HoldsNode g c i × From Q n c) xs
            (λ k c at. one_down n i q k c e not_shared at (λ less. above k c at (λ j m f l. d j m f (omega (arith, l, less))))))

  abbrev Top : ℕ → Type 0
  Top j = (g.root ≡ node j) ⊎ InTable g xs j

  top_stands : (j : ℕ) → Top j → (p : ℕ) × (slice_get xs p ≡ Some j)
  top_stands j (inl e) = root_stands g xs a j e
  top_stands j (inr t) = table_stands g xs a t

  not_in : (i : ℕ) → (IsShared g xs i → ⊥) → (From Top 32 i → ⊥) → InTable g xs i → ⊥
  not_in i n m (shared s) = n s
  not_in i n m (below_root {j = j} e u) = m (j, u, inl e)
  not_in i n m (below {j = j} t u) = m (j, u, inr t)

  decide_before : (bound i q : ℕ) → q < bound → slice_get xs q ≡ Some i → Decided (InTable g xs i)
  decide_before zero i q l e = absurd (omega arith)
  decide_before (suc bound) i q l e = go (twice (all_met g xs) i) (decide_from Top top_stands 32 i q e (λ j m f k. is_top j (is_node g.root j) (decide_before bound j m (omega (arith, l, k)) f)))
    where
      is_top : (j : ℕ) → Decided (g.root ≡ node j) → Decided (InTable g xs j) → Decided (Top j)
      is_top j (inl r) d = inl (inl r)
      is_top j (inr n) (inl t) = inl (inr t)
      is_top j (inr n) (inr t) = inr (λ o. elim o [ inl r ↦ n r | inr s ↦ t s ])

      yes : From Top 32 i → InTable g xs i
      yes (j, u, inl r) = below_root r u
      yes (j, u, inr t) = below t u

      go : Decided (Twice (all_met g xs) i) → Decided (From Top 32 i) → Decided (InTable g xs i)
      go (inl s) d = inl (shared (s.0, s.1, s.2, s.3, s.4))
      go (inr n) (inl o) = inl (yes o)
      go (inr n) (inr m) = inr (not_in i (λ s. n (s.0, s.1, s.2, s.3, s.4)) m)

  decide : (q i : ℕ) → slice_get xs q ≡ Some i → Decided (InTable g xs i)
  decide q i e = decide_before (suc q) i q (omega arith) e

-- The nodes of a list of one kind, in its order.

module _ (P : ℕ → Type 0) where
  abbrev put : (u : ℕ) → Decided (P u) → List ℕ → List ℕ
  put u (inl p) rest = u ∷ rest
  put u (inr n) rest = rest

  kept : (us : List ℕ) → ((k i : ℕ) → slice_get us k ≡ Some i → Decided (P i)) → List ℕ
  kept [] d = []
  kept (u ∷ us) d = put u (d 0 u refl) (kept us (λ k. d (suc k)))

  kept_at : (us : List ℕ) (d : (k i : ℕ) → slice_get us k ≡ Some i → Decided (P i)) (k i : ℕ) → slice_get (kept us d) k ≡ Some i → P i × (m : ℕ) × (slice_get us m ≡ Some i)
  unfolding kept
  kept_at [] d k i e = cc
  kept_at (u ∷ us) d k i e = go (d 0 u refl) (kept_at us (λ k. d (suc k))) k e
    where
      go : (o : Decided (P u)) → ((k i : ℕ) → slice_get (kept us (λ k. d (suc k))) k ≡ Some i → P i × (m : ℕ) × (slice_get us m ≡ Some i)) → (k : ℕ) → slice_get (put u o (kept us (λ k. d (suc k)))) k ≡ Some i → P i × (m : ℕ) × (slice_get (u ∷ us) m ≡ Some i)
      go (inl p) more zero e = let same : u ≡ i = same_Some u i e in (rw (sym same) p, 0, ap (λ n. Some n) same)
      go (inl p) more (suc k) e = let o = more k i e in (o.0, suc o.1, o.2)
      go (inr n) more k e = let o = more k i e in (o.0, suc o.1, o.2)

  at_kept : (us : List ℕ) (d : (k i : ℕ) → slice_get us k ≡ Some i → Decided (P i)) (m i : ℕ) → slice_get us m ≡ Some i → P i → (k : ℕ) × (slice_get (kept us d) k ≡ Some i)
  unfolding kept
  at_kept [] d m i e p = cc
  at_kept (u ∷ us) d zero i e p = go (d 0 u refl)
    where
      same : u ≡ i
      same = same_Some u i e

      go : (o : Decided (P u)) → (k : ℕ) × (slice_get (put u o (kept us (λ k. d (suc k)))) k ≡ Some i)
      go (inl q) = (0, ap (λ n. Some n) same)
      go (inr n) = absurd (n (rw same p))
  at_kept (u ∷ us) d (suc m) i e p = go (d 0 u refl) (at_kept us (λ k. d (suc k)) m i e p)
    where
      go : (o : Decided (P u)) → (k : ℕ) × (slice_get (kept us (λ k. d (suc k))) k ≡ Some i) → (k : ℕ) × (slice_get (put u o (kept us (λ k. d (suc k)))) k ≡ Some i)
      go (inl q) r = (suc r.0, r.1)
      go (inr n) r = r

  abbrev Ordered : List ℕ → ℕ → ℕ → Type 0
  Ordered us x y = (m : ℕ) × (n : ℕ) × (m < n) × (slice_get us m ≡ Some x) × (slice_get us n ≡ Some y)

  kept_order : (us : List ℕ) (d : (k i : ℕ) → slice_get us k ≡ Some i → Decided (P i)) (j k x y : ℕ) → j < k → slice_get (kept us d) j ≡ Some x → slice_get (kept us d) k ≡ Some y → Ordered us x y
  unfolding kept
  kept_order [] d j k x y l e f = cc
  kept_order (u ∷ us) d j k x y l e f = go (d 0 u refl) (kept_order us (λ k. d (suc k))) j k l e f
    where
      behind : Ordered us x y → Ordered (u ∷ us) x y
      behind o = (suc o.0, suc o.1, omega (arith, o.2), o.3, o.4)

      go : (o : Decided (P u)) → ((j k x y : ℕ) → j < k → slice_get (kept us (λ k. d (suc k))) j ≡ Some x → slice_get (kept us (λ k. d (suc k))) k ≡ Some y → Ordered us x y)
          → (j k : ℕ) → j < k → slice_get (put u o (kept us (λ k. d (suc k)))) j ≡ Some x → slice_get (put u o (kept us (λ k. d (suc k)))) k ≡ Some y → Ordered (u ∷ us) x y
      go (inl p) more j zero l e f = absurd (omega (arith, l))
      go (inl p) more zero (suc k) l e f = let o = kept_at us (λ k. d (suc k)) k y f in (0, suc o.1, omega arith, e, o.2)
      go (inl p) more (suc j) (suc k) l e f = behind (more j k x y (omega (arith, l)) e f)
      go (inr n) more j k l e f = behind (more j k x y l e f)

pub table_exists : (g : Graph) (xs : List ℕ) → IsOrder g xs → (t : List ℕ) × IsTable g xs t
table_exists g xs a =
    let d = decide g xs a in
    let once = order_once g xs a in (
      kept (InTable g xs) xs d,
      record {
        sound = λ i k e. (kept_at (InTable g xs) xs d k i e).0;
        complete = λ i t. let p = table_stands g xs a t in at_kept (InTable g xs) xs d p.0 i p.1 t;
        in_order = λ j k m n x y l e f p q.
            let o = kept_order (InTable g xs) xs d j k x y l e f in
            let first : m ≡ o.0 = once m o.0 x p o.3 in
            let second : n ≡ o.1 = once n o.1 y q o.4 in
            omega (arith, o.2, first, second);
      },
    )
