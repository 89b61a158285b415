-- The rows of graphs.
use Rattle.std.proofs.Common.{◌≡◌, ◌≢◌, ℕ, zero, suc, ◌<◌, [], ◌∷◌, Option, Some, None, refl, ap, sym, ◌∙◌, subst, arith, inl, inr, ◌⊎◌}
use Rattle.amf_graph.specs.Graph.{array, object, node_at}
use Rattle.amf_graph.specs.Isomorphic.{Isomorphic, StandIn, NodesMatch}
use Rattle.amf_graph.specs.Order.{Absent, IsOrder, Walks}
use Rattle.amf_graph.specs.Order as order
use Rattle.amf_graph.specs.WorkedGraphs.{shared, apart, renumbered, three_arrays, one_sealed}

-- the one item of [x, x] would be two
pub different : Isomorphic shared apart → ⊥
different z =
    let values : StandIn z.pairs 1 1 × (StandIn z.pairs 1 2 × Unit {0}) = (z.nodes 0 0 z.root).values in
    let e : ◌≡◌ {A = ℕ} 1 2 = z.left 1 1 2 values.0 values.1.0 in
    absurd (omega arith)

pub different_back : Isomorphic apart shared → ⊥
different_back z =
    let values : StandIn z.pairs 1 1 × (StandIn z.pairs 2 1 × Unit {0}) = (z.nodes 0 0 z.root).values in
    let e : ◌≡◌ {A = ℕ} 1 2 = z.right 1 2 1 values.0 values.1.0 in
    absurd (omega arith)

-- the pair that stands at a place is the first or the second
which : (i j : ℕ) → StandIn ((0, 3) ∷ (1, 2) ∷ []) i j → ((i ≡ 0) × (j ≡ 3)) ⊎ ((i ≡ 1) × (j ≡ 2))
which i j (zero, e) = let p : ◌≡◌ {A = ℕ × ℕ} (0, 3) (i, j) = cc in inl (sym (ap (λ q. q.0) p), sym (ap (λ q. q.1) p))
which i j (suc zero, e) = let p : ◌≡◌ {A = ℕ × ℕ} (1, 2) (i, j) = cc in inr (sym (ap (λ q. q.0) p), sym (ap (λ q. q.1) p))
which i j (suc (suc k), e) = let h : ◌≡◌ {A = Option (ℕ × ℕ)} None (Some (i, j)) = e in absurd cc

one_right : (i j k : ℕ) → ((i ≡ 0) × (j ≡ 3)) ⊎ ((i ≡ 1) × (j ≡ 2)) → ((i ≡ 0) × (k ≡ 3)) ⊎ ((i ≡ 1) × (k ≡ 2)) → j ≡ k
one_right i j k (inl a) (inl b) = a.1 ∙ sym b.1
one_right i j k (inl a) (inr b) = absurd (omega (arith, a.0, b.0))
one_right i j k (inr a) (inl b) = absurd (omega (arith, a.0, b.0))
one_right i j k (inr a) (inr b) = a.1 ∙ sym b.1

one_left : (i j k : ℕ) → ((i ≡ 0) × (k ≡ 3)) ⊎ ((i ≡ 1) × (k ≡ 2)) → ((j ≡ 0) × (k ≡ 3)) ⊎ ((j ≡ 1) × (k ≡ 2)) → i ≡ j
one_left i j k (inl a) (inl b) = a.0 ∙ sym b.0
one_left i j k (inl a) (inr b) = absurd (omega (arith, a.1, b.1))
one_left i j k (inr a) (inl b) = absurd (omega (arith, a.1, b.1))
one_left i j k (inr a) (inr b) = a.0 ∙ sym b.0

places_within : (i j : ℕ) → ((i ≡ 0) × (j ≡ 3)) ⊎ ((i ≡ 1) × (j ≡ 2)) → (i < 2) × (j < 4)
places_within i j (inl a) = (omega (arith, a.0), omega (arith, a.1))
places_within i j (inr a) = (omega (arith, a.0), omega (arith, a.1))

nodes_match : (i j : ℕ) → ((i ≡ 0) × (j ≡ 3)) ⊎ ((i ≡ 1) × (j ≡ 2)) → NodesMatch (StandIn ((0, 3) ∷ (1, 2) ∷ [])) (node_at shared i) (node_at renumbered j)
nodes_match i j (inl a) = subst (λ n. NodesMatch (StandIn ((0, 3) ∷ (1, 2) ∷ [])) (node_at shared n) (node_at renumbered j)) (sym a.0)
    (subst (λ n. NodesMatch (StandIn ((0, 3) ∷ (1, 2) ∷ [])) (node_at shared 0) (node_at renumbered n)) (sym a.1) (record { head = refl; names = tt; values = ((1, refl), ((1, refl), tt)) }))
nodes_match i j (inr a) = subst (λ n. NodesMatch (StandIn ((0, 3) ∷ (1, 2) ∷ [])) (node_at shared n) (node_at renumbered j)) (sym a.0)
    (subst (λ n. NodesMatch (StandIn ((0, 3) ∷ (1, 2) ∷ [])) (node_at shared 1) (node_at renumbered n)) (sym a.1) (record { head = refl; names = tt; values = tt }))

pub same : Isomorphic shared renumbered
same = record {
  pairs = (0, 3) ∷ (1, 2) ∷ [];
  left = λ i j k a b. one_right i j k (which i j a) (which i k b);
  right = λ i j k a b. one_left i j k (which i k a) (which j k b);
  within = λ i j a. places_within i j (which i j a);
  root = (0, refl);
  nodes = λ i j a. nodes_match i j (which i j a);
}

absent_nil : (i : ℕ) → Absent [] i
absent_nil i k e = cc

absent_one : (j i : ℕ) → j ≢ i → Absent (j ∷ []) i
absent_one j i h zero e = let f : j ≡ i = cc in h f
absent_one j i h (suc k) e = let f : None ≡ Some i = e in absurd cc

pub in_order : IsOrder renumbered (3 ∷ 2 ∷ [])
in_order = order.Walks.first 3 (omega arith) (absent_nil 3) (order.Walks.first 2 (omega arith) (absent_one 3 2 (λ e. omega arith)) (order.Walks.again 2 1 refl order.Walks.over))

-- the nodes are met one after the other

absent_two : (j k i : ℕ) → j ≢ i → k ≢ i → Absent (j ∷ k ∷ []) i
absent_two j k i h l zero e = let f : j ≡ i = cc in h f
absent_two j k i h l (suc n) e = absent_one k i l n e

absent_three : (j k l i : ℕ) → j ≢ i → k ≢ i → l ≢ i → Absent (j ∷ k ∷ l ∷ []) i
absent_three j k l i h m n zero e = let f : j ≡ i = cc in h f
absent_three j k l i h m n (suc p) e = absent_two k l i m n p e

pub names_before_items : IsOrder (three_arrays array) (0 ∷ 2 ∷ 1 ∷ 3 ∷ [])
names_before_items = order.Walks.first 0 (omega arith) (absent_nil 0)
    (order.Walks.first 2 (omega arith) (absent_one 0 2 (λ e. omega arith))
    (order.Walks.first 1 (omega arith) (absent_two 0 2 1 (λ e. omega arith) (λ e. omega arith))
    (order.Walks.first 3 (omega arith) (absent_three 0 2 1 3 (λ e. omega arith) (λ e. omega arith) (λ e. omega arith)) order.Walks.over)))

pub sealed_before_members : IsOrder (three_arrays (object one_sealed)) (0 ∷ 3 ∷ 2 ∷ 1 ∷ [])
sealed_before_members = order.Walks.first 0 (omega arith) (absent_nil 0)
    (order.Walks.first 3 (omega arith) (absent_one 0 3 (λ e. omega arith))
    (order.Walks.first 2 (omega arith) (absent_two 0 3 2 (λ e. omega arith) (λ e. omega arith))
    (order.Walks.first 1 (omega arith) (absent_three 0 3 2 1 (λ e. omega arith) (λ e. omega arith) (λ e. omega arith)) order.Walks.over)))
