-- A canonical order has the nodes that the root leads to, and no others.
use Rattle.std.proofs.Common.{◌≡◌, ◌↔◌, ℕ, List, [], ◌∷◌, ◌++◌, slice_get, Some, refl, subst, inl, inr, arith}
use Rattle.std.specs.List.{AllByRecursion}
use Rattle.amf_graph.specs.Graph.{Value, node, Graph, node_at}
use Rattle.amf_graph.specs.ByName.{by_name}
use Rattle.amf_graph.specs.Order.{is_array, seconds, values_met, Walks, over, past, again, first, IsOrder, IsDistinct}
use Rattle.amf_graph.specs.Reached.{Holds, Reached, at_root, inside, IsReachedValue}
use Rattle.amf_graph.proofs.Alls.{all_append, each_at, each_from}
use Rattle.amf_graph.proofs.OrderExists.{each_met as met_each}
use Rattle.amf_graph.proofs.Lists.{at_push, no_entry}
use Rattle.amf_graph.proofs.NameOrder.{by_name_all, by_name_all_back}
use Rattle.amf_graph.proofs.Places.{each_met}
use Rattle.amf_graph.proofs.Walks.{In, walk_distinct, walk_closed}

pub order_once : (g : Graph) (order : List ℕ) → IsOrder g order → IsDistinct order
order_once g order w = walk_distinct w (λ j k i e f. absurd (no_entry j i e))

pub seconds_all : (P : Value → Type 0) (ps : List (List ℕ × Value)) → AllByRecursion P (seconds ps) → AllByRecursion (λ p. P p.1) ps
seconds_all P [] h = tt
seconds_all P (p ∷ ps) h = (h.0, seconds_all P ps h.1)

-- what is reached stands in an order
module _ (g : Graph) (order : List ℕ) (w : IsOrder g order) where
  pub held_stands : (j k : ℕ) → slice_get order k ≡ Some j → (v : Value) → Holds (node_at g j) v → In order v
  held_stands j k e v h =
      let a = node_at g j in
      let both = each_met (In order) (is_array a.head) (by_name a.names) a.values ((walk_closed w).1 k j (omega arith) e) in
      elim h [
        | inl o ↦ each_at (In order) a.values o.0 v both.1 o.1
        | inr o ↦ each_at (λ p. In order p.1) a.names o.0 (o.1, v) (by_name_all_back (λ p. In order p.1) a.names (seconds_all (In order) (by_name a.names) both.0)) o.2
      ]

  pub reached_stands : (i : ℕ) → Reached g i → (k : ℕ) × (slice_get order k ≡ Some i)
  reached_stands i (at_root e) = subst (λ v. In order v) e (walk_closed w).0.0
  reached_stands i (inside j r h) = let o = reached_stands j r in held_stands j o.0 o.1 (node i) h

-- and what stands in it is reached

node_reached : (g : Graph) (i : ℕ) → IsReachedValue g (node i) → Reached g i
node_reached g i (inl e) = at_root e
node_reached g i (inr (j, r, h)) = inside j r h

seconds_each : (P : Value → Type 0) (ps : List (List ℕ × Value)) → AllByRecursion (λ p. P p.1) ps → AllByRecursion P (seconds ps)
seconds_each P [] h = tt
seconds_each P (p ∷ ps) h = (h.0, seconds_each P ps h.1)

met_reached : (g : Graph) (i : ℕ) → Reached g i → AllByRecursion (IsReachedValue g) (values_met (node_at g i))
met_reached g i r =
    let a = node_at g i in
    let names : AllByRecursion (λ (p : List ℕ × Value). IsReachedValue g p.1) a.names = each_from (λ (p : List ℕ × Value). IsReachedValue g p.1) a.names (λ k p e. inr (i, r, inr (k, p.0, e))) in
    met_each (IsReachedValue g) (is_array a.head) (by_name a.names) a.values
    (seconds_each (IsReachedValue g) (by_name a.names) (by_name_all (λ p. IsReachedValue g p.1) a.names names))
    (each_from (IsReachedValue g) a.values (λ k v e. inr (i, r, inl (k, e))))

abbrev AreReached : Graph → List ℕ → Type 0
AreReached g xs = (k i : ℕ) → slice_get xs k ≡ Some i → Reached g i

reached_push : (g : Graph) (xs : List ℕ) (j : ℕ) → AreReached g xs → Reached g j → AreReached g (xs ++ j ∷ [])
reached_push g xs j h r k i e = elim (at_push xs j k i e) [ inl p ↦ h k i p | inr p ↦ subst (λ n. Reached g n) p.1 r ]

walk_reached : {g : Graph} {xs ys : List ℕ} {vs : List Value} → Walks g xs vs ys → AreReached g xs → AllByRecursion (IsReachedValue g) vs → AreReached g ys
walk_reached over r h = r
walk_reached (past x a) r h = walk_reached a r h.1
walk_reached (again j l f a) r h = walk_reached a r h.1
walk_reached {g} {xs = xs} (first {vs = vs} j l n a) r h =
    let here : Reached g j = node_reached g j h.0 in
    walk_reached a (reached_push g xs j r here) (all_append (IsReachedValue g) (values_met (node_at g j)) vs (met_reached g j here) h.1)

pub order_reached : (g : Graph) (order : List ℕ) → IsOrder g order → (i : ℕ) → Reached g i ↔ ((k : ℕ) × (slice_get order k ≡ Some i))
order_reached g order w i = (reached_stands g order w i, λ o. walk_reached w (λ k i e. absurd (no_entry k i e)) (inl refl, tt) o.0 i o.1)
