-- Each graph of which all that is reached is there has a canonical order, and so it is isomorphic to itself.
use Rattle.std.proofs.Common.{◌≡◌, ℕ, zero, suc, ◌<◌, ◌≤◌, ◌≢◌, ◌⊎◌, Bool, true, false, cond, List, [], ◌∷◌, ◌++◌, length, slice_get, Some, sym, refl, ◌∙◌, subst, inl, inr, arith}
use Rattle.std.specs.List.{AllZip, AllByRecursion}
use Rattle.std.proofs.lemmas.Bool.{cases_eq}
use Rattle.std.proofs.lemmas.Option.{same_Some}
use Rattle.amf_graph.specs.Graph.{Value, leaf, node, Graph, node_at}
use Rattle.amf_graph.specs.ByName.{by_name}
use Rattle.amf_graph.specs.Isomorphic.{ValuesMatch, PairsMatch, NodesMatch, Isomorphic}
use Rattle.amf_graph.specs.Reached.{Reached, at_root, inside}
use Rattle.amf_graph.specs.Order.{Absent, is_array, seconds, values_met, over, past, again, first, Walks, IsOrder}
use Rattle.amf_graph.proofs.Lists.{search_for}
use Rattle.amf_graph.proofs.NameOrder.{by_name_all}
use Rattle.amf_graph.proofs.Counting.{missing, missing_push}
use Rattle.amf_graph.proofs.Walks.{In, walk_closed}
use Rattle.amf_graph.proofs.Places.{SamePlace, from_places, each_met as each_met_back}

each_append : {X : Type 0} (P : X → Type 0) (xs ys : List X) → AllByRecursion P xs → AllByRecursion P ys → AllByRecursion P (xs ++ ys)
each_append P [] ys a b = b
each_append P (x ∷ xs) ys a b = (a.0, each_append P xs ys a.1 b)

pub each_met : (Q : Value → Type 0) (f : Bool) (w : List (List ℕ × Value)) (vs : List Value) → AllByRecursion Q (seconds w) → AllByRecursion Q vs → AllByRecursion Q (cond f (seconds w ++ vs) (vs ++ seconds w))
each_met Q true w vs a b = each_append Q (seconds w) vs a b
each_met Q false w vs a b = each_append Q vs (seconds w) b a

-- the node of a value, if it is one
abbrev pub Holds : (ℕ → Type 0) → Value → Type 0
Holds G (leaf x) = Unit {0}
Holds G (node i) = G i

module _ (g : Graph) (G : ℕ → Type 0) (closed : (i : ℕ) → G i → (i < length g.nodes) × AllByRecursion (Holds G) (values_met (node_at g i))) where
  abbrev Total : ℕ → List Value → Type 0
  Total d vs = (xs : List ℕ) → missing (length g.nodes) xs ≤ d → (ws : List Value) → ((ys : List ℕ) → missing (length g.nodes) ys ≤ missing (length g.nodes) xs → (all : List ℕ) × Walks g ys ws all) → (all : List ℕ) × Walks g xs (vs ++ ws) all

  total_values : (d : ℕ) → ((i : ℕ) → G i → Total d (node i ∷ [])) → (vs : List Value) → AllByRecursion (Holds G) vs → Total d vs
  total_values d f [] h xs m ws r = r xs (omega arith)
  total_values d f (leaf x ∷ vs) h xs m ws r = let o = total_values d f vs h.1 xs m ws r in (o.0, past x o.1)
  total_values d f (node i ∷ vs) h xs m ws r = f i h.0 xs m (vs ++ ws) (λ ys l. total_values d f vs h.1 ys (omega arith) ws (λ zs l'. r zs (omega arith)))

  total_node : (d i : ℕ) → G i → Total d (node i ∷ [])
  total_node zero i h xs m ws r =
      elim (search_for cases_eq xs i) [
        | inl p ↦ let o = r xs (omega arith) in (o.0, again i p.0 p.1 o.1)
        | inr new ↦ let less : missing (length g.nodes) (xs ++ i ∷ []) < missing (length g.nodes) xs = missing_push (length g.nodes) i xs (closed i h).0 new in absurd (omega arith)
      ]
  total_node (suc d) i h xs m ws r = go (total_values d (total_node d)) (search_for cases_eq xs i)
    where
      go : ((vs : List Value) → AllByRecursion (Holds G) vs → Total d vs) → ((p : ℕ) × (slice_get xs p ≡ Some i) × ((j : ℕ) → j < p → slice_get xs j ≢ Some i)) ⊎ Absent xs i → (all : List ℕ) × Walks g xs (node i ∷ ws) all
      go f (inl p) = let o = r xs (omega arith) in (o.0, again i p.0 p.1 o.1)
      go f (inr new) =
          let less : missing (length g.nodes) (xs ++ i ∷ []) < missing (length g.nodes) xs = missing_push (length g.nodes) i xs (closed i h).0 new in
          let o = f (values_met (node_at g i)) (closed i h).1 (xs ++ i ∷ []) (omega arith) ws (λ ys l. r ys (omega arith)) in
          (o.0, first i (closed i h).0 new o.1)

  pub total_root : Holds G g.root → (xs : List ℕ) × IsOrder g xs
  total_root h = total_values (missing (length g.nodes) []) (total_node (missing (length g.nodes) [])) (g.root ∷ []) (h, tt) [] (omega arith) [] (λ ys l. (ys, over))

values_held : (g : Graph) (vs : List Value) → ((k i : ℕ) → slice_get vs k ≡ Some (node i) → Reached g i) → AllByRecursion (Holds (Reached g)) vs
values_held g [] h = tt
values_held g (leaf x ∷ vs) h = (tt, values_held g vs (λ k. h (suc k)))
values_held g (node n ∷ vs) h = (h 0 n refl, values_held g vs (λ k. h (suc k)))

names_held : (g : Graph) (ps : List (List ℕ × Value)) → ((k : ℕ) (x : List ℕ) (i : ℕ) → slice_get ps k ≡ Some (x, node i) → Reached g i) → AllByRecursion (λ p. Holds (Reached g) p.1) ps
names_held g [] h = tt
names_held g ((x, leaf y) ∷ vs) h = (tt, names_held g vs (λ k. h (suc k)))
names_held g ((x, node n) ∷ vs) h = (h 0 x n refl, names_held g vs (λ k. h (suc k)))

seconds_held : (G : ℕ → Type 0) (ps : List (List ℕ × Value)) → AllByRecursion (λ p. Holds G p.1) ps → AllByRecursion (Holds G) (seconds ps)
seconds_held G [] h = tt
seconds_held G (p ∷ ps) h = (h.0, seconds_held G ps h.1)

root_held : (g : Graph) (v : Value) → g.root ≡ v → Holds (Reached g) v
root_held g (leaf x) e = tt
root_held g (node n) e = at_root e

pub order_exists : (g : Graph) → ((i : ℕ) → Reached g i → i < length g.nodes) → (xs : List ℕ) × IsOrder g xs
order_exists g there =
    total_root g (Reached g)
    (λ i r. (
      there i r,
      each_met (Holds (Reached g)) (is_array (node_at g i).head) (by_name (node_at g i).names) (node_at g i).values
          (seconds_held (Reached g) (by_name (node_at g i).names) (by_name_all (λ p. Holds (Reached g) p.1) (node_at g i).names (names_held g (node_at g i).names (λ k x j e. inside i r (inr (k, x, e))))))
          (values_held g (node_at g i).values (λ k j e. inside i r (inl (k, e)))),
    ))
    (root_held g g.root refl)

same_value : (xs : List ℕ) (v : Value) → In xs v → ValuesMatch (SamePlace xs xs) v v
same_value xs (leaf x) h = refl
same_value xs (node i) h = (h.0, h.1, h.1)

same_values : (xs : List ℕ) (vs : List Value) → AllByRecursion (In xs) vs → AllZip (ValuesMatch (SamePlace xs xs)) vs vs
same_values xs [] h = tt
same_values xs (v ∷ vs) h = (same_value xs v h.0, same_values xs vs h.1)

same_pairs : (xs : List ℕ) (ps : List (List ℕ × Value)) → AllByRecursion (In xs) (seconds ps) → AllZip (PairsMatch (SamePlace xs xs)) ps ps
same_pairs xs [] h = tt
same_pairs xs (p ∷ ps) h = ((refl, same_value xs p.1 h.0), same_pairs xs ps h.1)

pub isomorphic_refl : (g : Graph) → ((i : ℕ) → Reached g i → i < length g.nodes) → Isomorphic g g
isomorphic_refl g there =
    let o = order_exists g there in
    let xs : List ℕ = o.0 in
    let c = walk_closed o.1 in
    from_places g g o.0 o.0 o.1 o.1 (record {
      size = refl;
      root = same_value o.0 g.root c.0.0;
      nodes = λ k i j e f.
          let d = each_met_back (In o.0) (is_array (node_at g i).head) (by_name (node_at g i).names) (node_at g i).values (c.1 k i (omega arith) e) in
          subst (λ w. NodesMatch (SamePlace o.0 o.0) (node_at g i) (node_at g w)) (same_Some i j (sym e ∙ f)) (record {
            head = refl;
            names = same_pairs o.0 (by_name (node_at g i).names) d.0;
            values = same_values o.0 (node_at g i).values d.1;
          });
    })
