-- Graphs that hold the same at each reached number are isomorphic.
use Rattle.std.proofs.Common.{◌≡◌, ℕ, ◌<◌, List, [], ◌∷◌, length, slice_get, Some, sym, refl, ◌∙◌, subst, inl, inr, arith}
use Rattle.std.specs.List.{AllZip, AllByRecursion}
use Rattle.std.proofs.lemmas.Option.{same_Some}
use Rattle.amf_graph.specs.Graph.{Value, leaf, node, Node, Graph, node_at}
use Rattle.amf_graph.specs.ByName.{by_name}
use Rattle.amf_graph.specs.Isomorphic.{ValuesMatch, PairsMatch, NodesMatch, StandIn, Isomorphic}
use Rattle.amf_graph.specs.Order.{is_array, seconds, values_met, IsOrder}
use Rattle.amf_graph.specs.Reached.{Reached, at_root, inside, IsReachedValue}
use Rattle.amf_graph.proofs.Lists.{no_entry}
use Rattle.amf_graph.proofs.Places.{zipped, zipped_at, at_zipped, each_met}
use Rattle.amf_graph.proofs.Reaching.{order_reached}
use Rattle.amf_graph.proofs.Walks.{In, walk_within, walk_closed}

pub reached_node : (g : Graph) (i : ℕ) → IsReachedValue g (node i) → Reached g i
reached_node g i (inl e) = at_root e
reached_node g i (inr (j, r, holds)) = inside j r holds

-- each number of the list with itself
pair_is : (xs : List ℕ) (i j : ℕ) → StandIn (zipped xs xs) i j → ((k : ℕ) × (slice_get xs k ≡ Some i)) × (i ≡ j)
pair_is xs i j p = let a = zipped_at xs xs p.0 i j p.1 in ((p.0, a.0), same_Some i j (sym a.0 ∙ a.1))

itself : (xs : List ℕ) (v : Value) → In xs v → ValuesMatch (StandIn (zipped xs xs)) v v
itself xs (leaf x) m = refl
itself xs (node i) m = (m.0, at_zipped xs xs m.0 i i m.1 m.1)

values_self : (xs : List ℕ) (vs : List Value) → AllByRecursion (In xs) vs → AllZip (ValuesMatch (StandIn (zipped xs xs))) vs vs
values_self xs [] m = tt
values_self xs (v ∷ vs) m = (itself xs v m.0, values_self xs vs m.1)

pairs_self : (xs : List ℕ) (ps : List (List ℕ × Value)) → AllByRecursion (In xs) (seconds ps) → AllZip (PairsMatch (StandIn (zipped xs xs))) ps ps
pairs_self xs [] m = tt
pairs_self xs (p ∷ ps) m = ((refl, itself xs p.1 m.0), pairs_self xs ps m.1)

node_itself : (xs : List ℕ) (a : Node) → AllByRecursion (In xs) (values_met a) → NodesMatch (StandIn (zipped xs xs)) a a
node_itself xs a m =
    let p = each_met (In xs) (is_array a.head) (by_name a.names) a.values m in
    record { head = refl; names = pairs_self xs (by_name a.names) p.0; values = values_self xs a.values p.1 }

pub same_reached : (g h : Graph) (xs : List ℕ) → IsOrder g xs → g.root ≡ h.root → ((i : ℕ) → Reached g i → (i < length h.nodes) × (node_at g i ≡ node_at h i)) → Isomorphic g h
same_reached g h xs o root nodes = record {
  pairs = zipped xs xs;
  left = λ i j k p q. sym (pair_is xs i j p).1 ∙ (pair_is xs i k q).1;
  right = λ i j k p q. (pair_is xs i k p).1 ∙ sym (pair_is xs j k q).1;
  within = λ i j p.
      let a = pair_is xs i j p in
      (walk_within o (λ k i e. absurd (no_entry k i e)) a.0.0 i a.0.1, subst (λ w. w < length h.nodes) a.1 (nodes i ((order_reached g xs o i).1 a.0)).0);
  root = subst (λ w. ValuesMatch (StandIn (zipped xs xs)) g.root w) root (itself xs g.root (walk_closed o).0.0);
  nodes = λ i j p.
      let a = pair_is xs i j p in
      subst (λ w. NodesMatch (StandIn (zipped xs xs)) (node_at g i) (node_at h w)) a.1
      (subst (λ w. NodesMatch (StandIn (zipped xs xs)) (node_at g i) w) (nodes i ((order_reached g xs o i).1 a.0)).1 (node_itself xs (node_at g i) ((walk_closed o).1 a.0.0 i (omega arith) a.0.1)));
}
