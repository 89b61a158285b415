-- Two graphs are isomorphic exactly if their nodes match at each place of their canonical orders.
use Rattle.std.proofs.Common.{◌≡◌, ℕ, zero, suc, ◌<◌, Bool, true, false, cond, List, [], ◌∷◌, ◌++◌, length, slice_get, Some, sym, refl, ap, ◌∙◌, subst, inl, inr, arith}
use Rattle.std.specs.List.{AllZip, AllByRecursion}
use Rattle.std.proofs.lemmas.Option.{same_Some, slice_get_within}
use Rattle.amf_graph.specs.Graph.{Value, leaf, node, Graph, node_at}
use Rattle.amf_graph.specs.ByName.{by_name}
use Rattle.amf_graph.specs.Isomorphic.{ValuesMatch, PairsMatch, NodesMatch, StandIn, Isomorphic}
use Rattle.amf_graph.specs.Order.{Absent, is_array, seconds, values_met, Walks, over, past, again, first, IsOrder}
use Rattle.amf_graph.proofs.Lists.{entry, at_push, length_pushed, no_entry}
use Rattle.amf_graph.proofs.Matching.{Implies, values_more, nodes_more}
use Rattle.amf_graph.proofs.Walks.{In, each_left, each_right, walks_fixed, walk_distinct, walk_within, walk_closed}

-- the nodes at one place of two lists
abbrev pub SamePlace : List ℕ → List ℕ → ℕ → ℕ → Type 0
SamePlace xs ys i j = (k : ℕ) × (slice_get xs k ≡ Some i) × (slice_get ys k ≡ Some j)

-- the two lists place by place
abbrev pub zipped : List ℕ → List ℕ → List (ℕ × ℕ)
zipped [] ys = []
zipped (x ∷ xs) [] = []
zipped (x ∷ xs) (y ∷ ys) = (x, y) ∷ zipped xs ys

pub zipped_at : (xs ys : List ℕ) (k i j : ℕ) → slice_get (zipped xs ys) k ≡ Some (i, j) → (slice_get xs k ≡ Some i) × (slice_get ys k ≡ Some j)
zipped_at [] ys k i j e = cc
zipped_at (x ∷ xs) [] k i j e = cc
zipped_at (x ∷ xs) (y ∷ ys) zero i j e = let p = same_Some (x, y) (i, j) e in (ap (λ (p : ℕ × ℕ). Some p.0) p, ap (λ (p : ℕ × ℕ). Some p.1) p)
zipped_at (x ∷ xs) (y ∷ ys) (suc k) i j e = zipped_at xs ys k i j e

pub at_zipped : (xs ys : List ℕ) (k i j : ℕ) → slice_get xs k ≡ Some i → slice_get ys k ≡ Some j → slice_get (zipped xs ys) k ≡ Some (i, j)
at_zipped [] ys k i j e f = cc
at_zipped (x ∷ xs) [] k i j e f = cc
at_zipped (x ∷ xs) (y ∷ ys) zero i j e f = ap (λ (p : ℕ × ℕ). Some p) (let p : x ≡ i = same_Some x i e in let q : y ≡ j = same_Some y j f in ap (λ w. (w, y)) p ∙ ap (λ w. (i, w)) q)
at_zipped (x ∷ xs) (y ∷ ys) (suc k) i j e f = at_zipped xs ys k i j e f

-- two lists of nodes, place by place
pub record Along (P : ℕ → ℕ → Type 0) (xs ys : List ℕ) : Type 0 where
  pub size : length xs ≡ length ys
  pub pairs : (k i j : ℕ) → slice_get xs k ≡ Some i → slice_get ys k ≡ Some j → P i j

pub along_push : (P : ℕ → ℕ → Type 0) (xs ys : List ℕ) (i j : ℕ) → P i j → Along P xs ys → Along P (xs ++ i ∷ []) (ys ++ j ∷ [])
along_push P xs ys i j m k = record {
  size = length_pushed xs i ∙ ap suc k.size ∙ sym (length_pushed ys j);
  pairs = λ n a b e f. elim (at_push xs i n a e) [
    | inl p ↦ elim (at_push ys j n b f) [ inl q ↦ k.pairs n a b p q | inr q ↦ absurd (omega (arith, slice_get_within xs n a p, k.size, q.0)) ]
    | inr p ↦ elim (at_push ys j n b f) [ inl q ↦ absurd (omega (arith, slice_get_within ys n b q, k.size, p.0)) | inr q ↦ subst (λ w. P w b) p.1 (subst (λ w. P i w) q.1 m) ]
  ];
}

zip_append : {A : Type 0} (R : A → A → Type 0) (xs ys us ws : List A) → AllZip R xs ys → AllZip R us ws → AllZip R (xs ++ us) (ys ++ ws)
zip_append R [] [] us ws m n = n
zip_append R [] (y ∷ ys) us ws m n = elim m [ ]
zip_append R (x ∷ xs) [] us ws m n = elim m [ ]
zip_append R (x ∷ xs) (y ∷ ys) us ws m n = (m.0, zip_append R xs ys us ws m.1 n)

zip_seconds : (P : ℕ → ℕ → Type 0) (xs ys : List (List ℕ × Value)) → AllZip (PairsMatch P) xs ys → AllZip (ValuesMatch P) (seconds xs) (seconds ys)
zip_seconds P [] [] m = tt
zip_seconds P [] (y ∷ ys) m = elim m [ ]
zip_seconds P (x ∷ xs) [] m = elim m [ ]
zip_seconds P (x ∷ xs) (y ∷ ys) m = (m.0.1, zip_seconds P xs ys m.1)

pub zip_met : (P : ℕ → ℕ → Type 0) (f : Bool) (v w : List (List ℕ × Value)) (vs ws : List Value) → AllZip (PairsMatch P) v w → AllZip (ValuesMatch P) vs ws → AllZip (ValuesMatch P) (cond f (seconds v ++ vs) (vs ++ seconds v)) (cond f (seconds w ++ ws) (ws ++ seconds w))
zip_met P true v w vs ws m n = zip_append (ValuesMatch P) (seconds v) (seconds w) vs ws (zip_seconds P v w m) n
zip_met P false v w vs ws m n = zip_append (ValuesMatch P) vs ws (seconds v) (seconds w) n (zip_seconds P v w m)

module _ (g h : Graph) (P : ℕ → ℕ → Type 0)
    (left : (i j k : ℕ) → P i j → P i k → j ≡ k) (right : (i j k : ℕ) → P i k → P j k → i ≡ j)
    (within : (i j : ℕ) → P i j → j < length h.nodes)
    (nodes : (i j : ℕ) → P i j → NodesMatch P (node_at g i) (node_at h j)) where
  met_match : (i j : ℕ) → P i j → AllZip (ValuesMatch P) (values_met (node_at g i)) (values_met (node_at h j))
  met_match i j m =
      let n = nodes i j m in
      subst (λ w. AllZip (ValuesMatch P) (values_met (node_at g i)) (cond (is_array w) (seconds (by_name (node_at h j).names) ++ (node_at h j).values) ((node_at h j).values ++ seconds (by_name (node_at h j).names)))) n.head
      (zip_met P (is_array (node_at g i).head) (by_name (node_at g i).names) (by_name (node_at h j).names) (node_at g i).values (node_at h j).values n.names n.values)

  absent_along : (xs ys : List ℕ) (i j : ℕ) → Absent xs i → Along P xs ys → P i j → Absent ys j
  absent_along xs ys i j n k m q e =
      let one = entry xs q (subst (λ w. q < w) (sym k.size) (slice_get_within ys q j e)) in
      let same : one.0 ≡ i = right one.0 i j (k.pairs q one.0 j one.1 e) m in
      n q (one.1 ∙ ap (λ w. Some w) same)

  -- the one walk goes along the other
  pub walk_along : {xs zs : List ℕ} {vs : List Value} → Walks g xs vs zs → (ys : List ℕ) (ws : List Value) → Along P xs ys → AllZip (ValuesMatch P) vs ws → (us : List ℕ) × Walks h ys ws us × Along P zs us
  walk_along over ys [] k m = (ys, over, k)
  walk_along over ys (w ∷ ws) k m = elim m [ ]
  walk_along (past x a) ys [] k m = elim m [ ]
  walk_along (past x a) ys (leaf y ∷ ws) k m = let o = walk_along a ys ws k m.1 in (o.0, past y o.1, o.2)
  walk_along (past x a) ys (node j ∷ ws) k m = elim m.0 [ ]
  walk_along (again i l f a) ys [] k m = elim m [ ]
  walk_along (again i l f a) ys (leaf y ∷ ws) k m = elim m.0 [ ]
  walk_along (again {met = xs} i l f a) ys (node j ∷ ws) k m =
      let o = walk_along a ys ws k m.1 in
      let other = entry ys l (subst (λ w. l < w) k.size (slice_get_within xs l i f)) in
      let same : other.0 ≡ j = left i other.0 j (k.pairs l i other.0 f other.1) m.0 in
      (o.0, again j l (other.1 ∙ ap (λ w. Some w) same) o.1, o.2)
  walk_along (first i l n a) ys [] k m = elim m [ ]
  walk_along (first i l n a) ys (leaf y ∷ ws) k m = elim m.0 [ ]
  walk_along (first {met = xs} {vs = vs} i l n a) ys (node j ∷ ws) k m =
      let o = walk_along a (ys ++ j ∷ []) (values_met (node_at h j) ++ ws) (along_push P xs ys i j m.0 k) (zip_append (ValuesMatch P) (values_met (node_at g i)) (values_met (node_at h j)) vs ws (met_match i j m.0) m.1) in
      (o.0, first j (within i j m.0) (absent_along xs ys i j n k m.0) o.1, o.2)

  -- a matching of values that stand in the lists is one by their numbers
  same_value : (xs ys : List ℕ) → Along P xs ys → (v w : Value) → In xs v → ValuesMatch P v w → ValuesMatch (SamePlace xs ys) v w
  same_value xs ys k (leaf x) (leaf y) e m = m
  same_value xs ys k (leaf x) (node j) e m = elim m [ ]
  same_value xs ys k (node i) (leaf y) e m = elim m [ ]
  same_value xs ys k (node i) (node j) e m =
      let other = entry ys e.0 (subst (λ w. e.0 < w) k.size (slice_get_within xs e.0 i e.1)) in
      let same : other.0 ≡ j = left i other.0 j (k.pairs e.0 i other.0 e.1 other.1) m in
      (e.0, e.1, other.1 ∙ ap (λ w. Some w) same)

  same_values : (xs ys : List ℕ) → Along P xs ys → (vs ws : List Value) → AllByRecursion (In xs) vs → AllZip (ValuesMatch P) vs ws → AllZip (ValuesMatch (SamePlace xs ys)) vs ws
  same_values xs ys k [] [] e m = tt
  same_values xs ys k [] (w ∷ ws) e m = elim m [ ]
  same_values xs ys k (v ∷ vs) [] e m = elim m [ ]
  same_values xs ys k (v ∷ vs) (w ∷ ws) e m = (same_value xs ys k v w e.0 m.0, same_values xs ys k vs ws e.1 m.1)

  same_pairs : (xs ys : List ℕ) → Along P xs ys → (vs ws : List (List ℕ × Value)) → AllByRecursion (In xs) (seconds vs) → AllZip (PairsMatch P) vs ws → AllZip (PairsMatch (SamePlace xs ys)) vs ws
  same_pairs xs ys k [] [] e m = tt
  same_pairs xs ys k [] (w ∷ ws) e m = elim m [ ]
  same_pairs xs ys k (v ∷ vs) [] e m = elim m [ ]
  same_pairs xs ys k (v ∷ vs) (w ∷ ws) e m = ((m.0.0, same_value xs ys k v.1 w.1 e.0 m.0.1), same_pairs xs ys k vs ws e.1 m.1)

pub each_met : (Q : Value → Type 0) (f : Bool) (w : List (List ℕ × Value)) (vs : List Value) → AllByRecursion Q (cond f (seconds w ++ vs) (vs ++ seconds w)) → AllByRecursion Q (seconds w) × AllByRecursion Q vs
each_met Q true w vs h = (each_left Q (seconds w) vs h, each_right Q (seconds w) vs h)
each_met Q false w vs h = (each_right Q vs (seconds w) h, each_left Q vs (seconds w) h)

-- matched place by place, under the pairing by places
pub record PlacesMatch (g h : Graph) (xs ys : List ℕ) : Type 0 where
  pub size : length xs ≡ length ys
  pub root : ValuesMatch (SamePlace xs ys) g.root h.root
  pub nodes : (k i j : ℕ) → slice_get xs k ≡ Some i → slice_get ys k ≡ Some j → NodesMatch (SamePlace xs ys) (node_at g i) (node_at h j)

-- isomorphic graphs have orders together
pub order_along : (g h : Graph) (xs : List ℕ) → IsOrder g xs → Isomorphic g h → (ys : List ℕ) × IsOrder h ys
order_along g h xs a i =
    let within : (k l : ℕ) → StandIn i.pairs k l → l < length h.nodes = λ k l m. (i.within k l m).1 in
    let none : Along (StandIn i.pairs) [] [] = record { size = refl; pairs = λ k l m e f. absurd (no_entry k l e) } in
    let o = walk_along g h (StandIn i.pairs) i.left i.right within i.nodes a [] (h.root ∷ []) none (i.root, tt) in
    (o.0, o.1)

pub to_places : (g h : Graph) (xs ys : List ℕ) → IsOrder g xs → IsOrder h ys → Isomorphic g h → PlacesMatch g h xs ys
to_places g h xs ys a b i =
    let P : ℕ → ℕ → Type 0 = StandIn i.pairs in
    let within : (k l : ℕ) → StandIn i.pairs k l → l < length h.nodes = λ k l m. (i.within k l m).1 in
    let none : Along (StandIn i.pairs) [] [] = record { size = refl; pairs = λ k l m e f. absurd (no_entry k l e) } in
    let o = walk_along g h (StandIn i.pairs) i.left i.right within i.nodes a [] (h.root ∷ []) none (i.root, tt) in
    let along : Along (StandIn i.pairs) xs ys = subst (λ w. Along (StandIn i.pairs) xs w) (walks_fixed o.1 b) o.2 in
    let c = walk_closed a in
    record {
      size = along.size;
      root = same_value g h (StandIn i.pairs) i.left i.right within i.nodes xs ys along g.root h.root c.0.0 i.root;
      nodes = λ k m l e f.
          let n = i.nodes m l (along.pairs k m l e f) in
          let d = each_met (In xs) (is_array (node_at g m).head) (by_name (node_at g m).names) (node_at g m).values (c.1 k m (omega arith) e) in
          record {
            head = n.head;
            names = same_pairs g h (StandIn i.pairs) i.left i.right within i.nodes xs ys along (by_name (node_at g m).names) (by_name (node_at h l).names) d.0 n.names;
            values = same_values g h (StandIn i.pairs) i.left i.right within i.nodes xs ys along (node_at g m).values (node_at h l).values d.1 n.values;
          };
    }

pub from_places : (g h : Graph) (xs ys : List ℕ) → IsOrder g xs → IsOrder h ys → PlacesMatch g h xs ys → Isomorphic g h
from_places g h xs ys a b n =
    let once = walk_distinct a (λ j k i e f. absurd (no_entry j i e)) in
    let once' = walk_distinct b (λ j k i e f. absurd (no_entry j i e)) in
    let in_g = walk_within a (λ k i e. absurd (no_entry k i e)) in
    let in_h = walk_within b (λ k i e. absurd (no_entry k i e)) in
    let pairs = zipped xs ys in
    let on : Implies (SamePlace xs ys) (StandIn pairs) = λ i j p. (p.0, at_zipped xs ys p.0 i j p.1 p.2) in
    let off : Implies (StandIn pairs) (SamePlace xs ys) = λ i j p. let w = zipped_at xs ys p.0 i j p.1 in (p.0, w.0, w.1) in
    record {
      pairs = pairs;
      left = λ i j k p q.
          let v = off i j p in
          let w = off i k q in
          let at : v.0 ≡ w.0 = once v.0 w.0 i v.1 w.1 in
          same_Some j k (sym v.2 ∙ ap (λ n. slice_get ys n) at ∙ w.2);
      right = λ i j k p q.
          let v = off i k p in
          let w = off j k q in
          let at : v.0 ≡ w.0 = once' v.0 w.0 k v.2 w.2 in
          same_Some i j (sym v.1 ∙ ap (λ n. slice_get xs n) at ∙ w.1);
      within = λ i j p. let v = off i j p in (in_g v.0 i v.1, in_h v.0 j v.2);
      root = values_more (SamePlace xs ys) (StandIn pairs) on g.root h.root n.root;
      nodes = λ i j p. let v = off i j p in nodes_more (SamePlace xs ys) (StandIn pairs) on (node_at g i) (node_at h j) (n.nodes v.0 i j v.1 v.2);
    }
