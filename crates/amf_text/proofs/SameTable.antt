-- Two graphs that match along their orders: the same nodes are met twice, and the same stand in the table.
use Rattle.std.proofs.Common.{◌≡◌, ℕ, zero, suc, ◌<◌, cond, List, [], ◌∷◌, ◌++◌, map, length, slice_get, Some, refl, sym, ap, ◌∙◌, subst, arith}
use Rattle.std.specs.List.{flat_map, AllZip, AllByRecursion}
use Rattle.std.proofs.lemmas.Option.{same_Some}
use Rattle.amf_graph.specs.Graph.{Value, leaf, node, Node, Graph, node_at}
use Rattle.amf_graph.specs.ByName.{by_name}
use Rattle.amf_graph.specs.Isomorphic.{ValuesMatch, NodesMatch}
use Rattle.amf_graph.specs.Order.{is_array, seconds, values_met, IsOrder, IsDistinct}
use Rattle.amf_graph.specs.Renumbered.{place_of}
use Rattle.amf_graph.proofs.Lists.{cons_same}
use Rattle.amf_graph.proofs.Alls.{each_from}
use Rattle.amf_graph.proofs.Matched.{map_get}
use Rattle.amf_graph.proofs.Places.{SamePlace, PlacesMatch, zip_met}
use Rattle.amf_graph.proofs.PlaceOf.{place_there}
use Rattle.amf_graph.proofs.Reaching.{order_once}
use Rattle.amf_graph.proofs.Zipping.{zip_append}
use Rattle.amf_text.specs.Texts.{all_met, IsShared, HoldsNode, Under, itself, step, InTable, shared, below_root, below, IsTable}
use Rattle.amf_text.proofs.Rising.{Rises, IsPart, same_members}

-- Values that match.

pub met_match : (P : ℕ → ℕ → Type 0) (m n : Node) → NodesMatch P m n → AllZip (ValuesMatch P) (values_met m) (values_met n)
met_match P m n h =
    subst (λ w. AllZip (ValuesMatch P) (values_met m) (cond (is_array w) (seconds (by_name n.names) ++ n.values) (n.values ++ seconds (by_name n.names)))) h.head
    (zip_met P (is_array m.head) (by_name m.names) (by_name n.names) m.values n.values h.names h.values)

same_node : (i j : ℕ) → Some (node i) ≡ Some (node j) → i ≡ j
same_node i j e = cc

no_leaf : {X : Type 0} (i : ℕ) (x : _) → Some (leaf x) ≡ Some (node i) → X
no_leaf i x e = cc

-- a node at a place of the one list has its match at that place of the other
pub node_across : (P : ℕ → ℕ → Type 0) (vs ws : List Value) → AllZip (ValuesMatch P) vs ws → (k i : ℕ) → slice_get vs k ≡ Some (node i) → (j : ℕ) × (slice_get ws k ≡ Some (node j)) × P i j
node_across P [] [] m k i e = cc
node_across P [] (w ∷ ws) m k i e = elim m [ ]
node_across P (v ∷ vs) [] m k i e = elim m [ ]
node_across P (leaf x ∷ vs) (w ∷ ws) m zero i e = no_leaf i x e
node_across P (node n ∷ vs) (leaf y ∷ ws) m zero i e = elim m.0 [ ]
node_across P (node n ∷ vs) (node j ∷ ws) m zero i e = (j, refl, subst (λ z. P z j) (same_node n i e) m.0)
node_across P (v ∷ vs) (w ∷ ws) m (suc k) i e = node_across P vs ws m.1 k i e

pub across : (xs ys : List ℕ) (i j : ℕ) → SamePlace xs ys i j → SamePlace ys xs j i
across xs ys i j p = (p.0, p.2, p.1)

-- no number has two matches
pub one_place : (xs ys : List ℕ) → IsDistinct xs → (i j k : ℕ) → SamePlace xs ys i j → SamePlace xs ys i k → j ≡ k
one_place xs ys d i j k p q = same_Some j k (sym p.2 ∙ ap (λ n. slice_get ys n) (d p.0 q.0 i p.1 q.1) ∙ q.2)

met_along : (P : ℕ → ℕ → Type 0) (g h : Graph) (us ws : List ℕ) → length us ≡ length ws → ((k i j : ℕ) → slice_get us k ≡ Some i → slice_get ws k ≡ Some j → AllZip (ValuesMatch P) (values_met (node_at g i)) (values_met (node_at h j)))
    → AllZip (ValuesMatch P) (flat_map (λ i. values_met (node_at g i)) us) (flat_map (λ i. values_met (node_at h i)) ws)
met_along P g h [] [] l m = tt
met_along P g h [] (w ∷ ws) l m = absurd (omega arith)
met_along P g h (u ∷ us) [] l m = absurd (omega arith)
met_along P g h (u ∷ us) (w ∷ ws) l m =
    zip_append (ValuesMatch P) (values_met (node_at g u)) (values_met (node_at h w)) (flat_map (λ i. values_met (node_at g i)) us) (flat_map (λ i. values_met (node_at h i)) ws) (m 0 u w refl refl)
    (met_along P g h us ws (omega arith) (λ k. m (suc k)))

module _ (g h : Graph) (xs ys : List ℕ) (a : IsOrder g xs) (m : PlacesMatch g h xs ys) where
  abbrev P : ℕ → ℕ → Type 0
  P = SamePlace xs ys

  nodes_met : (k i j : ℕ) → slice_get xs k ≡ Some i → slice_get ys k ≡ Some j → AllZip (ValuesMatch (SamePlace xs ys)) (values_met (node_at g i)) (values_met (node_at h j))
  nodes_met k i j e f = met_match (SamePlace xs ys) (node_at g i) (node_at h j) (m.nodes k i j e f)

  all_along : AllZip (ValuesMatch (SamePlace xs ys)) (all_met g xs) (all_met h ys)
  all_along = (m.root, met_along (SamePlace xs ys) g h xs ys m.size nodes_met)

  -- what is met twice in the one is so in the other
  pub shared_across : (i j : ℕ) → SamePlace xs ys i j → IsShared g xs i → IsShared h ys j
  shared_across i j p s =
      let u = node_across (SamePlace xs ys) (all_met g xs) (all_met h ys) all_along s.0 i s.3 in
      let w = node_across (SamePlace xs ys) (all_met g xs) (all_met h ys) all_along s.1 i s.4 in
      let once = order_once g xs a in
      let first : u.0 ≡ j = one_place xs ys once i u.0 j u.2 p in
      let second : w.0 ≡ j = one_place xs ys once i w.0 j w.2 p in
      (s.0, s.1, s.2, u.1 ∙ ap (λ n. Some (node n)) first, w.1 ∙ ap (λ n. Some (node n)) second)

  pub met_across : (i : ℕ) → IsShared g xs i → (j : ℕ) × SamePlace xs ys i j
  met_across i s = let u = node_across (SamePlace xs ys) (all_met g xs) (all_met h ys) all_along s.0 i s.3 in (u.0, u.2)

  pub holds_across : (i j k : ℕ) → SamePlace xs ys i j → HoldsNode g i k → (l : ℕ) × SamePlace xs ys k l × HoldsNode h j l
  holds_across i j k p o =
      let u = node_across (SamePlace xs ys) (values_met (node_at g i)) (values_met (node_at h j)) (nodes_met p.0 i j p.1 p.2) o.0 k o.1 in
      (u.0, u.2, (o.0, u.1))

  pub root_across : (i : ℕ) → g.root ≡ node i → (j : ℕ) × (h.root ≡ node j) × SamePlace xs ys i j
  root_across i e =
      let u = node_across (SamePlace xs ys) (g.root ∷ []) (h.root ∷ []) (m.root, tt) 0 i (ap (λ v. Some v) e) in
      (u.0, same_Some h.root (node u.0) u.1, u.2)

module _ (g h : Graph) (xs ys : List ℕ) (a : IsOrder g xs) (b : IsOrder h ys) (m : PlacesMatch g h xs ys) (back : PlacesMatch h g ys xs) where
  under_across : {n i k : ℕ} → Under g xs n i k → (j : ℕ) → SamePlace xs ys i j → (l : ℕ) × SamePlace xs ys k l × Under h ys n j l
  under_across (itself i) j p = (j, p, itself j)
  under_across (step {j = c} {k = k} u o once) j p =
      let above = under_across u j p in
      let q = holds_across g h xs ys a m c above.0 k above.1 o in
      (q.0, q.1, step above.2 q.2 (λ s. once (shared_across h g ys xs b back q.0 k (across xs ys k q.0 q.1) s)))

  -- what stands in the table of the one stands in that of the other
  pub table_across : {i : ℕ} → InTable g xs i → (j : ℕ) × SamePlace xs ys i j × InTable h ys j
  table_across (shared {i = i} s) = let u = met_across g h xs ys a m i s in (u.0, u.1, shared (shared_across g h xs ys a m i u.0 u.1 s))
  table_across (below_root {j = r} e u) =
      let root = root_across g h xs ys a m r e in
      let o = under_across u root.0 root.2 in
      (o.0, o.1, below_root root.1 o.2)
  table_across (below t u) =
      let top = table_across t in
      let o = under_across u top.0 top.1 in
      (o.0, o.1, below top.2 o.2)

-- Tables by the places of their nodes.

at_map : (f : ℕ → ℕ) (t : List ℕ) (k n : ℕ) → slice_get (map f t) k ≡ Some n → (i : ℕ) × (slice_get t k ≡ Some i) × (f i ≡ n)
at_map f [] k n e = cc
at_map f (x ∷ t) zero n e = (x, refl, same_Some (f x) n e)
at_map f (x ∷ t) (suc k) n e = at_map f t k n e

abbrev places : List ℕ → List ℕ → List ℕ
places order t = map (place_of order) t

module _ (g h : Graph) (xs ys : List ℕ) (a : IsOrder g xs) (b : IsOrder h ys) (m : PlacesMatch g h xs ys) (back : PlacesMatch h g ys xs) where
  placed : (i : ℕ) → InTable g xs i → (k : ℕ) × (slice_get xs k ≡ Some i) × (place_of xs i ≡ k)
  placed i t = let o = table_across g h xs ys a b m back t in (o.1.0, o.1.1, place_there xs o.1.0 i (order_once g xs a) o.1.1)

  rising : (t : List ℕ) → IsTable g xs t → Rises (places xs t)
  rising t s j k u w l e f =
      let x = at_map (place_of xs) t j u e in
      let y = at_map (place_of xs) t k w f in
      let p = placed x.0 (s.sound x.0 j x.1) in
      let q = placed y.0 (s.sound y.0 k y.1) in
      let less : p.0 < q.0 = s.in_order j k p.0 q.0 x.0 y.0 l x.1 y.1 p.1 q.1 in
      omega (arith, less, x.2, y.2, p.2, q.2)

  part : (t u : List ℕ) → IsTable g xs t → IsTable h ys u → IsPart (places xs t) (places ys u)
  part t u s r k n e =
      let x = at_map (place_of xs) t k n e in
      let o = table_across g h xs ys a b m back (s.sound x.0 k x.1) in
      let c = r.complete o.0 o.2 in
      let here : place_of xs x.0 ≡ o.1.0 = place_there xs o.1.0 x.0 (order_once g xs a) o.1.1 in
      let there : place_of ys o.0 ≡ o.1.0 = place_there ys o.1.0 o.0 (order_once h ys b) o.1.2 in
      (c.0, map_get (place_of ys) u c.0 o.0 c.1 ∙ ap (λ z. Some z) (there ∙ sym here ∙ x.2))

  stand : (t : List ℕ) → IsTable g xs t → AllByRecursion (λ i. (k : ℕ) × (slice_get xs k ≡ Some i) × (place_of xs i ≡ k)) t
  stand t s = each_from (λ i. (k : ℕ) × (slice_get xs k ≡ Some i) × (place_of xs i ≡ k)) t (λ k i e. placed i (s.sound i k e))

pair_up : (xs ys t u : List ℕ) → AllByRecursion (λ i. (k : ℕ) × (slice_get xs k ≡ Some i) × (place_of xs i ≡ k)) t → AllByRecursion (λ i. (k : ℕ) × (slice_get ys k ≡ Some i) × (place_of ys i ≡ k)) u
    → places xs t ≡ places ys u → AllZip (SamePlace xs ys) t u
pair_up xs ys [] [] c d e = tt
pair_up xs ys [] (j ∷ u) c d e = cc
pair_up xs ys (i ∷ t) [] c d e = cc
pair_up xs ys (i ∷ t) (j ∷ u) c d e =
    let s = cons_same e in
    let one : d.0.0 ≡ c.0.0 = sym d.0.2 ∙ sym s.0 ∙ c.0.2 in
    ((c.0.0, c.0.1, ap (λ n. slice_get ys n) (sym one) ∙ d.0.1), pair_up xs ys t u c.1 d.1 s.1)

-- the tables match row by row
pub tables_match : (g h : Graph) (xs ys t u : List ℕ) → IsOrder g xs → IsOrder h ys → PlacesMatch g h xs ys → PlacesMatch h g ys xs → IsTable g xs t → IsTable h ys u → AllZip (SamePlace xs ys) t u
tables_match g h xs ys t u a b m back s r =
    pair_up xs ys t u (stand g h xs ys a b m back t s) (stand h g ys xs b a back m u r)
    (same_members (places xs t) (places ys u) (rising g h xs ys a b m back t s) (rising h g ys xs b a back m u r) (part g h xs ys a b m back t u s r) (part h g ys xs b a back m u t r s))
