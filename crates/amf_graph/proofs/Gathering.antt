-- Nodes that are gathered from values.
use Rattle.std.proofs.Common.{◌≡◌, ◌≢◌, ℕ, zero, suc, ◌+◌, ◌<◌, ◌≤◌, nat_lt, eqb, List, [], ◌∷◌, ◌++◌, length, map, get_or, take, add-one, slice_get, Some, ◌⊎◌, sym, refl, ap, ◌∙◌, subst, inl, inr, arith, eq-eqb}
use Rattle.std.specs.List.{AllByRecursion}
use Rattle.std.proofs.lemmas.Bool.{cases_eq, ne_eqb}
use Rattle.std.proofs.lemmas.List.Sums.{position_or_len_is}
use Rattle.std.proofs.lemmas.Option.{same_Some, slice_get_within, slice_get-get_or, get_or_from_slice_get}
use Rattle.amf_graph.specs.declared.value.NodeId.{NodeId}
use Rattle.std.proofs.Math.Seq.{take-suc}
use Rattle.amf_graph.specs.declared.value.Value.{Value as Stored}
use Rattle.amf_graph.specs.declared.value.Value.TheVariants.{Undefined, Null, Bool as Flag, Integer, Double, Text, Node as NodeRef}
use Rattle.amf_graph.specs.Arena.{Arena, StoredNode, Names, IsNodeIn, IsTextId}
use Rattle.amf_graph.specs.Building.{stored_at}
use Rattle.amf_graph.specs.Renumbered.{place_of}
use Rattle.amf_graph.proofs.Alls.{all_append}
use Rattle.amf_graph.proofs.Lists.{at_left, at_end, at_push, search_for}
use Rattle.amf_graph.specs.Gather.{with_entry, with_node, with_nodes, held, NodeBelow, NodesBelow}
use Rattle.amf_graph.specs.Grafting.{StandsAt, HoldsStored, node_value, Reaches, at_root, inside}
use Rattle.amf_graph.proofs.Placing.{entry_absent, by_test, is_below}

pub nodes_push : (vs : List Stored) (v : Stored) (xs : List ℕ) → with_nodes (vs ++ v ∷ []) xs ≡ with_node v (with_nodes vs xs)
nodes_push [] v xs = refl
nodes_push (w ∷ vs) v xs = nodes_push vs v (with_node w xs)

place_first : (xs : List ℕ) (k i : ℕ) → slice_get xs k ≡ Some i → ((j : ℕ) → j < k → slice_get xs j ≢ Some i) → place_of xs i ≡ k
place_first xs k i e none =
    let within = slice_get_within xs k i e in
    position_or_len_is (λ n. eqb n i) xs k 0 (omega arith) (λ j l. ne_eqb (get_or xs j 0) i (λ f. none j l (slice_get-get_or xs j 0 (omega arith) ∙ ap (λ w. Some w) f))) (λ l. eq-eqb (get_or xs k 0) i (get_or_from_slice_get xs k i 0 e))

-- a number that is added was there, or is at the end
entry_cases : (i : ℕ) (xs : List ℕ) → ((with_entry i xs ≡ xs) × StandsAt xs i) ⊎ (with_entry i xs ≡ xs ++ i ∷ [])
entry_cases i xs =
    elim (search_for cases_eq xs i) [
      | inl p ↦ inl (by_test (nat_lt (place_of xs i) (length xs)) xs (xs ++ i ∷ []) (ap (λ w. nat_lt w (length xs)) (place_first xs p.0 i p.1 p.2) ∙ is_below p.0 (length xs) (slice_get_within xs p.0 i p.1)), (p.0, p.1))
      | inr a ↦ inr (entry_absent i xs a)
    ]

pub entry_keeps : (i : ℕ) (xs : List ℕ) (k j : ℕ) → slice_get xs k ≡ Some j → slice_get (with_entry i xs) k ≡ Some j
entry_keeps i xs k j e = elim (entry_cases i xs) [ inl p ↦ ap (λ w. slice_get w k) p.0 ∙ e | inr p ↦ ap (λ w. slice_get w k) p ∙ at_left xs (i ∷ []) k j e ]

pub entry_stands : (i : ℕ) (xs : List ℕ) → StandsAt (with_entry i xs) i
entry_stands i xs = elim (entry_cases i xs) [ inl p ↦ (p.1.0, ap (λ w. slice_get w p.1.0) p.0 ∙ p.1.1) | inr p ↦ (length xs, ap (λ w. slice_get w (length xs)) p ∙ at_end xs i) ]

pub entry_from : (i : ℕ) (xs : List ℕ) (k j : ℕ) → slice_get (with_entry i xs) k ≡ Some j → (slice_get xs k ≡ Some j) ⊎ (i ≡ j)
entry_from i xs k j e = elim (entry_cases i xs) [
  | inl p ↦ inl (sym (ap (λ w. slice_get w k) p.0) ∙ e)
  | inr p ↦ elim (at_push xs i k j (sym (ap (λ w. slice_get w k) p) ∙ e)) [ inl q ↦ inl q | inr q ↦ inr q.1 ]
]

node_keeps : (v : Stored) (xs : List ℕ) (k j : ℕ) → slice_get xs k ≡ Some j → slice_get (with_node v xs) k ≡ Some j
node_keeps Undefined xs k j e = e
node_keeps Null xs k j e = e
node_keeps (Flag b) xs k j e = e
node_keeps (Integer n) xs k j e = e
node_keeps (Double p) xs k j e = e
node_keeps (Text t) xs k j e = e
node_keeps (NodeRef n) xs k j e = entry_keeps n.0 xs k j e

node_from : (v : Stored) (xs : List ℕ) (k j : ℕ) → slice_get (with_node v xs) k ≡ Some j → (slice_get xs k ≡ Some j) ⊎ (v ≡ node_value j)
node_from Undefined xs k j e = inl e
node_from Null xs k j e = inl e
node_from (Flag b) xs k j e = inl e
node_from (Integer n) xs k j e = inl e
node_from (Double p) xs k j e = inl e
node_from (Text t) xs k j e = inl e
node_from (NodeRef n) xs k j e = elim (entry_from n.0 xs k j e) [ inl f ↦ inl f | inr f ↦ inr (ap node_value f) ]

pub nodes_keep : (vs : List Stored) (xs : List ℕ) (k j : ℕ) → slice_get xs k ≡ Some j → slice_get (with_nodes vs xs) k ≡ Some j
nodes_keep [] xs k j e = e
nodes_keep (v ∷ vs) xs k j e = nodes_keep vs (with_node v xs) k j (node_keeps v xs k j e)

node_stands : (v : Stored) (xs : List ℕ) (i : ℕ) → v ≡ node_value i → StandsAt (with_node v xs) i
node_stands v xs i e = subst (λ w. StandsAt (with_node w xs) i) (sym e) (entry_stands i xs)

pub nodes_stand : (vs : List Stored) (xs : List ℕ) (k i : ℕ) → slice_get vs k ≡ Some (node_value i) → StandsAt (with_nodes vs xs) i
nodes_stand [] xs k i e = cc
nodes_stand (v ∷ vs) xs zero i e =
    let s = node_stands v xs i (same_Some v (node_value i) e) in
    (s.0, nodes_keep vs (with_node v xs) s.0 i s.1)
nodes_stand (v ∷ vs) xs (suc k) i e = nodes_stand vs (with_node v xs) k i e

pub nodes_from : (vs : List Stored) (xs : List ℕ) (k j : ℕ) → slice_get (with_nodes vs xs) k ≡ Some j → (slice_get xs k ≡ Some j) ⊎ ((m : ℕ) × (slice_get vs m ≡ Some (node_value j)))
nodes_from [] xs k j e = inl e
nodes_from (v ∷ vs) xs k j e =
    elim (nodes_from vs (with_node v xs) k j e) [
      | inl f ↦ elim (node_from v xs k j f) [ inl g ↦ inl g | inr g ↦ inr (0, ap (λ w. Some w) g) ]
      | inr m ↦ inr (suc m.0, m.1)
    ]

-- What a node holds, as a list.

at_right : {X : Type 0} (xs ys : List X) (k : ℕ) (y : X) → slice_get ys k ≡ Some y → (m : ℕ) × (slice_get (xs ++ ys) m ≡ Some y)
at_right [] ys k y e = (k, e)
at_right (x ∷ xs) ys k y e = let r = at_right xs ys k y e in (suc r.0, r.1)

at_either : {X : Type 0} (xs ys : List X) (k : ℕ) (y : X) → slice_get (xs ++ ys) k ≡ Some y → (slice_get xs k ≡ Some y) ⊎ ((m : ℕ) × (slice_get ys m ≡ Some y))
at_either [] ys k y e = inr (k, e)
at_either (x ∷ xs) ys zero y e = inl e
at_either (x ∷ xs) ys (suc k) y e = at_either xs ys k y e

second_at : (ps : List (ℕ × Stored)) (k x : ℕ) (v : Stored) → slice_get ps k ≡ Some (x, v) → slice_get (map (λ p. p.1) ps) k ≡ Some v
second_at [] k x v e = cc
second_at (p ∷ ps) zero x v e = let q = same_Some p (x, v) e in ap (λ (w : ℕ × Stored). Some w.1) q
second_at (p ∷ ps) (suc k) x v e = second_at ps k x v e

at_second : (ps : List (ℕ × Stored)) (k : ℕ) (v : Stored) → slice_get (map (λ p. p.1) ps) k ≡ Some v → (x : ℕ) × (slice_get ps k ≡ Some (x, v))
at_second [] k v e = cc
at_second (p ∷ ps) zero v e = (p.0, ap (λ w. Some (p.0, w)) (same_Some p.1 v e))
at_second (p ∷ ps) (suc k) v e = at_second ps k v e

pub listed : (n : StoredNode) (v : Stored) → HoldsStored n v → (m : ℕ) × (slice_get (held n) m ≡ Some v)
listed n v (inl p) = (p.0, at_left n.values (map (λ p. p.1) n.names) p.0 v p.1)
listed n v (inr p) = at_right n.values (map (λ p. p.1) n.names) p.0 v (second_at n.names p.0 p.1 v p.2)

pub unlisted : (n : StoredNode) (m : ℕ) (v : Stored) → slice_get (held n) m ≡ Some v → HoldsStored n v
unlisted n m v e =
    elim (at_either n.values (map (λ p. p.1) n.names) m v e) [
      | inl f ↦ inl (m, f)
      | inr f ↦ let q = at_second n.names f.0 v f.1 in inr (f.0, q.0, q.1)
    ]

below_one : (a : Arena) (v : Stored) → Names a v → NodeBelow (length a.nodes) v
below_one a Undefined h = tt
below_one a Null h = tt
below_one a (Flag b) h = tt
below_one a (Integer n) h = tt
below_one a (Double p) h = tt
below_one a (Text t) h = tt
below_one a (NodeRef n) h = h

pub below_all : (a : Arena) (vs : List Stored) → AllByRecursion (Names a) vs → NodesBelow (length a.nodes) vs
below_all a [] h = tt
below_all a (v ∷ vs) h = (below_one a v h.0, below_all a vs h.1)

below_seconds : (a : Arena) (ps : List (ℕ × Stored)) → AllByRecursion (λ p. IsTextId a p.0 × Names a p.1) ps → NodesBelow (length a.nodes) (map (λ p. p.1) ps)
below_seconds a [] h = tt
below_seconds a (p ∷ ps) h = (below_one a p.1 h.0.1, below_seconds a ps h.1)

pub below_held : (a : Arena) (n : StoredNode) → IsNodeIn a n → NodesBelow (length a.nodes) (held n)
below_held a n h = all_append (NodeBelow (length a.nodes)) n.values (map (λ p. p.1) n.names) (below_all a n.values h.values) (below_seconds a n.names h.names)

-- The steps.

-- so far: each node is reached, the roots are there, and so is what the first nodes hold
pub record Gathered (a : Arena) (vs : List Stored) (xs : List ℕ) (next : ℕ) : Type 0 where
  pub sound : (k i : ℕ) → slice_get xs k ≡ Some i → Reaches a vs i
  pub roots : (k i : ℕ) → slice_get vs k ≡ Some (node_value i) → StandsAt xs i
  pub done : (k i j : ℕ) → k < next → slice_get xs k ≡ Some i → HoldsStored (stored_at a i) (node_value j) → StandsAt xs j

pub gathered_first : (a : Arena) (vs : List Stored) → Gathered a vs (with_nodes vs []) 0
gathered_first a vs = record {
  sound = λ k i e. elim (nodes_from vs [] k i e) [ inl f ↦ absurd cc | inr m ↦ at_root m.0 m.1 ];
  roots = λ k i e. nodes_stand vs [] k i e;
  done = λ k i j l e h. absurd (omega arith);
}

pub gathered_next : (a : Arena) (vs : List Stored) (xs : List ℕ) (next i : ℕ) → slice_get xs next ≡ Some i → Gathered a vs xs next → Gathered a vs (with_nodes (held (stored_at a i)) xs) (next + 1)
gathered_next a vs xs next i here g = record {
  sound = λ k j e. elim (nodes_from (held (stored_at a i)) xs k j e) [
    | inl f ↦ g.sound k j f
    | inr m ↦ inside i (g.sound next i here) (unlisted (stored_at a i) m.0 (node_value j) m.1)
  ];
  roots = λ k j e. let s = g.roots k j e in (s.0, nodes_keep (held (stored_at a i)) xs s.0 j s.1);
  done = λ k n j l e h.
      let wide : k < length xs = (let w = slice_get_within xs next i here in omega arith) in
      let same : slice_get xs k ≡ Some n = kept k n wide e in
      elim (cases_eq k next) [
        | inl s ↦
            let at : i ≡ n = same_Some i n (sym here ∙ ap (λ w. slice_get xs w) (sym s) ∙ same) in
            let m = listed (stored_at a i) (node_value j) (subst (λ w. HoldsStored (stored_at a w) (node_value j)) (sym at) h) in
            nodes_stand (held (stored_at a i)) xs m.0 j m.1
        | inr o ↦
            let s = g.done k n j (omega arith) same h in
            (s.0, nodes_keep (held (stored_at a i)) xs s.0 j s.1)
      ];
}
  where
    kept : (k n : ℕ) → k < length xs → slice_get (with_nodes (held (stored_at a i)) xs) k ≡ Some n → slice_get xs k ≡ Some n
    kept k n l e =
        let old = slice_get-get_or xs k 0 l in
        let q : get_or xs k 0 ≡ n = same_Some (get_or xs k 0) n (sym (nodes_keep (held (stored_at a i)) xs k (get_or xs k 0) old) ∙ e) in
        old ∙ ap (λ w. Some w) q

pub gathered_all : (a : Arena) (vs : List Stored) (xs : List ℕ) (next : ℕ) → length xs ≤ next → Gathered a vs xs next → (i : ℕ) → Reaches a vs i → StandsAt xs i
gathered_all a vs xs next l g i (at_root k e) = g.roots k i e
gathered_all a vs xs next l g i (inside j w h) =
    let s = gathered_all a vs xs next l g j w in
    g.done s.0 j i (let q = slice_get_within xs s.0 j s.1 in omega arith) s.1 h

pub nodes_more : (vs : List Stored) (i : ℕ) (d : Stored) (xs : List ℕ) → i < length vs → with_nodes (take (i + 1) vs) xs ≡ with_node (get_or vs i d) (with_nodes (take i vs) xs)
nodes_more vs i d xs l = rw (add-one, take-suc vs i d l) (nodes_push (take i vs) (get_or vs i d) xs)

-- a value that is no node adds none
pub node_same : (v : Stored) (xs : List ℕ) → ((n : NodeId) → v ≡ NodeRef n → ⊥) → with_node v xs ≡ xs
node_same Undefined xs n = refl
node_same Null xs n = refl
node_same (Flag b) xs n = refl
node_same (Integer k) xs n = refl
node_same (Double p) xs n = refl
node_same (Text t) xs n = refl
node_same (NodeRef i) xs n = absurd (n i refl)
