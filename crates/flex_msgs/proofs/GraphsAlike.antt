-- Answers that are made of isomorphic graphs.
use Rattle.std.proofs.Common.{◌≡◌, ℕ, suc, ◌+◌, ◌<◌, ◌≤◌, ◌⊎◌, zero, List, [], ◌∷◌, ◌++◌, length, map, get_or, slice_get, Some, sym, refl, ap, ◌∙◌, subst, arith, inl, inr}
use Rattle.std.specs.List.{AllZip}
use Rattle.std.proofs.lemmas.List.{length-append, length-map, get_or-append-add, get_or_append_left}
use Rattle.std.proofs.Math.ListN as listn
use Rattle.std.proofs.lemmas.Option.{same_Some}
use Rattle.amf_graph.specs.Graph.{Value, leaf, node, Node, Graph, node_at, no_node}
use Rattle.amf_graph.specs.ByName.{by_name}
use Rattle.amf_graph.specs.Isomorphic.{ValuesMatch, PairsMatch, NodesMatch, StandIn, Isomorphic}
use Rattle.amf_graph.specs.Roots.{SameFrom}
use Rattle.amf_graph.proofs.Lists.{at_left}
use Rattle.amf_graph.proofs.Matching.{Implies, values_more, zip_more, nodes_more}
use Rattle.flex_msgs.specs.declared.reply.Reply.{Reply}
use Rattle.flex_msgs.specs.Asked.{Told}
use Rattle.flex_msgs.specs.Messages.{acknowledge_nodes, sync_nodes, published_node, delivered_node, other_values}
use Rattle.flex_msgs.specs.Answers.{Batch, empty_batch, and_graph, batch_of, rooted_behind, values_at, shifted_value, shifted_node, shifted_nodes, published_graph, delivered_graph}
use Rattle.flex_msgs.specs.FlexLaws.{AreBefore, ToldMatch, AnswersAlike, joined}
use Rattle.flex_msgs.proofs.BuiltAlike.{all_pairs, old_pair, new_pair, behind_alike, acknowledge_match}
use Rattle.flex_msgs.proofs.PublishedAlike.{published_match}
use Rattle.flex_msgs.proofs.AnsweredAlike.{nothing_same, delivered_match}
use Rattle.flex_msgs.proofs.Joined.{at_right, at_either, zip_append, sorted_shifted}
use Rattle.flex_msgs.proofs.Batched.{batch_graph, from_root, at_first, at_next, sync_match}

-- Further nodes behind a graph, and behind one that is the same.

-- with more nodes behind the second
abbrev longer : (g h : Graph) (vs ws : List Value) (more : List Node) (root : Value) → SameFrom g h vs ws → SameFrom g (record { nodes = h.nodes ++ more; root = root }) vs ws
longer g h vs ws more root s = record {
  pairs = s.pairs;
  left = s.left;
  right = s.right;
  within = λ i j p. let w = s.within i j p in (w.0, omega (arith, w.1, length-append h.nodes more));
  roots = s.roots;
  nodes = λ i j p. subst (λ b. NodesMatch (StandIn s.pairs) (node_at g i) b) (sym (get_or_append_left h.nodes more no_node j (s.within i j p).1)) (s.nodes i j p);
}

module _ (g h : Graph) (vs ws : List Value) (s : SameFrom g h vs ws) (more others : List Node) (last : ℕ) (some : last < length more) (size : length more ≡ length others) where
  abbrev k : Graph
  k = record { nodes = h.nodes ++ others; root = node (length h.nodes + last) }

  abbrev t : SameFrom g k vs ws
  t = longer g h vs ws others (node (length h.nodes + last)) s

  before : AreBefore s.pairs (length h.nodes)
  before i j p = (s.within i j p).1

  room : length h.nodes + length others ≤ length k.nodes
  room = omega (arith, length-append h.nodes others)

  shown : (m : ℕ) → m < length others → node_at k (length h.nodes + m) ≡ get_or others m no_node
  shown m l = get_or-append-add h.nodes others m no_node

  abbrev Q : ℕ → ℕ → Type 0
  Q = StandIn (all_pairs g k vs ws t (length h.nodes) before more others room shown)

  pub answers_match : ((P : ℕ → ℕ → Type 0) → AllZip (ValuesMatch P) vs ws → ((m : ℕ) → m < length more → P (length g.nodes + m) (length h.nodes + m)) → AllZip (NodesMatch P) more others)
      → Isomorphic (rooted_behind last g.nodes (λ n. more)) (rooted_behind last h.nodes (λ n. others))
  answers_match m =
      let roots = zip_more (ValuesMatch (StandIn t.pairs)) (ValuesMatch Q) (values_more (StandIn t.pairs) Q (old_pair g k vs ws t (length h.nodes) before more others room shown)) vs ws t.roots in
      behind_alike g k vs ws t (length h.nodes) before more others room shown (m Q roots (new_pair g k vs ws t (length h.nodes) before more others room shown)) last some (node (length h.nodes + last)) refl

-- isomorphic graphs, from values that match
abbrev from_values : (g h : Graph) (i : Isomorphic g h) (vs ws : List Value) → AllZip (ValuesMatch (StandIn i.pairs)) vs ws → SameFrom g h vs ws
from_values g h i vs ws m = record { pairs = i.pairs; left = i.left; right = i.right; within = i.within; roots = m; nodes = i.nodes }

acknowledge_alike : (r : Reply) (g h : Graph) (i : Isomorphic g h) (v w : Value) → ValuesMatch (StandIn i.pairs) v w → Isomorphic (rooted_behind 1 g.nodes (acknowledge_nodes r v)) (rooted_behind 1 h.nodes (acknowledge_nodes r w))
acknowledge_alike r g h i v w m =
    answers_match g h (v ∷ []) (w ∷ []) (from_values g h i (v ∷ []) (w ∷ []) (m, tt)) (acknowledge_nodes r v (length g.nodes)) (acknowledge_nodes r w (length h.nodes)) 1 (omega arith) refl
    (λ P b new. acknowledge_match P r v w (length g.nodes) (length h.nodes) b.0 (at_first P (length g.nodes) (length h.nodes) (new 0 (omega arith))))

published_alike : (g h : Graph) (i : Isomorphic g h) (t u : Told) → ToldMatch (StandIn i.pairs) t u → (correlation : List ℕ) (moment : ℕ) → Isomorphic (published_graph g t correlation moment) (published_graph h u correlation moment)
published_alike g h i t u m correlation moment =
    let others = published_node t.message t.destination correlation moment u.body u.headers ∷ [] in
    let alike = answers_match g h (t.body ∷ t.headers ∷ []) (u.body ∷ u.headers ∷ []) (from_values g h i (t.body ∷ t.headers ∷ []) (u.body ∷ u.headers ∷ []) (m.body, (m.headers, tt))) (published_node t.message t.destination correlation moment t.body t.headers ∷ []) others 0 (omega arith) refl
    (λ P b new. published_match P t.message t.destination correlation moment t.body u.body t.headers u.headers b.0 b.1.0) in
    subst (λ x. Isomorphic (published_graph g t correlation moment) (rooted_behind 0 h.nodes (λ n. published_node x u.destination correlation moment u.body u.headers ∷ []))) m.message
    (subst (λ x. Isomorphic (published_graph g t correlation moment) (rooted_behind 0 h.nodes (λ n. published_node t.message x correlation moment u.body u.headers ∷ []))) m.destination alike)

others_match : (P : ℕ → ℕ → Type 0) (vs ws : List Value) → AllZip (ValuesMatch P) vs ws → AllZip (ValuesMatch P) (other_values vs) (other_values ws)
others_match P [] [] m = tt
others_match P [] (w ∷ ws) m = elim m [ ]
others_match P (v ∷ vs) [] m = elim m [ ]
others_match P (v ∷ []) (w ∷ []) m = m
others_match P (v ∷ []) (w ∷ x ∷ ws) m = elim m.1 [ ]
others_match P (v ∷ y ∷ vs) (w ∷ []) m = elim m.1 [ ]
others_match P (v ∷ y ∷ vs) (w ∷ x ∷ ws) m = (m.0, m.1.1)

held_match : (g h : Graph) (i : Isomorphic g h) (v w : Value) → ValuesMatch (StandIn i.pairs) v w → AllZip (ValuesMatch (StandIn i.pairs)) (values_at g v) (values_at h w)
held_match g h i (leaf x) (leaf y) m = tt
held_match g h i (leaf x) (node j) m = elim m [ ]
held_match g h i (node j) (leaf y) m = elim m [ ]
held_match g h i (node j) (node k) m = (i.nodes j k m).values

delivered_alike : (g h : Graph) → Isomorphic g h → (client : List ℕ) → Isomorphic (delivered_graph client g) (delivered_graph client h)
delivered_alike g h i client =
    let vs = other_values (values_at g g.root) in
    let ws = other_values (values_at h h.root) in
    let held = others_match (StandIn i.pairs) (values_at g g.root) (values_at h h.root) (held_match g h i g.root h.root i.root) in
    answers_match g h vs ws (from_values g h i vs ws held) (delivered_node client vs ∷ []) (delivered_node client ws ∷ []) 0 (omega arith) refl (λ P b new. delivered_match P client vs ws b)

-- Two graphs behind two that are the same.

abbrev moved : ℕ → ℕ → List (ℕ × ℕ) → List (ℕ × ℕ)
moved m n ps = map (λ p. (m + p.0, n + p.1)) ps

moved_at : (m n : ℕ) (ps : List (ℕ × ℕ)) (k i j : ℕ) → slice_get (moved m n ps) k ≡ Some (i, j) → (l : ℕ) × (o : ℕ) × (slice_get ps k ≡ Some (l, o)) × (i ≡ m + l) × (j ≡ n + o)
moved_at m n [] k i j e = cc
moved_at m n (p ∷ ps) zero i j e =
    let q = same_Some (m + p.0, n + p.1) (i, j) e in
    (p.0, p.1, refl, sym (ap (λ (w : ℕ × ℕ). w.0) q), sym (ap (λ (w : ℕ × ℕ). w.1) q))
moved_at m n (p ∷ ps) (suc k) i j e = moved_at m n ps k i j e

at_moved : (m n : ℕ) (ps : List (ℕ × ℕ)) (k l o : ℕ) → slice_get ps k ≡ Some (l, o) → slice_get (moved m n ps) k ≡ Some (m + l, n + o)
at_moved m n [] k l o e = cc
at_moved m n (p ∷ ps) zero l o e = let q = same_Some p (l, o) e in ap (λ (w : ℕ × ℕ). Some (m + w.0, n + w.1)) q
at_moved m n (p ∷ ps) (suc k) l o e = at_moved m n ps k l o e

zip_both : {A : Type 0} (R S : A → A → Type 0) (f e : A → A) → ((x y : A) → R x y → S (f x) (e y)) → (xs ys : List A) → AllZip R xs ys → AllZip S (map f xs) (map e ys)
zip_both R S f e h [] [] m = tt
zip_both R S f e h [] (y ∷ ys) m = elim m [ ]
zip_both R S f e h (x ∷ xs) [] m = elim m [ ]
zip_both R S f e h (x ∷ xs) (y ∷ ys) m = (h x y m.0, zip_both R S f e h xs ys m.1)

module _ (g k p q : Graph) (vs ws us xs : List Value) (s : SameFrom g p vs ws) (t : SameFrom k q us xs) where
  abbrev m : ℕ
  m = length g.nodes

  abbrev n : ℕ
  n = length p.nodes

  abbrev both_pairs : List (ℕ × ℕ)
  both_pairs = s.pairs ++ moved m n t.pairs

  abbrev R : ℕ → ℕ → Type 0
  R = StandIn both_pairs

  abbrev New : ℕ → ℕ → Type 0
  New i j = (l : ℕ) × (o : ℕ) × StandIn t.pairs l o × (i ≡ m + l) × (j ≡ n + o)

  split : (i j : ℕ) → R i j → StandIn s.pairs i j ⊎ New i j
  split i j z = elim (at_either s.pairs (moved m n t.pairs) z.0 (i, j) z.1) [
    | inl a ↦ inl (z.0, a)
    | inr a ↦ let r = moved_at m n t.pairs a.0 i j a.1 in inr (r.0, r.1, (a.0, r.2), r.3, r.4)
  ]

  old : Implies (StandIn s.pairs) R
  old i j a = (a.0, at_left s.pairs (moved m n t.pairs) a.0 (i, j) a.1)

  new : (l o : ℕ) → StandIn t.pairs l o → R (m + l) (n + o)
  new l o a = at_right s.pairs (moved m n t.pairs) a.0 (m + l, n + o) (at_moved m n t.pairs a.0 l o a.1)

  left_of : (i j e : ℕ) → StandIn s.pairs i j ⊎ New i j → StandIn s.pairs i e ⊎ New i e → j ≡ e
  left_of i j e (inl a) (inl b) = s.left i j e a b
  left_of i j e (inl a) (inr b) = absurd (omega (arith, (s.within i j a).0, b.3))
  left_of i j e (inr a) (inl b) = absurd (omega (arith, (s.within i e b).0, a.3))
  left_of i j e (inr a) (inr b) =
      let same : b.0 ≡ a.0 = omega (arith, a.3, b.3) in
      let there : a.1 ≡ b.1 = t.left a.0 a.1 b.1 a.2 (subst (λ l. StandIn t.pairs l b.1) same b.2) in
      omega (arith, a.4, b.4, there)

  right_of : (i j e : ℕ) → StandIn s.pairs i e ⊎ New i e → StandIn s.pairs j e ⊎ New j e → i ≡ j
  right_of i j e (inl a) (inl b) = s.right i j e a b
  right_of i j e (inl a) (inr b) = absurd (omega (arith, (s.within i e a).1, b.4))
  right_of i j e (inr a) (inl b) = absurd (omega (arith, (s.within j e b).1, a.4))
  right_of i j e (inr a) (inr b) =
      let same : b.1 ≡ a.1 = omega (arith, a.4, b.4) in
      let there : a.0 ≡ b.0 = t.right a.0 b.0 a.1 a.2 (subst (λ o. StandIn t.pairs b.0 o) same b.2) in
      omega (arith, a.3, b.3, there)

  value_moved : (v w : Value) → ValuesMatch (StandIn t.pairs) v w → ValuesMatch R (shifted_value m v) (shifted_value n w)
  value_moved (leaf x) (leaf y) a = a
  value_moved (leaf x) (node j) a = elim a [ ]
  value_moved (node i) (leaf y) a = elim a [ ]
  value_moved (node i) (node j) a = new i j a

  node_moved : (a b : Node) → NodesMatch (StandIn t.pairs) a b → NodesMatch R (shifted_node m a) (shifted_node n b)
  node_moved a b z = record {
    head = z.head;
    names = subst (λ ps. AllZip (PairsMatch R) ps (by_name (shifted_node n b).names)) (sym (sorted_shifted m a.names))
        (subst (λ qs. AllZip (PairsMatch R) (map (λ (y : List ℕ × Value). (y.0, shifted_value m y.1)) (by_name a.names)) qs) (sym (sorted_shifted n b.names))
        (zip_both (PairsMatch (StandIn t.pairs)) (PairsMatch R) (λ (y : List ℕ × Value). (y.0, shifted_value m y.1)) (λ (y : List ℕ × Value). (y.0, shifted_value n y.1)) (λ x y e. (e.0, value_moved x.1 y.1 e.1)) (by_name a.names) (by_name b.names) z.names));
    values = zip_both (ValuesMatch (StandIn t.pairs)) (ValuesMatch R) (shifted_value m) (shifted_value n) value_moved a.values b.values z.values;
  }

  length_of : (a b : Graph) → length (joined a b).nodes ≡ length a.nodes + length b.nodes
  length_of a b = length-append a.nodes (shifted_nodes (length a.nodes) b.nodes) ∙ ap (λ l. length a.nodes + l) (length-map b.nodes (shifted_node (length a.nodes)))

  node_old : (a b : Graph) (i : ℕ) → i < length a.nodes → node_at (joined a b) i ≡ node_at a i
  node_old a b i l = get_or_append_left a.nodes (shifted_nodes (length a.nodes) b.nodes) no_node i l

  node_new : (a b : Graph) (l : ℕ) → node_at (joined a b) (length a.nodes + l) ≡ shifted_node (length a.nodes) (node_at b l)
  node_new a b l = get_or-append-add a.nodes (shifted_nodes (length a.nodes) b.nodes) l no_node ∙ listn.get_or-map (shifted_node (length a.nodes)) b.nodes l no_node

  pub both_joined : SameFrom (joined g k) (joined p q) (vs ++ map (shifted_value m) us) (ws ++ map (shifted_value n) xs)
  both_joined = record {
    pairs = both_pairs;
    left = λ i j e a b. left_of i j e (split i j a) (split i e b);
    right = λ i j e a b. right_of i j e (split i e a) (split j e b);
    within = λ i j a. elim (split i j a) [
      | inl b ↦ let w = s.within i j b in (omega (arith, w.0, length_of g k), omega (arith, w.1, length_of p q))
      | inr b ↦ let w = t.within b.0 b.1 b.2 in (omega (arith, w.0, b.3, length_of g k), omega (arith, w.1, b.4, length_of p q))
    ];
    roots = zip_append (ValuesMatch R) vs ws (map (shifted_value m) us) (map (shifted_value n) xs) (zip_more (ValuesMatch (StandIn s.pairs)) (ValuesMatch R) (values_more (StandIn s.pairs) R old) vs ws s.roots) (zip_both (ValuesMatch (StandIn t.pairs)) (ValuesMatch R) (shifted_value m) (shifted_value n) value_moved us xs t.roots);
    nodes = λ i j a. elim (split i j a) [
      | inl b ↦ let w = s.within i j b in
          subst (λ z. NodesMatch R z (node_at (joined p q) j)) (sym (node_old g k i w.0))
          (subst (λ z. NodesMatch R (node_at g i) z) (sym (node_old p q j w.1)) (nodes_more (StandIn s.pairs) R old (node_at g i) (node_at p j) (s.nodes i j b)))
      | inr b ↦
          subst (λ l. NodesMatch R (node_at (joined g k) l) (node_at (joined p q) j)) (sym b.3)
          (subst (λ o. NodesMatch R (node_at (joined g k) (m + b.0)) (node_at (joined p q) o)) (sym b.4)
          (subst (λ z. NodesMatch R z (node_at (joined p q) (n + b.1))) (sym (node_new g k b.0))
          (subst (λ z. NodesMatch R (shifted_node m (node_at k b.0)) z) (sym (node_new p q b.1)) (node_moved (node_at k b.0) (node_at q b.1) (t.nodes b.0 b.1 b.2)))))
    ];
  }

batches_alike : (gs hs : List Graph) → AllZip Isomorphic gs hs → (b c : Batch) → SameFrom (batch_graph b) (batch_graph c) b.values c.values → SameFrom (batch_graph (batch_of b gs)) (batch_graph (batch_of c hs)) (batch_of b gs).values (batch_of c hs).values
batches_alike [] [] m b c s = s
batches_alike [] (h ∷ hs) m b c s = elim m [ ]
batches_alike (g ∷ gs) [] m b c s = elim m [ ]
batches_alike (g ∷ gs) (h ∷ hs) m b c s =
    batches_alike gs hs m.1 (and_graph b g) (and_graph c h) (both_joined (batch_graph b) g (batch_graph c) h b.values c.values (g.root ∷ []) (h.root ∷ []) s (from_root g h h.root m.0))

sync_alike : (r : Reply) (gs hs : List Graph) → AllZip Isomorphic gs hs → Isomorphic (rooted_behind 2 (batch_of empty_batch gs).nodes (sync_nodes r (batch_of empty_batch gs).values)) (rooted_behind 2 (batch_of empty_batch hs).nodes (sync_nodes r (batch_of empty_batch hs).values))
sync_alike r gs hs m =
    let b = batch_of empty_batch gs in
    let c = batch_of empty_batch hs in
    let s = batches_alike gs hs m empty_batch empty_batch (nothing_same (batch_graph empty_batch) (batch_graph empty_batch)) in
    answers_match (batch_graph b) (batch_graph c) b.values c.values s (sync_nodes r b.values (length b.nodes)) (sync_nodes r c.values (length c.nodes)) 2 (omega arith) refl
    (λ P z new. sync_match P r b.values c.values (length b.nodes) (length c.nodes) z (at_first P (length b.nodes) (length c.nodes) (new 0 (omega arith))) (at_next P (length b.nodes) (length c.nodes) (new 1 (omega arith))))

pub answers_alike : AnswersAlike
answers_alike = record { acknowledge = acknowledge_alike; published = published_alike; delivered = delivered_alike; sync = sync_alike }
