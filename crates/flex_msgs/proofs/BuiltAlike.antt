-- Nodes behind a graph, and the same nodes behind its copy.
use Rattle.std.proofs.Common.{◌≡◌, ℕ, zero, suc, false, ◌+◌, ◌<◌, ◌≤◌, ◌⊎◌, List, [], ◌∷◌, ◌++◌, length, map, get_or, slice_get, Some, sym, refl, ap, ◌∙◌, subst, arith, inl, inr}
use Rattle.std.specs.List.{AllZip}
use Rattle.std.proofs.lemmas.List.{length-map, length-append, get_or-append-add, get_or_append_left}
use Rattle.std.proofs.lemmas.Option.{same_Some, slice_get-get_or}
use Rattle.amf_graph.specs.declared.value.Value.{Value as Stored}
use Rattle.std.proofs.Math.ListN as listn
use Rattle.amf_graph.specs.Graph.{Value, node, Node, Graph, node_at, no_node}
use Rattle.amf_graph.specs.Isomorphic.{ValuesMatch, NodesMatch, StandIn, Isomorphic}
use Rattle.amf_graph.specs.Arena.{Arena, NodesComplete, Completes, graph_of, node_content, value_content}
use Rattle.amf_graph.specs.Building.{no_stored}
use Rattle.amf_graph.proofs.Alls.{all_at}
use Rattle.amf_graph.proofs.Lists.{at_left}
use Rattle.amf_graph.proofs.Matching.{Implies, nodes_more, values_more}
use Rattle.amf_graph.specs.Roots.{SameFrom}
use Rattle.amf_graph.proofs.Behind.{stays_behind}
use Rattle.flex_msgs.specs.declared.reply.Reply.{Reply}
use Rattle.flex_msgs.specs.Built.{Adds}
use Rattle.flex_msgs.specs.Messages.{acknowledge_nodes, client_value}
use Rattle.flex_msgs.specs.Answers.{rooted_behind}
use Rattle.flex_msgs.specs.FlexLaws.{AreBefore, IsAt, AcknowledgeLaw}

-- Pairs of numbers from two on, so many.

abbrev pub run_of : ℕ → ℕ → ℕ → List (ℕ × ℕ)
run_of zero m n = []
run_of (suc c) m n = (m, n) ∷ run_of c (suc m) (suc n)

run_at : (c m n k i j : ℕ) → slice_get (run_of c m n) k ≡ Some (i, j) → (k < c) × (i ≡ m + k) × (j ≡ n + k)
run_at zero m n k i j e = cc
run_at (suc c) m n zero i j e =
    let p = same_Some (m, n) (i, j) e in
    let a : m ≡ i = ap (λ (w : ℕ × ℕ). w.0) p in
    let b : n ≡ j = ap (λ (w : ℕ × ℕ). w.1) p in
    (omega arith, omega arith, omega arith)
run_at (suc c) m n (suc k) i j e = let r = run_at c (suc m) (suc n) k i j e in (omega (arith, r.0), omega (arith, r.1), omega (arith, r.2))

at_run : (c m n k : ℕ) → k < c → slice_get (run_of c m n) k ≡ Some (m + k, n + k)
at_run zero m n k l = absurd (omega arith)
at_run (suc c) m n zero l =
    let a : m ≡ m + 0 = omega arith in
    let b : n ≡ n + 0 = omega arith in
    ap (λ w. Some (w, n)) a ∙ ap (λ w. Some (m + 0, w)) b
at_run (suc c) m n (suc k) l =
    let a : suc m + k ≡ m + suc k = omega arith in
    let b : suc n + k ≡ n + suc k = omega arith in
    at_run c (suc m) (suc n) k (omega arith) ∙ ap (λ w. Some (w, suc n + k)) a ∙ ap (λ w. Some (m + suc k, w)) b

at_right : {X : Type 0} (xs ys : List X) (k : ℕ) (y : X) → slice_get ys k ≡ Some y → (m : ℕ) × (slice_get (xs ++ ys) m ≡ Some y)
at_right [] ys k y e = (k, e)
at_right (x ∷ xs) ys k y e = let r = at_right xs ys k y e in (suc r.0, r.1)

at_either : {X : Type 0} (xs ys : List X) (k : ℕ) (y : X) → slice_get (xs ++ ys) k ≡ Some y → (slice_get xs k ≡ Some y) ⊎ ((m : ℕ) × (slice_get ys m ≡ Some y))
at_either [] ys k y e = inr (k, e)
at_either (x ∷ xs) ys zero y e = inl e
at_either (x ∷ xs) ys (suc k) y e = at_either xs ys k y e

zip_at : {X : Type 0} (R : X → X → Type 0) (xs ys : List X) (k : ℕ) (d : X) → AllZip R xs ys → k < length xs → R (get_or xs k d) (get_or ys k d)
zip_at R [] ys k d m l = absurd (omega arith)
zip_at R (x ∷ xs) [] k d m l = elim m [ ]
zip_at R (x ∷ xs) (y ∷ ys) zero d m l = m.0
zip_at R (x ∷ xs) (y ∷ ys) (suc k) d m l = zip_at R xs ys k d m.1 (omega arith)

zip_length : {X : Type 0} (R : X → X → Type 0) (xs ys : List X) → AllZip R xs ys → length xs ≡ length ys
zip_length R [] [] m = refl
zip_length R [] (y ∷ ys) m = elim m [ ]
zip_length R (x ∷ xs) [] m = elim m [ ]
zip_length R (x ∷ xs) (y ∷ ys) m = ap suc (zip_length R xs ys m.1)

module _ (g h : Graph) (vs ws : List Value) (s : SameFrom g h vs ws) (start : ℕ) (before : AreBefore s.pairs start) (more others : List Node)
    (room : start + length others ≤ length h.nodes) (shown : (k : ℕ) → k < length others → node_at h (start + k) ≡ get_or others k no_node) where
  abbrev pub all_pairs : List (ℕ × ℕ)
  all_pairs = s.pairs ++ run_of (length more) (length g.nodes) start

  abbrev Q : ℕ → ℕ → Type 0
  Q = StandIn all_pairs

  abbrev Old : ℕ → ℕ → Type 0
  Old = StandIn s.pairs

  abbrev New : ℕ → ℕ → Type 0
  New i j = (k : ℕ) × (k < length more) × (i ≡ length g.nodes + k) × (j ≡ start + k)

  split : (i j : ℕ) → Q i j → Old i j ⊎ New i j
  split i j q = elim (at_either s.pairs (run_of (length more) (length g.nodes) start) q.0 (i, j) q.1) [
    | inl p ↦ inl (q.0, p)
    | inr p ↦ let r = run_at (length more) (length g.nodes) start p.0 i j p.1 in inr (p.0, r.0, r.1, r.2)
  ]

  pub old_pair : Implies Old Q
  old_pair i j p = (p.0, at_left s.pairs (run_of (length more) (length g.nodes) start) p.0 (i, j) p.1)

  pub new_pair : (k : ℕ) → k < length more → Q (length g.nodes + k) (start + k)
  new_pair k l = at_right s.pairs (run_of (length more) (length g.nodes) start) k (length g.nodes + k, start + k) (at_run (length more) (length g.nodes) start k l)

  left_of : (i j k : ℕ) → Old i j ⊎ New i j → Old i k ⊎ New i k → j ≡ k
  left_of i j k (inl p) (inl q) = s.left i j k p q
  left_of i j k (inl p) (inr q) = absurd (omega (arith, (s.within i j p).0, q.2))
  left_of i j k (inr p) (inl q) = absurd (omega (arith, (s.within i k q).0, p.2))
  left_of i j k (inr p) (inr q) = omega (arith, p.2, q.2, p.3, q.3)

  right_of : (i j k : ℕ) → Old i k ⊎ New i k → Old j k ⊎ New j k → i ≡ j
  right_of i j k (inl p) (inl q) = s.right i j k p q
  right_of i j k (inl p) (inr q) = absurd (omega (arith, before i k p, q.3))
  right_of i j k (inr p) (inl q) = absurd (omega (arith, before j k q, p.3))
  right_of i j k (inr p) (inr q) = omega (arith, p.2, q.2, p.3, q.3)

  abbrev whole : ℕ → Graph
  whole last = rooted_behind last g.nodes (λ n. more)

  old_node : (i : ℕ) → i < length g.nodes → node_at (whole 0) i ≡ node_at g i
  old_node i l = get_or_append_left g.nodes more no_node i l

  new_node : (k : ℕ) → node_at (whole 0) (length g.nodes + k) ≡ get_or more k no_node
  new_node k = get_or-append-add g.nodes more k no_node

  pub behind_at : (from : ℕ) → ((i j : ℕ) → Old i j → from ≤ j) → from ≤ start → AllZip (NodesMatch Q) more others → (last : ℕ) → last < length more → (root : Value) → root ≡ node (start + last) → IsAt (whole last) (record { nodes = h.nodes; root = root }) from (start + length others)
  behind_at from low least m last some root at = record {
    order = omega (arith, least);
    same = record {
      pairs = all_pairs;
      left = λ i j k p q. left_of i j k (split i j p) (split i k q);
      right = λ i j k p q. right_of i j k (split i k p) (split j k q);
      within = λ i j p. elim (split i j p) [
        | inl q ↦ let w = s.within i j q in (omega (arith, w.0, length-append g.nodes more), w.1)
        | inr q ↦ (omega (arith, q.1, q.2, length-append g.nodes more), omega (arith, q.1, q.3, size, room))
      ];
      root = subst (λ v. ValuesMatch Q (node (length g.nodes + last)) v) (sym at) (new_pair last some);
      nodes = λ i j p. elim (split i j p) [
        | inl q ↦ subst (λ a. NodesMatch Q a (node_at h j)) (sym (old_node i (s.within i j q).0)) (nodes_more Old Q old_pair (node_at g i) (node_at h j) (s.nodes i j q))
        | inr q ↦
            subst (λ n. NodesMatch Q (node_at (whole 0) n) (node_at h j)) (sym q.2)
            (subst (λ a. NodesMatch Q a (node_at h j)) (sym (new_node q.0))
            (subst (λ n. NodesMatch Q (get_or more q.0 no_node) (node_at h n)) (sym q.3)
            (subst (λ b. NodesMatch Q (get_or more q.0 no_node) b) (sym (shown q.0 (omega (arith, q.1, size)))) (zip_at (NodesMatch Q) more others q.0 no_node m q.1))))
      ];
    };
    within = λ i j p. elim (split i j p) [
      | inl q ↦ (low i j q, omega (arith, before i j q))
      | inr q ↦ (omega (arith, q.3, least), omega (arith, q.1, q.3, size))
    ];
  }
    where
      size : length more ≡ length others
      size = zip_length (NodesMatch Q) more others m

  pub behind_alike : AllZip (NodesMatch Q) more others → (last : ℕ) → last < length more → (root : Value) → root ≡ node (start + last) → Isomorphic (whole last) (record { nodes = h.nodes; root = root })
  behind_alike m last some root at = (behind_at 0 (λ i j q. omega arith) (omega arith) m last some root at).same

-- What a call added stands in each graph that completes the builder.

map_same : {X : Type 0} (xs : List X) → map (λ x. x) xs ≡ xs
map_same [] = refl
map_same (x ∷ xs) = ap (λ w. x ∷ w) (map_same xs)

module _ (old new h : Arena) (u : Stored) (written : Arena → List Node) (a : Adds old new u written) (done : Completes new h) where
  complete : NodesComplete (old.nodes ++ map (λ n. n) a.more_nodes) h.nodes
  complete = subst (λ ns. NodesComplete (old.nodes ++ ns) h.nodes) (sym (map_same a.more_nodes)) (subst (λ ns. NodesComplete ns h.nodes) a.nodes done.nodes)

  one : (k : ℕ) → k < length a.more_nodes → (length old.nodes + k < length h.nodes) × (get_or h.nodes (length old.nodes + k) no_stored ≡ get_or a.more_nodes k no_stored)
  one k l = stays_behind (λ n. n) old.nodes a.more_nodes h.nodes k (get_or a.more_nodes k no_stored) (slice_get-get_or a.more_nodes k no_stored l) (all_at (λ n. n.is_open ≡ false) a.more_nodes k no_stored l a.closed) complete

  count : length (written h) ≡ length a.more_nodes
  count = sym (ap length (a.content h done)) ∙ length-map a.more_nodes (node_content h)

  pub added_shown : (k : ℕ) → k < length (written h) → node_at (graph_of h u) (length old.nodes + k) ≡ get_or (written h) k no_node
  added_shown k l =
      listn.get_or-map (node_content h) h.nodes (length old.nodes + k) no_stored
      ∙ ap (node_content h) (one k (omega (arith, l, count))).1
      ∙ sym (listn.get_or-map (node_content h) a.more_nodes k no_stored)
      ∙ ap (λ ns. get_or ns k no_node) (a.content h done)

  pub added_room : 0 < length (written h) → length old.nodes + length (written h) ≤ length (graph_of h u).nodes
  added_room some = go (length (written h)) refl some
    where
      go : (c : ℕ) → length (written h) ≡ c → 0 < c → length old.nodes + c ≤ length (graph_of h u).nodes
      go zero e l = absurd (omega arith)
      go (suc c) e l = let o = (one c (omega (arith, e, count))).0 in omega (arith, o, length-map h.nodes (node_content h))

pub client_same : (P : ℕ → ℕ → Type 0) (x : List ℕ) → ValuesMatch P (client_value x) (client_value x)
client_same P [] = refl
client_same P (b ∷ x) = refl

pub acknowledge_match : (P : ℕ → ℕ → Type 0) (r : Reply) (v w : Value) (m n : ℕ) → ValuesMatch P v w → P m n → AllZip (NodesMatch P) (acknowledge_nodes r v m) (acknowledge_nodes r w n)
acknowledge_match P r v w m n b hd = (
  record { head = refl; names = ((refl, refl), tt); values = tt },
  (record { head = refl; names = tt; values = (b, (client_same P r.client, (refl, (hd, (refl, (refl, (refl, (refl, tt)))))))) }, tt),
)

pub acknowledge_law : AcknowledgeLaw
acknowledge_law r old new u a h done g v s before =
    let n = length old.nodes in
    let others = acknowledge_nodes r (value_content h r.body) n in
    let more = acknowledge_nodes r v (length g.nodes) in
    let size : length others ≡ length a.more_nodes = sym (ap length (a.content h done)) ∙ length-map a.more_nodes (node_content h) in
    let last : a.last ≡ 1 = omega (arith, size, a.count) in
    let at : value_content h u ≡ node (n + 1) = ap (value_content h) a.value ∙ ap (λ k. node (n + k)) last in
    let room = added_room old new h u (λ h. acknowledge_nodes r (value_content h r.body) n) a done (omega arith) in
    let shown = added_shown old new h u (λ h. acknowledge_nodes r (value_content h r.body) n) a done in
    let Q : ℕ → ℕ → Type 0 = StandIn (all_pairs g (graph_of h u) (v ∷ []) (value_content h r.body ∷ []) s n before more others room shown) in
    let first : Q (length g.nodes) n =
    let one = new_pair g (graph_of h u) (v ∷ []) (value_content h r.body ∷ []) s n before more others room shown 0 (omega arith) in
    let p : length g.nodes + 0 ≡ length g.nodes = omega arith in
    let q : n + 0 ≡ n = omega arith in
    subst (λ k. Q (length g.nodes) k) q (subst (λ k. Q k (n + 0)) p one) in
    let body = values_more (StandIn s.pairs) Q (old_pair g (graph_of h u) (v ∷ []) (value_content h r.body ∷ []) s n before more others room shown) v (value_content h r.body) s.roots.0 in
    behind_alike g (graph_of h u) (v ∷ []) (value_content h r.body ∷ []) s n before more others room shown (acknowledge_match Q r v (value_content h r.body) (length g.nodes) n body first) 1 (omega arith) (value_content h u) at
