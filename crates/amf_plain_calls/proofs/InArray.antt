-- An array in an empty builder, behind the copy of a graph whose root it holds.
use Rattle.std.proofs.Common.{◌≡◌, ◌∙◌, ℕ, ◌+◌, ◌<◌, ◌≤◌, false, cond, List, [], ◌∷◌, ◌++◌, length, get_or, refl, sym, ap, subst, arith}
use Rattle.std.proofs.Math.ListN.{get_or-map}
use Rattle.std.proofs.lemmas.List.{append-nil, length-map}
use Rattle.std.proofs.lemmas.List.Sums.{sum_by-append}
use Rattle.amf_graph.specs.declared.value.Value.{Value as Stored}
use Rattle.amf_graph.specs.Graph.{Value, node, Node, Graph, node_at, no_node}
use Rattle.amf_graph.specs.Isomorphic.{StandIn, Isomorphic}
use Rattle.amf_graph.specs.Arena.{Arena, StoredNode, array, Names, IsFinished, NodesComplete, Extends, Completes, value_content, node_content, graph_of}
use Rattle.amf_graph.specs.Bounds.{weight, bytes_of}
use Rattle.amf_graph.specs.Building.{no_arena, no_stored, kept_node, closed}
use Rattle.amf_graph.specs.Grafting.{Grafted, node_value}
use Rattle.amf_graph.proofs.Lists.{length_pushed}
use Rattle.amf_graph.proofs.Matched.{graft_law}
use Rattle.amf_graph.proofs.Matching.{values_more}
use Rattle.flex_msgs.specs.Messages.{items_node}
use Rattle.flex_msgs.proofs.BuiltAlike.{all_pairs, old_pair, behind_alike}
use Rattle.amf_service.proofs.CopiedGraphs.{none_built, copies_closed, copies_light}
use Rattle.amf_service.proofs.MadeArrays.{at_the_end, there_is}
use Rattle.amf_answer_plan.specs.PlainCalls.{in_array}
use Rattle.amf_answer_plan.proofs.Closed.{AllClosed}

nodes_complete : (ns ms : List StoredNode) → AllClosed ns → NodesComplete ns (ns ++ ms)
nodes_complete [] ms h = tt
nodes_complete (n ∷ ns) ms h = (subst (λ b. cond b (Extends n n) (n ≡ n)) (sym h.0) refl, nodes_complete ns ms h.1)

pub closed_push : (ns : List StoredNode) (n : StoredNode) → AllClosed ns → n.is_open ≡ false → AllClosed (ns ++ n ∷ [])
closed_push [] n h e = (e, tt)
closed_push (m ∷ ns) n h e = (h.0, closed_push ns n h.1 e)

module _ (a mid new : Arena) (root copy : Stored) (f : IsFinished a) (named : Names a root) (made : Grafted a (root ∷ []) no_arena mid (copy ∷ [])) (last : new ≡ kept_node mid (closed array [] (copy ∷ []))) where
  abbrev array_node : StoredNode
  array_node = closed array [] (copy ∷ [])

  mid_closed : AllClosed mid.nodes
  mid_closed = copies_closed a (root ∷ []) (copy ∷ []) mid f (named, tt) made

  pub array_closed : AllClosed new.nodes
  array_closed = subst (λ (z : Arena). AllClosed z.nodes) (sym last) (closed_push mid.nodes array_node mid_closed refl)

  pub array_light : weight new ≤ weight a + 2
  array_light =
      let w = copies_light a (root ∷ []) (copy ∷ []) mid f (named, tt) made in
      let s = sum_by-append (λ (n : StoredNode). length n.names + length n.values + bytes_of n.head) mid.nodes (array_node ∷ []) in
      subst (λ z. weight z ≤ weight a + 2) (sym last) (omega (arith, w, s, length_pushed mid.nodes array_node))

  completes : IsFinished new → Completes mid new
  completes done = subst (λ z. IsFinished z → Completes mid z) (sym last) (λ d. record {
    finished = d;
    more_texts = [];
    texts = sym (append-nil mid.texts);
    more_traits = [];
    traits = sym (append-nil mid.traits);
    nodes = nodes_complete mid.nodes (array_node ∷ []) mid_closed;
  }) done

  module _ (done : IsFinished new) (u : Stored) (at : u ≡ node_value (length mid.nodes)) where
    abbrev n : ℕ
    n = length mid.nodes

    abbrev g : Graph
    g = graph_of a root

    abbrev h : Graph
    h = graph_of new u

    abbrev v : Value
    v = value_content a root

    abbrev w : Value
    w = value_content new copy

    abbrev more : List Node
    more = items_node (v ∷ []) ∷ []

    abbrev others : List Node
    others = items_node (w ∷ []) ∷ []

    room : n + length others ≤ length h.nodes
    room = omega (arith, there_is mid new array_node n last refl, length-map new.nodes (node_content new))

    first_shown : (k : ℕ) → k ≡ 0 → node_at h (n + k) ≡ get_or others k no_node
    first_shown k z =
        let here : n + k ≡ n = omega (arith, z) in
        get_or-map (node_content new) new.nodes (n + k) no_stored ∙ ap (node_content new) (at_the_end mid new array_node (n + k) last here) ∙ ap (λ j. get_or others j no_node) (sym z)

    shown : (k : ℕ) → k < length others → node_at h (n + k) ≡ get_or others k no_node
    shown k l = first_shown k (omega (arith, l))

    pub array_same : Isomorphic (in_array g) h
    array_same =
        let law = graft_law a (root ∷ []) no_arena mid (copy ∷ []) f (named, tt) none_built made new (completes done) root u in
        let s = law.same in
        let before = λ (i j : ℕ) (p : StandIn law.same.pairs i j). (law.new i j p).1 in
        let Q : ℕ → ℕ → Type 0 = StandIn (all_pairs g h (v ∷ []) (w ∷ []) s n before more others room shown) in
        let item = values_more (StandIn law.same.pairs) Q (old_pair g h (v ∷ []) (w ∷ []) s n before more others room shown) v w law.same.roots.0 in
        let zero_more : n ≡ n + 0 = omega arith in
        let root_at : value_content new u ≡ node (n + 0) = ap (value_content new) at ∙ ap (λ k. node k) zero_more in
        behind_alike g h (v ∷ []) (w ∷ []) s n before more others room shown (record { head = refl; names = tt; values = (item, tt) }, tt) 0 (omega arith) (value_content new u) root_at
