-- Graphs of arguments: what they reach is there and as its kind wants it, and isomorphic graphs make isomorphic arguments.
use Rattle.std.proofs.Common.{◌≡◌, ℕ, zero, suc, ◌+◌, ◌<◌, ◌⊎◌, List, [], ◌∷◌, length, slice_get, Some, refl, sym, ap, ◌∙◌, subst, arith, inl, inr, length-append}
use Rattle.std.proofs.lemmas.List.{get_or-append-add, get_or_append_left}
use Rattle.amf_graph.specs.Graph.{Value, node, Node, Graph, node_at, no_node, IsValue, HasTexts, Fits}
use Rattle.amf_graph.specs.Isomorphic.{ValuesMatch, StandIn, Isomorphic, NodesMatch}
use Rattle.amf_graph.specs.Reached.{Reached, at_root, inside, Holds, IsReachedValue, IsWhole}
use Rattle.flex_msgs.specs.Messages.{items_node}
use Rattle.amf_answer_plan.specs.PlainCalls.{in_array}
use Rattle.std.specs.List.{AllZip}
use Rattle.amf_graph.specs.Roots.{SameFrom}
use Rattle.flex_msgs.specs.Answers.{rooted_behind}

-- further nodes behind two graphs in which some values are the same
abbrev pub BehindAlike : Type 1
BehindAlike =
    (g h : Graph) (vs ws : List Value) (s : SameFrom g h vs ws) (more others : List Node) (last : ℕ) → last < length more → length more ≡ length others →
    ((P : ℕ → ℕ → Type 0) → AllZip (ValuesMatch P) vs ws → ((m : ℕ) → m < length more → P (length g.nodes + m) (length h.nodes + m)) → AllZip (NodesMatch P) more others) →
    Isomorphic (rooted_behind last g.nodes (λ n. more)) (rooted_behind last h.nodes (λ n. others))

-- the graph from another value
abbrev pub from_value : Graph → Value → Graph
from_value g v = record { nodes = g.nodes; root = v }

pub from_alike : (g h : Graph) (i : Isomorphic g h) (v w : Value) → ValuesMatch (StandIn i.pairs) v w → Isomorphic (from_value g v) (from_value h w)
from_alike g h i v w m = record { pairs = i.pairs; left = i.left; right = i.right; within = i.within; root = m; nodes = i.nodes }

module _ (g : Graph) (v : Value) (r : IsReachedValue g v) where
  root_reached : (i : ℕ) → v ≡ node i → Reached g i
  root_reached i e = go r
    where
      go : IsReachedValue g v → Reached g i
      go (inl root) = at_root (root ∙ e)
      go (inr h) = inside h.0 h.1 (subst (λ z. Holds (node_at g h.0) z) e h.2)

  from_reached : (i : ℕ) → Reached (from_value g v) i → Reached g i
  from_reached i (at_root e) = root_reached i e
  from_reached i (inside j s h) = inside j (from_reached j s) h

  value_reached : (u : Value) → IsReachedValue (from_value g v) u → IsReachedValue g u
  value_reached u (inl e) = subst (λ z. IsReachedValue g z) e r
  value_reached u (inr h) = inr (h.0, from_reached h.0 h.1, h.2)

  pub from_whole : IsWhole g → IsWhole (from_value g v)
  from_whole w = record {
    there = λ i s. w.there i (from_reached i s);
    values = λ u s. w.values u (value_reached u s);
    texts = λ i s. w.texts i (from_reached i s);
    fits = λ i s. w.fits i (from_reached i s);
  }

-- An array behind a graph that holds its root.

none_there : {X : Type 0} (k : ℕ) (x : X) → slice_get [] k ≡ Some x → ⊥
none_there k x e = cc

abbrev one_item : Graph → List Node
one_item g = items_node (g.root ∷ []) ∷ []

module _ (g : Graph) (w : IsWhole g) where
  abbrev n : ℕ
  n = length g.nodes + 0

  at_old : (i : ℕ) → i < length g.nodes → node_at (in_array g) i ≡ node_at g i
  at_old i l = get_or_append_left g.nodes (one_item g) no_node i l

  at_new : node_at (in_array g) n ≡ items_node (g.root ∷ [])
  at_new = get_or-append-add g.nodes (one_item g) 0 no_node

  -- the array's node, or one of the graph
  abbrev Old : ℕ → Type 0
  Old i = (i ≡ n) ⊎ Reached g i

  same_node : (i j : ℕ) → node i ≡ node j → i ≡ j
  same_node i j e = cc

  held_root : (v : Value) → Holds (items_node (g.root ∷ [])) v → g.root ≡ v
  held_root v (inl h) = go h.0 h.1
    where
      go : (k : ℕ) → slice_get (g.root ∷ []) k ≡ Some v → g.root ≡ v
      go zero e = cc
      go (suc k) e = absurd (none_there k v e)
  held_root v (inr h) = absurd (none_there h.0 (h.1, v) h.2)

  held_old : (j : ℕ) → Old j → (v : Value) → Holds (node_at (in_array g) j) v → IsReachedValue g v
  held_old j (inl e) v h = inl (held_root v (subst (λ a. Holds a v) (ap (λ k. node_at (in_array g) k) e ∙ at_new) h))
  held_old j (inr r) v h = inr (j, r, subst (λ a. Holds a v) (at_old j (w.there j r)) h)

  reached_old : (i : ℕ) → IsReachedValue g (node i) → Reached g i
  reached_old i (inl e) = at_root e
  reached_old i (inr h) = inside h.0 h.1 h.2

  array_reached : (i : ℕ) → Reached (in_array g) i → Old i
  array_reached i (at_root e) = inl (sym (same_node n i e))
  array_reached i (inside j s h) = inr (reached_old i (held_old j (array_reached j s) (node i) h))

  old_there : (i : ℕ) → Old i → i < length (in_array g).nodes
  old_there i (inl e) = omega (arith, e, length-append g.nodes (one_item g))
  old_there i (inr r) = omega (arith, w.there i r, length-append g.nodes (one_item g))

  old_texts : (i : ℕ) → Old i → HasTexts (node_at (in_array g) i)
  old_texts i (inl e) = subst HasTexts (sym (ap (λ k. node_at (in_array g) k) e ∙ at_new)) (record { head = tt; names = tt })
  old_texts i (inr r) = subst HasTexts (sym (at_old i (w.there i r))) (w.texts i r)

  abbrev FitsNode : Node → Type 0
  FitsNode a = Fits a.head a.names a.values

  old_fits : (i : ℕ) → Old i → FitsNode (node_at (in_array g) i)
  old_fits i (inl e) = subst FitsNode (sym (ap (λ k. node_at (in_array g) k) e ∙ at_new)) tt
  old_fits i (inr r) = subst FitsNode (sym (at_old i (w.there i r))) (w.fits i r)

  array_value : (v : Value) → IsReachedValue (in_array g) v → IsValue v
  array_value v (inl e) = subst IsValue e tt
  array_value v (inr h) = w.values v (held_old h.0 (array_reached h.0 h.1) v h.2)

  pub array_whole : IsWhole (in_array g)
  array_whole = record {
    there = λ i s. old_there i (array_reached i s);
    values = array_value;
    texts = λ i s. old_texts i (array_reached i s);
    fits = λ i s. old_fits i (array_reached i s);
  }

pub array_alike : BehindAlike → (g h : Graph) → Isomorphic g h → Isomorphic (in_array g) (in_array h)
array_alike B g h i =
    B g h (g.root ∷ []) (h.root ∷ []) (record { pairs = i.pairs; left = i.left; right = i.right; within = i.within; roots = (i.root, tt); nodes = i.nodes })
    (one_item g) (one_item h) 0 (omega arith) refl (λ P m at. (record { head = refl; names = tt; values = m }, tt))
