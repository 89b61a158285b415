-- What a node's values in the order of their meeting say of what it holds.
use Rattle.std.proofs.Common.{◌≡◌, ◌||◌, ℕ, suc, ◌<◌, ◌+◌, Bool, true, false, not, eqb, leb, List, [], ◌∷◌, length, slice_get, map, Some, refl, sym, ap, ◌∙◌, subst, inl, inr, arith}
use Rattle.std.proofs.lemmas.Bool.{eqb-true, eqb-false, leb-true, leb-false}
use Rattle.std.specs.List.{AllByRecursion, list_any}
use Rattle.amf_graph.specs.Graph.{Value, leaf, node, Node, node_at, object}
use Rattle.amf_graph.specs.ByName.{by_name}
use Rattle.amf_graph.specs.Order.{is_array, seconds, values_met}
use Rattle.amf_graph.specs.Reached.{Holds, Reached}
use Rattle.amf_graph.specs.declared.value.Value.{Value as Stored}
use Rattle.amf_graph.specs.declared.value.Value.TheVariants.{Undefined, Null, Bool as Flag, Integer, Double, Text, Node as NodeRef}
use Rattle.amf_graph.specs.Arena.{Arena, value_content, graph_of, Names, IsFinished}
use Rattle.amf_iso.specs.Numbers.{HasReached}
use Rattle.amf_graph.proofs.Finished.{finished, length_map}
use Rattle.amf_graph.proofs.Alls.{each_at, each_from}
use Rattle.amf_graph.proofs.NameOrder.{by_name_all, by_name_all_back}
use Rattle.amf_graph.proofs.OrderExists.{each_met as met_each}
use Rattle.amf_graph.proofs.Places.{each_met}
use Rattle.amf_graph.proofs.Reaching.{seconds_all}
use Rattle.amf_graph.specs.declared.value.NodeId.{NodeId}
use Rattle.amf_sol.specs.SharedObject.{HasHolder}
use Rattle.amf_sol.specs.HolderTest.{is_node, is_stored_node}

-- a law of all values in the order of their meeting holds of what the node holds, and the reverse
pub of_held : (P : Value → Type 0) (a : Node) → AllByRecursion P (values_met a) → (v : Value) → Holds a v → P v
of_held P a all v h =
    let both = each_met P (is_array a.head) (by_name a.names) a.values all in
    elim h [
      | inl o ↦ each_at P a.values o.0 v both.1 o.1
      | inr o ↦ each_at (λ p. P p.1) a.names o.0 (o.1, v) (by_name_all_back (λ p. P p.1) a.names (seconds_all P (by_name a.names) both.0)) o.2
    ]

seconds_each : (P : Value → Type 0) (ps : List (List ℕ × Value)) → AllByRecursion (λ p. P p.1) ps → AllByRecursion P (seconds ps)
seconds_each P [] h = tt
seconds_each P (p ∷ ps) h = (h.0, seconds_each P ps h.1)

pub of_met : (P : Value → Type 0) (a : Node) → ((v : Value) → Holds a v → P v) → AllByRecursion P (values_met a)
of_met P a f =
    let names : AllByRecursion (λ (p : List ℕ × Value). P p.1) a.names = each_from (λ (p : List ℕ × Value). P p.1) a.names (λ k p e. f p.1 (inr (k, p.0, e))) in
    met_each P (is_array a.head) (by_name a.names) a.values
    (seconds_each P (by_name a.names) (by_name_all (λ p. P p.1) a.names names))
    (each_from P a.values (λ k v e. f v (inl (k, e))))

-- the test of the values tells whether the node is among them
none_by : (i j : ℕ) (vs : List Value) (b : Bool) → eqb j i ≡ b → (b || list_any (is_node i) vs) ≡ false → (list_any (is_node i) vs ≡ false → AllByRecursion (λ v. v ≡ node i → ⊥) vs) → AllByRecursion (λ v. v ≡ node i → ⊥) (node j ∷ vs)
none_by i j vs true q z rest = absurd cc
none_by i j vs false q z rest = ((λ s. let same : j ≡ i = cc in eqb-false j i q same), rest z)

none_is : (i : ℕ) (vs : List Value) → list_any (is_node i) vs ≡ false → AllByRecursion (λ v. v ≡ node i → ⊥) vs
none_is i [] e = tt
none_is i (leaf x ∷ vs) e = ((λ s. absurd cc), none_is i vs e)
none_is i (node j ∷ vs) e = none_by i j vs (eqb j i) refl e (none_is i vs)

pub not_held : (i : ℕ) (a : Node) → list_any (is_node i) (values_met a) ≡ false → Holds a (node i) → ⊥
not_held i a e h = of_held (λ v. v ≡ node i → ⊥) a (none_is i (values_met a) e) (node i) h refl

-- where the test finds it, the node holds it
found_by : (i j : ℕ) (vs : List Value) (b : Bool) → eqb j i ≡ b → (b || list_any (is_node i) vs) ≡ true → (list_any (is_node i) vs ≡ true → (k : ℕ) × (slice_get vs k ≡ Some (node i))) → (k : ℕ) × (slice_get (node j ∷ vs) k ≡ Some (node i))
found_by i j vs true q z rest = (0, ap (λ n. Some (node n)) (eqb-true j i q))
found_by i j vs false q z rest = let o = rest z in (suc o.0, o.1)

found : (i : ℕ) (vs : List Value) → list_any (is_node i) vs ≡ true → (k : ℕ) × (slice_get vs k ≡ Some (node i))
found i [] e = absurd cc
found i (leaf x ∷ vs) e = let o = found i vs e in (suc o.0, o.1)
found i (node j ∷ vs) e = found_by i j vs (eqb j i) refl e (found i vs)

pub is_held : (i : ℕ) (a : Node) → list_any (is_node i) (values_met a) ≡ true → Holds a (node i)
is_held i a e =
    let o = found i (values_met a) e in
    each_at (Holds a) (values_met a) o.0 (node i) (of_met (Holds a) a (λ v h. h)) o.1

-- the test by content and by place
pub stored_test : (i : ℕ) (a : Arena) (vs : List Stored) → list_any (is_node i) (map (value_content a) vs) ≡ list_any (is_stored_node i) vs
stored_test i a [] = refl
stored_test i a (Undefined ∷ vs) = stored_test i a vs
stored_test i a (Null ∷ vs) = stored_test i a vs
stored_test i a (Flag b ∷ vs) = stored_test i a vs
stored_test i a (Integer n ∷ vs) = stored_test i a vs
stored_test i a (Double p ∷ vs) = stored_test i a vs
stored_test i a (Text t ∷ vs) = stored_test i a vs
stored_test i a (NodeRef n ∷ vs) = ap (λ b. eqb n.0 i || b) (stored_test i a vs)

-- what is numbered is there
pub numbered_there : (a : Arena) (root : Stored) (order : List ℕ) (k i : ℕ) → IsFinished a → Names a root → HasReached (graph_of a root) order → slice_get order k ≡ Some i → i < length a.nodes
numbered_there a root order k i f n h e =
    let w = finished a root f n in
    let t = w.there i ((h i).1 (k, e)) in
    omega (arith, t, length_map a a.nodes)

-- one more number
pub more_stays : (order : List ℕ) (m k i j : ℕ) (P : ℕ → Type 0) → ((k i : ℕ) → k < m → slice_get order k ≡ Some i → P i) → slice_get order m ≡ Some j → P j → k < m + 1 → slice_get order k ≡ Some i → P i
more_stays order m k i j P all e p lt f = by (leb (suc k) m) refl
  where
    by : (b : Bool) → leb (suc k) m ≡ b → P i
    by true c = all k i (let z = leb-true (suc k) m c in omega arith) f
    by false c =
        let z = leb-false (suc k) m c in
        let same : k ≡ m = omega arith in
        let both : Some j ≡ Some i = sym e ∙ ap (slice_get order) (sym same) ∙ f in
        let is : j ≡ i = cc in
        subst P is p

-- where the head and the values are a holder's, whether it is held decides
pub decides : (a : Arena) (root : Stored) (n : NodeId) (held : Bool) → root ≡ NodeRef n → Names a root
    → ((node_at (graph_of a root) n.0).head ≡ object (record { class = []; dynamic = true; sealed = [] })) × ((node_at (graph_of a root) n.0).values ≡ [])
    → (held ≡ true → (j : ℕ) × Reached (graph_of a root) j × Holds (node_at (graph_of a root) j) (node n.0))
    → ((j : ℕ) → Reached (graph_of a root) j → Holds (node_at (graph_of a root) j) (node n.0) → held ≡ true)
    → (not held ≡ true → HasHolder (graph_of a root)) × (HasHolder (graph_of a root) → not held ≡ true)
decides a root n true e names alone f g = (
  (λ z. absurd cc),
  (λ h.
      let o = f refl in
      let same : node n.0 ≡ node h.0 = sym (ap (value_content a) e) ∙ h.1.pairs.root in
      let is : n.0 ≡ h.0 = cc in
      absurd (h.1.unheld o.0 o.1 (subst (λ i. Holds (node_at (graph_of a root) o.0) (node i)) is o.2))),
)
decides a root n false e names alone f g = (
  (λ z. (
    n.0,
    record {
      pairs = record { root = ap (value_content a) e; there = (let l : n.0 < length a.nodes = subst (Names a) e names in omega (arith, l, length_map a a.nodes)); head = alone.0; unsealed = alone.1 };
      unheld = λ j r h. let z : false ≡ true = g j r h in cc;
    },
  )),
  (λ h. refl),
)
