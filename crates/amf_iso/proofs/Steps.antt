-- The steps of a walk over a stack of nodes.
use Rattle.std.proofs.Common.{◌≡◌, ℕ, ◌<◌, ◌≤◌, Bool, true, false, cond, List, [], ◌∷◌, ◌++◌, length, map, reverse, slice_get, Some, sym, refl, ap, ◌∙◌, subst, arith}
use Rattle.std.specs.List.{AllByRecursion}
use Rattle.std.proofs.lemmas.List.{reverse-append, reverse-reverse, append-nil}
use Rattle.amf_graph.specs.declared.value.Value.{Value as Stored}
use Rattle.amf_graph.specs.declared.value.Value.TheVariants.{Node as NodeRef}
use Rattle.amf_graph.specs.Graph.{Value, leaf, node, Node, Graph, node_at}
use Rattle.amf_graph.specs.ByName.{by_name}
use Rattle.amf_graph.specs.Order.{Absent, Walks, over, past, again, first, is_array, seconds, values_met}
use Rattle.amf_graph.specs.Arena.{Arena, IsFinished, Names, graph_of, value_content, node_content, text_at}
use Rattle.amf_graph.specs.Building.{stored_at}
use Rattle.amf_graph.proofs.Lists.{cons_same}
use Rattle.amf_graph.proofs.NameOrder.{by_name_all}
use Rattle.amf_graph.proofs.Walks.{each_left, each_right}
use Rattle.amf_iso.specs.Waiting.{node_of, number_of, node_numbers}
use Rattle.amf_iso.proofs.MetValues.{all_append, shown, node_in}
use Rattle.amf_iso.proofs.NodesWaiting.{node_back, node_content_of, numbers_append}

abbrev pub as_nodes : List ℕ → List Value
as_nodes [] = []
as_nodes (i ∷ is) = node i ∷ as_nodes is

numbers_as_nodes : (is : List ℕ) → node_numbers (as_nodes is) ≡ is
numbers_as_nodes [] = refl
numbers_as_nodes (i ∷ is) = ap (λ w. i ∷ w) (numbers_as_nodes is)

-- Leaves lead nowhere: a walk over some values is one over all values with the same nodes.

ends : (g : Graph) (met : List ℕ) (vs : List Value) → [] ≡ node_numbers vs → Walks g met vs met
ends g met [] e = over
ends g met (leaf x ∷ vs) e = past x (ends g met vs e)
ends g met (node j ∷ vs) e = cc

upto : (g : Graph) (met all : List ℕ) (i : ℕ) (ns : List ℕ) (vs : List Value) → i ∷ ns ≡ node_numbers vs → ((ws : List Value) → ns ≡ node_numbers ws → Walks g met (node i ∷ ws) all) → Walks g met vs all
upto g met all i ns [] e f = cc
upto g met all i ns (leaf x ∷ vs) e f = past x (upto g met all i ns vs e f)
upto g met all i ns (node j ∷ vs) e f = let s = cons_same e in subst (λ k. Walks g met (node k ∷ vs) all) s.0 (f vs s.1)

pub thinned : {g : Graph} {met all : List ℕ} {us : List Value} → Walks g met us all → (vs : List Value) → node_numbers us ≡ node_numbers vs → Walks g met vs all
thinned {g} {met = met} over vs e = ends g met vs e
thinned (past x a) vs e = thinned a vs e
thinned {g} (again {met = met} {all = all} {vs = us} i k f a) vs e = upto g met all i (node_numbers us) vs e (λ ws d. again i k f (thinned a ws d))
thinned {g} (first {met = met} {all = all} {vs = us} i l n a) vs e =
    let held = values_met (node_at g i) in
    upto g met all i (node_numbers us) vs e (λ ws d. first i l n (thinned a (held ++ ws) (numbers_append held us ∙ ap (λ w. node_numbers held ++ w) d ∙ sym (numbers_append held ws))))

-- where a walk over this stack ends, one from the root does
abbrev pub Leads : (g : Graph) → List ℕ → List ℕ → Type 0
Leads g met ns = (all : List ℕ) → Walks g met (as_nodes (reverse ns)) all → Walks g [] (g.root ∷ []) all

pub started : (a : Arena) (root : Stored) (ns : List ℕ) → ns ≡ node_of root → Leads (graph_of a root) [] ns
started a root ns e all w =
    thinned w (value_content a root ∷ []) (numbers_as_nodes (reverse ns) ∙ ap reverse e ∙ node_back root ∙ node_content_of a root ∙ sym (append-nil (number_of (value_content a root))))

popped : (all_ns ns : List ℕ) (i : ℕ) → all_ns ≡ ns ++ i ∷ [] → as_nodes (reverse all_ns) ≡ node i ∷ as_nodes (reverse ns)
popped all_ns ns i e = ap (λ w. as_nodes (reverse w)) e ∙ ap as_nodes (reverse-append ns (i ∷ []))

pub met_again : (g : Graph) (met all_ns ns : List ℕ) (i k : ℕ) → all_ns ≡ ns ++ i ∷ [] → slice_get met k ≡ Some i → Leads g met all_ns → Leads g met ns
met_again g met all_ns ns i k e f h all w = h all (subst (λ z. Walks g met z all) (sym (popped all_ns ns i e)) (again i k f w))

pub met_first : (g : Graph) (met all_ns ns new : List ℕ) (i : ℕ) → all_ns ≡ ns ++ i ∷ [] → i < length g.nodes → Absent met i → new ≡ ns ++ reverse (node_numbers (values_met (node_at g i))) → Leads g met all_ns → Leads g (met ++ i ∷ []) new
met_first g met all_ns ns new i e l n d h all w =
    let held = values_met (node_at g i) in
    let below = as_nodes (reverse ns) in
    let numbers : reverse new ≡ node_numbers held ++ reverse ns = ap reverse d ∙ reverse-append ns (reverse (node_numbers held)) ∙ ap (λ z. z ++ reverse ns) (reverse-reverse (node_numbers held)) in
    let same : node_numbers (as_nodes (reverse new)) ≡ node_numbers (held ++ below) = numbers_as_nodes (reverse new) ∙ numbers ∙ ap (λ z. node_numbers held ++ z) (sym (numbers_as_nodes (reverse ns))) ∙ sym (numbers_append held below) in
    h all (subst (λ z. Walks g met z all) (sym (popped all_ns ns i e)) (first i l n (thinned w (held ++ below) same)))

-- The nodes on the stack are the arena's.

abbrev pub AreNodes : Arena → List ℕ → Type 0
AreNodes a ns = AllByRecursion (λ i. i < length a.nodes) ns

pub rest_in : (a : Arena) (all_ns ns : List ℕ) (i : ℕ) → all_ns ≡ ns ++ i ∷ [] → AreNodes a all_ns → AreNodes a ns
rest_in a all_ns ns i e h = each_left (λ i. i < length a.nodes) ns (i ∷ []) (subst (AreNodes a) e h)

pub top_in : (a : Arena) (all_ns ns : List ℕ) (i : ℕ) → all_ns ≡ ns ++ i ∷ [] → AreNodes a all_ns → i < length a.nodes
top_in a all_ns ns i e h = (each_right (λ i. i < length a.nodes) ns (i ∷ []) (subst (AreNodes a) e h)).0

abbrev InArena : Arena → Value → Type 0
InArena a v = AreNodes a (number_of v)

value_there : (a : Arena) (v : Stored) → Names a v → InArena a (value_content a v)
value_there a (NodeRef n) h = (h, tt)
value_there a _ h = tt

values_there : (a : Arena) (vs : List Stored) → AllByRecursion (Names a) vs → AllByRecursion (InArena a) (map (value_content a) vs)
values_there a [] h = tt
values_there a (v ∷ vs) h = (value_there a v h.0, values_there a vs h.1)

names_there : (a : Arena) (ps : List (ℕ × Stored)) → AllByRecursion (λ p. (p.0 < length a.texts) × Names a p.1) ps → AllByRecursion (λ (p : List ℕ × Value). InArena a p.1) (map (λ p. (text_at a p.0, value_content a p.1)) ps)
names_there a [] h = tt
names_there a (p ∷ ps) h = (value_there a p.1 h.0.1, names_there a ps h.1)

seconds_there : (a : Arena) (ps : List (List ℕ × Value)) → AllByRecursion (λ (p : List ℕ × Value). InArena a p.1) ps → AllByRecursion (InArena a) (seconds ps)
seconds_there a [] h = tt
seconds_there a (p ∷ ps) h = (h.0, seconds_there a ps h.1)

numbers_there : (a : Arena) (vs : List Value) → AllByRecursion (InArena a) vs → AreNodes a (node_numbers vs)
numbers_there a [] h = tt
numbers_there a (v ∷ vs) h = all_append (λ i. i < length a.nodes) (number_of v) (node_numbers vs) h.0 (numbers_there a vs h.1)

pub met_there : (a : Arena) (root : Stored) (i : ℕ) → IsFinished a → i < length a.nodes → AreNodes a (node_numbers (values_met (node_at (graph_of a root) i)))
met_there a root i f l =
    let n = stored_at a i in
    let m = node_content a n in
    let k = node_in a i f l in
    let ps = seconds_there a (by_name m.names) (by_name_all (λ (p : List ℕ × Value). InArena a p.1) m.names (names_there a n.names k.names)) in
    subst (λ (m : Node). AreNodes a (node_numbers (values_met m))) (sym (shown a root i n refl)) (numbers_there a (values_met m) (go (is_array m.head) (seconds (by_name m.names)) m.values ps (values_there a n.values k.values)))
  where
    go : (b : Bool) (xs ys : List Value) → AllByRecursion (InArena a) xs → AllByRecursion (InArena a) ys → AllByRecursion (InArena a) (cond b (xs ++ ys) (ys ++ xs))
    go true xs ys h k = all_append (InArena a) xs ys h k
    go false xs ys h k = all_append (InArena a) ys xs k h

pub numbers_few : (vs : List Value) → length (node_numbers vs) ≤ length vs
numbers_few [] = omega arith
numbers_few (leaf x ∷ vs) = let r = numbers_few vs in omega arith
numbers_few (node i ∷ vs) = let r = numbers_few vs in omega arith

pub root_there : (a : Arena) (root : Stored) → Names a root → AreNodes a (node_of root)
root_there a root h = subst (λ ns. AreNodes a ns) (sym (node_content_of a root)) (value_there a root h)

pub finished : (g : Graph) (met ns : List ℕ) → ns ≡ [] → Leads g met ns → Walks g [] (g.root ∷ []) met
finished g met ns e h = h met (subst (λ ws. Walks g met (as_nodes (reverse ws)) met) (sym e) over)
