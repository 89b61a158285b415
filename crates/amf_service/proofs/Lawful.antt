-- The shipped services, for isomorphic arguments.
use Rattle.std.proofs.Common.{◌≡◌, ℕ, zero, suc, Bool, true, false, cond, nat_lt, if◌then◌else◌, List, [], ◌∷◌, ◌++◌, length, map, Option, Some, None, sym, refl, ap, ◌∙◌, subst, arith}
use Rattle.std.specs.Prelude.{ℤ}
use Rattle.std.specs.List.{AllZip}
use Rattle.std.proofs.lemmas.Option.{same_Some}
use Rattle.amf_graph.specs.Graph.{Leaf, Value, leaf, node, text, Head, array, object, Node, Graph, node_at}
use Rattle.amf_graph.specs.ByName.{before, by_name, insert_stable, stable_sort}
use Rattle.amf_graph.specs.Isomorphic.{ValuesMatch, PairsMatch, NodesMatch, StandIn, Isomorphic}
use Rattle.amf_graph.proofs.NameOrder.{by_name_length}
use Rattle.std.specs.Prelude.{bytes_eq}
use Rattle.std.specs.List.{AllByRecursion}
use Rattle.amf_graph.specs.Reached.{IsWhole}
use Rattle.amf_service.specs.Meaning.{Given, result, fault, GivenMatch, IsLawful, Meanings, given, no_operation, asked}
use Rattle.amf_service.specs.Registry.{Entry, called}
use Rattle.amf_service.specs.Shipped.{unnamed, items_by_kind, items_at, items_of, one_of, or_fault, echoed, number_of, and_number, total_of, number_graph, summed_total, summed, is_before, object_names, names_at, texts_graph, named, size_of, too_large}
use Rattle.amf_service.proofs.MadeArrays.{texts_alike}
use Rattle.amf_service.proofs.TextOrder.{sort_map}
use Rattle.amf_service.specs.ServiceLaws.{ServiceLaws, CalledMatch, CallsMatch}

-- both are there and related, or neither is
abbrev pub BothOr : {X : Type 0} → (X → X → Type 0) → Option X → Option X → Type 0
BothOr R None None = Unit {0}
BothOr R (Some x) (Some y) = R x y
BothOr R _ _ = ⊥

pub fault_match : {X : Type 0} (R : X → X → Type 0) (next to : X → Given) → ((x y : X) → R x y → GivenMatch (next x) (to y)) → (a b : Option X) → BothOr R a b → GivenMatch (or_fault a next) (or_fault b to)
fault_match R next to f None None m = refl
fault_match R next to f (Some x) (Some y) m = f x y m
fault_match R next to f None (Some y) m = elim m [ ]
fault_match R next to f (Some x) None m = elim m [ ]

pub zip_length : {X : Type 0} (R : X → X → Type 0) (xs ys : List X) → AllZip R xs ys → length xs ≡ length ys
zip_length R [] [] m = refl
zip_length R [] (y ∷ ys) m = elim m [ ]
zip_length R (x ∷ xs) [] m = elim m [ ]
zip_length R (x ∷ xs) (y ∷ ys) m = ap suc (zip_length R xs ys m.1)

-- The names of pairs in by-name order.

abbrev names_in : List (List ℕ × Value) → List (List ℕ)
names_in ps = map (λ p. p.0) ps

sorted_names : (ps : List (List ℕ × Value)) → names_in (by_name ps) ≡ stable_sort is_before (names_in ps)
sorted_names ps = sort_map (λ (p : List ℕ × Value). p.0) is_before ps

sorted_behind : (xs ys zs : List (List ℕ)) → stable_sort is_before ys ≡ stable_sort is_before zs → stable_sort is_before (xs ++ ys) ≡ stable_sort is_before (xs ++ zs)
sorted_behind [] ys zs e = e
sorted_behind (x ∷ xs) ys zs e = ap (insert_stable is_before x) (sorted_behind xs ys zs e)

module _ (P : ℕ → ℕ → Type 0) where
  zip_names : (ps qs : List (List ℕ × Value)) → AllZip (PairsMatch P) ps qs → names_in ps ≡ names_in qs
  zip_names [] [] m = refl
  zip_names [] (q ∷ qs) m = elim m [ ]
  zip_names (p ∷ ps) [] m = elim m [ ]
  zip_names (p ∷ ps) (q ∷ qs) m = let e = m.0.0 in let d = zip_names ps qs m.1 in cc

  few_names : (a b : Node) → NodesMatch P a b → length a.names ≡ length b.names
  few_names a b m = sym (by_name_length a.names) ∙ zip_length (PairsMatch P) (by_name a.names) (by_name b.names) m.names ∙ by_name_length b.names

  unnamed_match : (ps qs : List (List ℕ × Value)) (vs ws : List Value) → length ps ≡ length qs → AllZip (ValuesMatch P) vs ws → BothOr (AllZip (ValuesMatch P)) (unnamed ps vs) (unnamed qs ws)
  unnamed_match [] [] vs ws l m = m
  unnamed_match [] (q ∷ qs) vs ws l m = absurd (omega arith)
  unnamed_match (p ∷ ps) [] vs ws l m = absurd (omega arith)
  unnamed_match (p ∷ ps) (q ∷ qs) vs ws l m = tt

  kind_items : (d : Head) (a b : Node) → NodesMatch P a b → BothOr (AllZip (ValuesMatch P)) (items_by_kind d a) (items_by_kind d b)
  kind_items array a b m = unnamed_match a.names b.names a.values b.values (few_names a b m) m.values
  kind_items _ a b m = tt

  node_items : (a b : Node) → NodesMatch P a b → BothOr (AllZip (ValuesMatch P)) (items_by_kind a.head a) (items_by_kind b.head b)
  node_items a b m = subst (λ d. BothOr (AllZip (ValuesMatch P)) (items_by_kind a.head a) (items_by_kind d b)) m.head (kind_items a.head a b m)

  one_match : (a b : Option (List Value)) → BothOr (AllZip (ValuesMatch P)) a b → BothOr (ValuesMatch P) (one_of a) (one_of b)
  one_match None None m = tt
  one_match None (Some ws) m = elim m [ ]
  one_match (Some vs) None m = elim m [ ]
  one_match (Some []) (Some []) m = tt
  one_match (Some []) (Some (w ∷ ws)) m = elim m [ ]
  one_match (Some (v ∷ vs)) (Some []) m = elim m [ ]
  one_match (Some (v ∷ [])) (Some (w ∷ [])) m = m.0
  one_match (Some (v ∷ [])) (Some (w ∷ x ∷ ws)) m = elim m.1 [ ]
  one_match (Some (v ∷ u ∷ vs)) (Some (w ∷ [])) m = elim m.1 [ ]
  one_match (Some (v ∷ u ∷ vs)) (Some (w ∷ x ∷ ws)) m = tt

  number_match : (v w : Value) → ValuesMatch P v w → number_of v ≡ number_of w
  number_match (leaf x) (leaf y) m = ap (λ z. number_of (leaf z)) m
  number_match (leaf x) (node j) m = elim m [ ]
  number_match (node i) (leaf y) m = elim m [ ]
  number_match (node i) (node j) m = refl

  total_match : (vs ws : List Value) → AllZip (ValuesMatch P) vs ws → total_of vs ≡ total_of ws
  total_match [] [] m = refl
  total_match [] (w ∷ ws) m = elim m [ ]
  total_match (v ∷ vs) [] m = elim m [ ]
  total_match (v ∷ vs) (w ∷ ws) m = ap (λ z. and_number z (total_of vs)) (number_match v w m.0) ∙ ap (and_number (number_of w)) (total_match vs ws m.1)

  abbrev SortAlike : List (List ℕ) → List (List ℕ) → Type 0
  SortAlike xs ys = stable_sort is_before xs ≡ stable_sort is_before ys

  kind_names : (d : Head) (a b : Node) → NodesMatch P a b → BothOr SortAlike (object_names d a) (object_names d b)
  kind_names (object t) a b m =
      sorted_behind t.sealed (names_in a.names) (names_in b.names) (sym (sorted_names a.names) ∙ zip_names (by_name a.names) (by_name b.names) m.names ∙ sorted_names b.names)
  kind_names _ a b m = tt

  node_names : (a b : Node) → NodesMatch P a b → BothOr SortAlike (object_names a.head a) (object_names b.head b)
  node_names a b m = subst (λ d. BothOr SortAlike (object_names a.head a) (object_names d b)) m.head (kind_names a.head a b m)

number_same : (n : ℤ) → GivenMatch (summed_total n) (summed_total n)
number_same n = go (nat_lt (size_of n) 9007199254740992)
  where
    go : (t : Bool) → GivenMatch (if t then result (number_graph n) else fault too_large) (if t then result (number_graph n) else fault too_large)
    go true = record { pairs = []; left = λ i j k p q. absurd cc; right = λ i j k p q. absurd cc; within = λ i j p. absurd cc; root = refl; nodes = λ i j p. absurd cc }
    go false = refl

names_same : (xs ys : List (List ℕ)) → stable_sort is_before xs ≡ stable_sort is_before ys → Isomorphic (texts_graph (stable_sort is_before xs)) (texts_graph (stable_sort is_before ys))
names_same xs ys e = texts_alike (stable_sort is_before xs) (texts_graph (stable_sort is_before ys)) 0 (omega arith) refl (ap (λ (zs : List (List ℕ)). record { head = array; names = []; values = map (λ x. leaf (text x)) zs }) (sym e))

-- a graph whose root is no node
pub leaf_alike : (x : Leaf) (h : Graph) → h.root ≡ leaf x → Isomorphic (record { nodes = []; root = leaf x }) h
leaf_alike x h e = record { pairs = []; left = λ i j k p q. absurd cc; right = λ i j k p q. absurd cc; within = λ i j p. absurd cc; root = subst (λ v. ValuesMatch (StandIn []) (leaf x) v) (sym e) refl; nodes = λ i j p. absurd cc }

module _ (g h : Graph) (i : Isomorphic g h) where
  items_match : (v w : Value) → ValuesMatch (StandIn i.pairs) v w → BothOr (AllZip (ValuesMatch (StandIn i.pairs))) (items_at g v) (items_at h w)
  items_match (leaf x) (leaf y) m = tt
  items_match (leaf x) (node k) m = elim m [ ]
  items_match (node j) (leaf y) m = elim m [ ]
  items_match (node j) (node k) m = node_items (StandIn i.pairs) (node_at g j) (node_at h k) (i.nodes j k m)

  names_match : (v w : Value) → ValuesMatch (StandIn i.pairs) v w → BothOr (SortAlike (StandIn i.pairs)) (names_at g v) (names_at h w)
  names_match (leaf x) (leaf y) m = tt
  names_match (leaf x) (node k) m = elim m [ ]
  names_match (node j) (leaf y) m = elim m [ ]
  names_match (node j) (node k) m = node_names (StandIn i.pairs) (node_at g j) (node_at h k) (i.nodes j k m)

  pub items_alike : BothOr (AllZip (ValuesMatch (StandIn i.pairs))) (items_of g) (items_of h)
  items_alike = items_match g.root h.root i.root

  one : BothOr (ValuesMatch (StandIn i.pairs)) (one_of (items_of g)) (one_of (items_of h))
  one = one_match (StandIn i.pairs) (items_of g) (items_of h) (items_match g.root h.root i.root)

  pub echo_match : GivenMatch (echoed g) (echoed h)
  echo_match =
      fault_match (ValuesMatch (StandIn i.pairs)) (λ v. result (record { nodes = g.nodes; root = v })) (λ v. result (record { nodes = h.nodes; root = v }))
      (λ v w m. record { pairs = i.pairs; left = i.left; right = i.right; within = i.within; root = m; nodes = i.nodes })
      (one_of (items_of g)) (one_of (items_of h)) one

  total_given : (a b : Option ℤ) → a ≡ b → GivenMatch (or_fault a summed_total) (or_fault b summed_total)
  total_given a b e = subst (λ z. GivenMatch (or_fault a summed_total) (or_fault z summed_total)) e (go a)
    where
      go : (a : Option ℤ) → GivenMatch (or_fault a summed_total) (or_fault a summed_total)
      go None = refl
      go (Some n) = number_same n

  pub sum_match : GivenMatch (summed g) (summed h)
  sum_match =
      fault_match (AllZip (ValuesMatch (StandIn i.pairs))) (λ vs. or_fault (total_of vs) summed_total) (λ vs. or_fault (total_of vs) summed_total)
      (λ vs ws m. total_given (total_of vs) (total_of ws) (total_match (StandIn i.pairs) vs ws m))
      (items_of g) (items_of h) (items_match g.root h.root i.root)

  pub name_match : GivenMatch (named g) (named h)
  name_match =
      fault_match (ValuesMatch (StandIn i.pairs)) (λ v. or_fault (names_at g v) (λ xs. result (texts_graph (stable_sort is_before xs)))) (λ v. or_fault (names_at h v) (λ xs. result (texts_graph (stable_sort is_before xs))))
      (λ v w m. fault_match (SortAlike (StandIn i.pairs)) (λ xs. result (texts_graph (stable_sort is_before xs))) (λ xs. result (texts_graph (stable_sort is_before xs))) (λ xs ys e. names_same xs ys e) (names_at g v) (names_at h w) (names_match v w m))
      (one_of (items_of g)) (one_of (items_of h)) one

-- A registry of lawful services.

pub asked_match : (m : Meanings) → IsLawful m.gives → (o : List ℕ) (g h : Graph) → IsWhole g → IsWhole h → Isomorphic g h → CalledMatch (asked m o g) (asked m o h)
asked_match m l o g h a b i = go (m.knows o)
  where
    go : (t : Bool) → CalledMatch (if t then given (m.gives o g) else no_operation) (if t then given (m.gives o h) else no_operation)
    go true = l.alike o g h a b i
    go false = refl

calls_match : (es : List Entry) → AllByRecursion (λ e. IsLawful e.means.gives) es → (s : List ℕ) → CallsMatch es s
calls_match [] l s o g h a b i = refl
calls_match (e ∷ es) l s o g h a b i = go (bytes_eq s e.name) (calls_match es l.1 s o g h a b i)
  where
    go : (t : Bool) → CalledMatch (called es s o g) (called es s o h) → CalledMatch (if t then asked e.means o g else called es s o g) (if t then asked e.means o h else called es s o h)
    go true r = asked_match e.means l.0 o g h a b i
    go false r = r

pub lawful : ServiceLaws
lawful = record {
  echo = record { alike = λ operation g h a b i. echo_match g h i };
  sum = record { alike = λ operation g h a b i. sum_match g h i };
  names = record { alike = λ operation g h a b i. name_match g h i };
  registry = calls_match;
}
