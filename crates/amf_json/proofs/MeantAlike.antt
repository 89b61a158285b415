-- A text that means a document means each that matches it.
use Rattle.std.proofs.Common.{◌≡◌, ℕ, zero, suc, ◌<◌, Bool, true, false, cond, List, [], ◌∷◌, map, get_or, refl, sym, ap, ◌∙◌, subst}
use Rattle.std.specs.List.{AllZip}
use Rattle.std.proofs.lemmas.List.{length-map}
use Rattle.amf_graph.specs.Graph.{Leaf, Value, leaf, node, Node, no_node, Graph, node_at}
use Rattle.amf_graph.specs.ByName.{insert_stable, before, by_name}
use Rattle.amf_graph.specs.Isomorphic.{ValuesMatch, PairsMatch, NodesMatch, StandIn, Isomorphic}
use Rattle.amf_graph.proofs.Isomorphisms.{isomorphic_sym, isomorphic_trans}
use Rattle.amf_text.specs.Documents.{is_bare, Header, Message, is_bare_file, Document, value3, value0, file, packet}
use Rattle.amf_text.specs.GraphLaws.{value_with, node_with, graph_with, narrowed, ReadsAs}
use Rattle.amf_text.specs.Tellable.{HeadersMatch, MessagesMatch, DocumentsMatch, AreAlike}
use Rattle.amf_json.specs.JsonLaws.{MeansAlike}

-- Isomorphic graphs with other leaves.

module _ (r : Leaf → Leaf) where
  abbrev pair_with : List ℕ × Value → List ℕ × Value
  pair_with p = (p.0, value_with r p.1)

  insert_with : (p : List ℕ × Value) (qs : List (List ℕ × Value)) → insert_stable before (pair_with p) (map pair_with qs) ≡ map pair_with (insert_stable before p qs)
  insert_with p [] = refl
  insert_with p (q ∷ qs) = go (before q p) (insert_with p qs)
    where
      go : (b : Bool) → insert_stable before (pair_with p) (map pair_with qs) ≡ map pair_with (insert_stable before p qs)
          → cond b (pair_with q ∷ insert_stable before (pair_with p) (map pair_with qs)) (pair_with p ∷ pair_with q ∷ map pair_with qs) ≡ map pair_with (cond b (q ∷ insert_stable before p qs) (p ∷ q ∷ qs))
      go true e = ap (λ l. pair_with q ∷ l) e
      go false e = refl

  sort_with : (ps : List (List ℕ × Value)) → by_name (map pair_with ps) ≡ map pair_with (by_name ps)
  sort_with [] = refl
  sort_with (p ∷ ps) = ap (insert_stable before (pair_with p)) (sort_with ps) ∙ insert_with p (by_name ps)

  nodes_with : (ns : List Node) (i : ℕ) → get_or (map (node_with r) ns) i no_node ≡ node_with r (get_or ns i no_node)
  nodes_with [] i = refl
  nodes_with (n ∷ ns) zero = refl
  nodes_with (n ∷ ns) (suc i) = nodes_with ns i

  module _ (P : ℕ → ℕ → Type 0) where
    value_match : (v w : Value) → ValuesMatch P v w → ValuesMatch P (value_with r v) (value_with r w)
    value_match (leaf x) (leaf y) m = ap r m
    value_match (node i) (node j) m = m
    value_match (leaf x) (node j) m = absurd m
    value_match (node i) (leaf y) m = absurd m

    pair_match : (p q : List ℕ × Value) → PairsMatch P p q → PairsMatch P (pair_with p) (pair_with q)
    pair_match p q m = (m.0, value_match p.1 q.1 m.1)

    each_match : {X : Type 0} (M : X → X → Type 0) (f : X → X) → ((x y : X) → M x y → M (f x) (f y)) → (xs ys : List X) → AllZip M xs ys → AllZip M (map f xs) (map f ys)
    each_match M f h [] [] m = tt
    each_match M f h [] (y ∷ ys) m = absurd m
    each_match M f h (x ∷ xs) [] m = absurd m
    each_match M f h (x ∷ xs) (y ∷ ys) m = (h x y m.0, each_match M f h xs ys m.1)

    node_match : (a b : Node) → NodesMatch P a b → NodesMatch P (node_with r a) (node_with r b)
    node_match a b m = record {
      head = m.head;
      names = subst (λ l. AllZip (PairsMatch P) l (by_name (map pair_with b.names))) (sym (sort_with a.names))
          (subst (λ l. AllZip (PairsMatch P) (map pair_with (by_name a.names)) l) (sym (sort_with b.names))
          (each_match (PairsMatch P) pair_with pair_match (by_name a.names) (by_name b.names) m.names));
      values = each_match (ValuesMatch P) (value_with r) value_match a.values b.values m.values;
    }

  isomorphic_with : (g h : Graph) → Isomorphic g h → Isomorphic (graph_with r g) (graph_with r h)
  isomorphic_with g h i = record {
    pairs = i.pairs;
    left = i.left;
    right = i.right;
    within = λ j k m. let w = i.within j k m in (subst (λ n. j < n) (sym (length-map g.nodes (node_with r))) w.0, subst (λ n. k < n) (sym (length-map h.nodes (node_with r))) w.1);
    root = value_match (StandIn i.pairs) g.root h.root i.root;
    nodes = λ j k m.
        subst (λ n. NodesMatch (StandIn i.pairs) n (node_at (graph_with r h) k)) (sym (nodes_with g.nodes j))
        (subst (λ n. NodesMatch (StandIn i.pairs) (node_with r (node_at g j)) n) (sym (nodes_with h.nodes k)) (node_match (StandIn i.pairs) (node_at g j) (node_at h k) (i.nodes j k m)));
  }

reads_along : (bare : Bool) (g h k : Graph) → Isomorphic g h → ReadsAs bare g k → ReadsAs bare h k
reads_along false g h k i r = isomorphic_trans h g k (isomorphic_sym g h i) r
reads_along true g h k i r = isomorphic_trans (graph_with narrowed h) (graph_with narrowed g) k (isomorphic_with narrowed h g (isomorphic_sym g h i)) r

header_along : (a b c : Header Graph) → HeadersMatch AreAlike a b → HeadersMatch ReadsAs a c → HeadersMatch ReadsAs b c
header_along a b c m n = record {
  name = sym m.name ∙ n.name;
  must = sym m.must ∙ n.must;
  form = sym m.form ∙ n.form;
  graph = subst (λ f. ReadsAs (is_bare f) b.graph c.graph) m.form (reads_along (is_bare a.form) a.graph b.graph c.graph m.graph n.graph);
}

message_along : (a b c : Message Graph) → MessagesMatch AreAlike a b → MessagesMatch ReadsAs a c → MessagesMatch ReadsAs b c
message_along a b c m n = record {
  target = sym m.target ∙ n.target;
  response = sym m.response ∙ n.response;
  form = sym m.form ∙ n.form;
  graph = subst (λ f. ReadsAs (is_bare f) b.graph c.graph) m.form (reads_along (is_bare a.form) a.graph b.graph c.graph m.graph n.graph);
}

all_along : {X : Type 0} (M R : X → X → Type 0) → ((a b c : X) → M a b → R a c → R b c) → (xs ys zs : List X) → AllZip M xs ys → AllZip R xs zs → AllZip R ys zs
all_along M R f [] [] [] m n = tt
all_along M R f [] [] (z ∷ zs) m n = absurd n
all_along M R f [] (y ∷ ys) zs m n = absurd m
all_along M R f (x ∷ xs) [] zs m n = absurd m
all_along M R f (x ∷ xs) (y ∷ ys) [] m n = absurd n
all_along M R f (x ∷ xs) (y ∷ ys) (z ∷ zs) m n = (f x y z m.0 n.0, all_along M R f xs ys zs m.1 n.1)

match_along : (d e m : Document Graph) → DocumentsMatch AreAlike d e → DocumentsMatch ReadsAs d m → DocumentsMatch ReadsAs e m
match_along (value3 g) (value3 g1) (value3 g2) i r = reads_along false g g1 g2 i r
match_along (value3 g) (value3 g1) (value0 g2) i r = elim r [ ]
match_along (value3 g) (value3 g1) (file name2 version2 g2) i r = elim r [ ]
match_along (value3 g) (value3 g1) (packet version2 hs2 ms2) i r = elim r [ ]
match_along (value3 g) (value0 g1) m i r = elim i [ ]
match_along (value3 g) (file name1 version1 g1) m i r = elim i [ ]
match_along (value3 g) (packet version1 hs1 ms1) m i r = elim i [ ]
match_along (value0 g) (value3 g1) m i r = elim i [ ]
match_along (value0 g) (value0 g1) (value3 g2) i r = elim r [ ]
match_along (value0 g) (value0 g1) (value0 g2) i r = reads_along true g g1 g2 i r
match_along (value0 g) (value0 g1) (file name2 version2 g2) i r = elim r [ ]
match_along (value0 g) (value0 g1) (packet version2 hs2 ms2) i r = elim r [ ]
match_along (value0 g) (file name1 version1 g1) m i r = elim i [ ]
match_along (value0 g) (packet version1 hs1 ms1) m i r = elim i [ ]
match_along (file name version g) (value3 g1) m i r = elim i [ ]
match_along (file name version g) (value0 g1) m i r = elim i [ ]
match_along (file name version g) (file name1 version1 g1) (value3 g2) i r = elim r [ ]
match_along (file name version g) (file name1 version1 g1) (value0 g2) i r = elim r [ ]
match_along (file name version g) (file name1 version1 g1) (file name2 version2 g2) i r = (sym i.0 ∙ r.0, sym i.1 ∙ r.1, subst (λ v. ReadsAs (is_bare_file v) g1 g2) i.1 (reads_along (is_bare_file version) g g1 g2 i.2 r.2))
match_along (file name version g) (file name1 version1 g1) (packet version2 hs2 ms2) i r = elim r [ ]
match_along (file name version g) (packet version1 hs1 ms1) m i r = elim i [ ]
match_along (packet version hs ms) (value3 g1) m i r = elim i [ ]
match_along (packet version hs ms) (value0 g1) m i r = elim i [ ]
match_along (packet version hs ms) (file name1 version1 g1) m i r = elim i [ ]
match_along (packet version hs ms) (packet version1 hs1 ms1) (value3 g2) i r = elim r [ ]
match_along (packet version hs ms) (packet version1 hs1 ms1) (value0 g2) i r = elim r [ ]
match_along (packet version hs ms) (packet version1 hs1 ms1) (file name2 version2 g2) i r = elim r [ ]
match_along (packet version hs ms) (packet version1 hs1 ms1) (packet version2 hs2 ms2) i r = (sym i.0 ∙ r.0, all_along (HeadersMatch AreAlike) (HeadersMatch ReadsAs) header_along hs hs1 hs2 i.1 r.1, all_along (MessagesMatch AreAlike) (MessagesMatch ReadsAs) message_along ms ms1 ms2 i.2 r.2)

pub meant_alike : (d e : Document Graph) (text : List ℕ) → DocumentsMatch AreAlike d e → MeansAlike d text → MeansAlike e text
meant_alike d e text i (m, means, r) = (m, means, match_along d e m i r)
