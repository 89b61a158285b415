-- A finished arena within bounds is a small graph by content, and a finished arena completes itself.
use Rattle.std.proofs.Common.{◌≡◌, ℕ, zero, suc, ◌+◌, ◌<◌, false, cond, List, [], ◌∷◌, ◌++◌, length, map, get_or, refl, ap, sym, subst, arith}
use Rattle.std.specs.List.{AllByRecursion}
use Rattle.amf_graph.specs.declared.value.Value.{Value as Stored}
use Rattle.amf_graph.specs.declared.value.Value.TheVariants.{Undefined, Null, Bool as Flag, Integer, Double, Text, Node as NodeRef}
use Rattle.amf_graph.specs.Graph.{Value}
use Rattle.amf_graph.specs.Small.{IsFew, IsShort, IsSmallValue, IsSmallHead, count_of, IsSmallNode, IsSmall}
use Rattle.amf_graph.specs.Bounds.{items_of, parts_of, NodeWithin, IsWithinBounds}
use Rattle.amf_graph.specs.Arena.{Arena, StoredTraits, StoredHead, xml_document, date, array, object, wrapper, xml, bytes, ints, uints, doubles, values, dictionary, StoredNode, no_traits, text_at, value_content, head_content, node_content, graph_of, Names, IsFinished, Extends, NodesComplete, Completes}
use Rattle.amf_graph.proofs.Finished.{Stands, stands, at_place, length_map}

-- texts are short, also where there is none
short_text : (a : Arena) → IsWithinBounds a → (i : ℕ) → IsShort (text_at a i)
short_text a b i = by_place a.texts i b.texts
  where
    by_place : (xs : List (List ℕ)) (i : ℕ) → AllByRecursion (λ x. length x < 268435456) xs → IsShort (get_or xs i [])
    by_place [] i all = omega arith
    by_place (x ∷ xs) zero all = all.0
    by_place (x ∷ xs) (suc i) all = by_place xs i all.1

short_texts : (a : Arena) → IsWithinBounds a → (is : List ℕ) → AllByRecursion IsShort (map (text_at a) is)
short_texts a b [] = tt
short_texts a b (i ∷ is) = (short_text a b i, short_texts a b is)

as_long : (f : ℕ → List ℕ) (is : List ℕ) → length (map f is) ≡ length is
as_long f [] = refl
as_long f (i ∷ is) = ap suc (as_long f is)

few_sealed : (a : Arena) → IsWithinBounds a → (t : ℕ) → length (get_or a.traits t no_traits).sealed < 33554432
few_sealed a b t = by_place a.traits t b.traits
  where
    by_place : (ts : List StoredTraits) (i : ℕ) → AllByRecursion (λ t. length t.sealed < 33554432) ts → length (get_or ts i no_traits).sealed < 33554432
    by_place [] i all = omega arith
    by_place (t ∷ ts) zero all = all.0
    by_place (t ∷ ts) (suc i) all = by_place ts i all.1

small_value : (a : Arena) → IsWithinBounds a → (s : Stored) → IsSmallValue (value_content a s)
small_value a b Undefined = tt
small_value a b Null = tt
small_value a b (Flag x) = tt
small_value a b (Integer n) = tt
small_value a b (Double p) = tt
small_value a b (Text t) = short_text a b t.0
small_value a b (NodeRef n) = tt

small_head : (a : Arena) → IsWithinBounds a → (h : StoredHead) (names parts : ℕ) → items_of h + names + parts < 268435456 → IsSmallHead (head_content a h)
small_head a b (xml_document x) names parts l = short_text a b x
small_head a b (date p) names parts l = tt
small_head a b array names parts l = tt
small_head a b (object t) names parts l = (
  short_text a b (get_or a.traits t no_traits).class,
  short_texts a b (get_or a.traits t no_traits).sealed,
  subst (λ n. n < 33554432) (sym (as_long (text_at a) (get_or a.traits t no_traits).sealed)) (few_sealed a b t),
)
small_head a b (wrapper c) names parts l = tt
small_head a b (xml x) names parts l = short_text a b x
small_head a b (bytes x) names parts l = omega (arith, l)
small_head a b (ints f ns) names parts l = omega (arith, l)
small_head a b (uints f ns) names parts l = omega (arith, l)
small_head a b (doubles f ns) names parts l = omega (arith, l)
small_head a b (values f x) names parts l = short_text a b x
small_head a b (dictionary f) names parts l = tt

-- entries are counted alike
pub same_count : (a : Arena) (h : StoredHead) (n : ℕ) → count_of (head_content a h) n ≡ parts_of h n
same_count a (xml_document x) n = refl
same_count a (date p) n = refl
same_count a array n = refl
same_count a (object t) n = refl
same_count a (wrapper c) n = refl
same_count a (xml x) n = refl
same_count a (bytes x) n = refl
same_count a (ints f ns) n = refl
same_count a (uints f ns) n = refl
same_count a (doubles f ns) n = refl
same_count a (values f x) n = refl
same_count a (dictionary f) n = refl

short_names : (a : Arena) → IsWithinBounds a → (ps : List (ℕ × Stored)) → AllByRecursion {X = List ℕ × Value} (λ p. IsShort p.0) (map (λ p. (text_at a p.0, value_content a p.1)) ps)
short_names a b [] = tt
short_names a b (p ∷ ps) = (short_text a b p.0, short_names a b ps)

pub names_long : (a : Arena) (ps : List (ℕ × Stored)) → length {A = List ℕ × Value} (map (λ p. (text_at a p.0, value_content a p.1)) ps) ≡ length ps
names_long a [] = refl
names_long a (p ∷ ps) = ap suc (names_long a ps)

pub values_long : (a : Arena) (ss : List Stored) → length (map (value_content a) ss) ≡ length ss
values_long a [] = refl
values_long a (s ∷ ss) = ap suc (values_long a ss)

small_node : (a : Arena) → IsWithinBounds a → (n : StoredNode) → NodeWithin n → IsSmallNode (node_content a n)
small_node a b n w = record {
  head = small_head a b n.head (length n.names) (parts_of n.head (length n.values)) w.together;
  names = short_names a b n.names;
  few_names = subst IsFew (sym (names_long a n.names)) (second (items_of n.head) (length n.names) (parts_of n.head (length n.values)) w.together);
  count = subst (λ k. IsFew (count_of (head_content a n.head) k)) (sym (values_long a n.values))
      (subst IsFew (sym (same_count a n.head (length n.values))) (third (items_of n.head) (length n.names) (parts_of n.head (length n.values)) w.together));
}
  where
    second : (x y z : ℕ) → x + y + z < 268435456 → y < 268435456
    second x y z l = omega arith

    third : (x y z : ℕ) → x + y + z < 268435456 → z < 268435456
    third x y z l = omega arith

small_nodes : (a : Arena) → IsWithinBounds a → (ns : List StoredNode) → AllByRecursion NodeWithin ns → AllByRecursion (λ n. IsSmallNode (node_content a n)) ns
small_nodes a b [] all = tt
small_nodes a b (n ∷ ns) all = (small_node a b n all.0, small_nodes a b ns all.1)

pub finished_small : (a : Arena) (root : Stored) → IsFinished a → IsWithinBounds a → Names a root → IsSmall (graph_of a root)
finished_small a root f b h = record {
  few = subst IsFew (sym (length_map a a.nodes)) b.few_nodes;
  values = λ v r. let s : Stands a v = stands a root f h v r in subst IsSmallValue s.2 (small_value a b s.0);
  nodes = λ i r. at_place a IsSmallNode a.nodes i (small_nodes a b a.nodes b.nodes) (record { head = tt; names = tt; few_names = omega arith; count = omega arith });
}

-- a finished arena completes itself

and_nothing : {X : Type 0} (xs : List X) → xs ≡ xs ++ []
and_nothing [] = refl
and_nothing (x ∷ xs) = ap (λ ys. x ∷ ys) (and_nothing xs)

nodes_complete : (ns : List StoredNode) → AllByRecursion (λ n. n.is_open ≡ false) ns → NodesComplete ns ns
nodes_complete [] all = tt
nodes_complete (n ∷ ns) all = (subst (λ b. cond b (Extends n n) (n ≡ n)) (sym all.0) refl, nodes_complete ns all.1)

pub completes_itself : (a : Arena) → IsFinished a → Completes a a
completes_itself a f = record { finished = f; more_texts = []; texts = and_nothing a.texts; more_traits = []; traits = and_nothing a.traits; nodes = nodes_complete a.nodes f.closed }
