-- A finished arena is a whole graph.
use Rattle.std.proofs.Common.{◌≡◌, ℕ, zero, suc, ◌<◌, false, List, [], ◌∷◌, length, map, slice_get, get_or, Option, Some, None, refl, ap, sym, subst, arith, inl, inr}
use Rattle.std.specs.List.{AllByRecursion}
use Rattle.amf_wire.specs.Text.{IsText}
use Rattle.amf_graph.specs.declared.value.Value.{Value as Stored}
use Rattle.amf_graph.specs.declared.value.Value.TheVariants.{Undefined, Null, Bool as Flag, Integer, Double, Text, Node as NodeRef}
use Rattle.amf_graph.specs.Graph as graph
use Rattle.amf_graph.specs.Graph.{Value, leaf, node, IsValue, HasHeadTexts, HasTexts, Fits}
use Rattle.amf_graph.specs.Reached.{Holds, Reached, at_root, inside, IsReachedValue, IsWhole}
use Rattle.amf_graph.specs.Arena.{Arena, StoredHead, xml_document, date, array, object, wrapper, xml, bytes, ints, uints, doubles, values, dictionary, StoredNode, no_traits, head_content, text_at, value_content, node_content, graph_of, Names, IsTextId, IsNodeIn, IsFinished}

text_there : (xs : List (List ℕ)) (i : ℕ) → AllByRecursion IsText xs → i < length xs → IsText (get_or xs i [])
text_there [] i all h = absurd (omega arith)
text_there (x ∷ xs) zero all h = all.0
text_there (x ∷ xs) (suc i) all h = text_there xs i all.1 (omega arith)

pub value_good : (a : Arena) → AllByRecursion IsText a.texts → (s : Stored) → Names a s → IsValue (value_content a s)
value_good a all Undefined h = tt
value_good a all Null h = tt
value_good a all (Flag b) h = tt
value_good a all (Integer n) h = h
value_good a all (Double p) h = h
value_good a all (Text t) h = text_there a.texts t.0 all h
value_good a all (NodeRef n) h = tt

node_is : (i j : ℕ) → node i ≡ node j → i ≡ j
node_is i j e = cc

apart : (x : graph.Leaf) (i : ℕ) (P : Type 0) → leaf x ≡ node i → P
apart x i P e = cc

value_there : (a : Arena) (s : Stored) (i : ℕ) → Names a s → value_content a s ≡ node i → i < length a.nodes
value_there a Undefined i h e = apart _ i _ e
value_there a Null i h e = apart _ i _ e
value_there a (Flag b) i h e = apart _ i _ e
value_there a (Integer n) i h e = apart _ i _ e
value_there a (Double p) i h e = apart _ i _ e
value_there a (Text t) i h e = apart _ i _ e
value_there a (NodeRef n) i h e = subst (λ k. k < length a.nodes) (node_is n.0 i e) h

-- a value that stands in the arena
abbrev pub Stands : Arena → Value → Type 0
Stands a v = (s : Stored) × Names a s × (value_content a s ≡ v)

in_values : (a : Arena) (ss : List Stored) (k : ℕ) (v : Value) → AllByRecursion (Names a) ss → slice_get (map (value_content a) ss) k ≡ Some v → Stands a v
in_values a [] k v all e = let h : None ≡ Some v = e in absurd cc
in_values a (s ∷ ss) zero v all e = let h : value_content a s ≡ v = cc in (s, all.0, h)
in_values a (s ∷ ss) (suc k) v all e = in_values a ss k v all.1 e

in_names : (a : Arena) (ps : List (ℕ × Stored)) (k : ℕ) (x : List ℕ) (v : Value) → AllByRecursion (λ p. IsTextId a p.0 × Names a p.1) ps → slice_get {X = List ℕ × Value} (map (λ p. (text_at a p.0, value_content a p.1)) ps) k ≡ Some (x, v) → Stands a v
in_names a [] k x v all e = let h : ◌≡◌ {A = Option (List ℕ × Value)} None (Some (x, v)) = e in absurd cc
in_names a (p ∷ ps) zero x v all e = let h : ◌≡◌ {A = List ℕ × Value} (text_at a p.0, value_content a p.1) (x, v) = cc in (p.1, all.0.1, ap (λ q. q.1) h)
in_names a (p ∷ ps) (suc k) x v all e = in_names a ps k x v all.1 e

held : (a : Arena) (n : StoredNode) → IsNodeIn a n → (v : Value) → Holds (node_content a n) v → Stands a v
held a n h v (inl (k, e)) = in_values a n.values k v h.values e
held a n h v (inr (k, x, e)) = in_names a n.names k x v h.names e

-- what holds of each node, and of none, holds at each place
pub at_place : (a : Arena) (P : graph.Node → Type 0) (ns : List StoredNode) (i : ℕ) → AllByRecursion (λ n. P (node_content a n)) ns → P graph.no_node → P (get_or (map (node_content a) ns) i graph.no_node)
at_place a P [] i all d = d
at_place a P (n ∷ ns) zero all d = all.0
at_place a P (n ∷ ns) (suc i) all d = at_place a P ns i all.1 d

all_held : (a : Arena) (ns : List StoredNode) → AllByRecursion (IsNodeIn a) ns → AllByRecursion (λ n. (v : Value) → Holds (node_content a n) v → Stands a v) ns
all_held a [] all = tt
all_held a (n ∷ ns) all = (held a n all.0, all_held a ns all.1)

all_fit : (a : Arena) (ns : List StoredNode) → AllByRecursion (IsNodeIn a) ns → AllByRecursion (λ n. n.is_open ≡ false) ns → AllByRecursion (λ n. Fits (node_content a n).head (node_content a n).names (node_content a n).values) ns
all_fit a [] all closed = tt
all_fit a (n ∷ ns) all closed = (all.0.fits closed.0, all_fit a ns all.1 closed.1)

holds_nothing : (v : Value) (P : Type 0) → Holds graph.no_node v → P
holds_nothing v P (inl (k, e)) = let h : None ≡ Some v = e in absurd cc
holds_nothing v P (inr (k, x, e)) = let h : ◌≡◌ {A = Option (List ℕ × Value)} None (Some (x, v)) = e in absurd cc

pub stands : (a : Arena) (root : Stored) → IsFinished a → Names a root → (v : Value) → IsReachedValue (graph_of a root) v → Stands a v
stands a root f h v (inl e) = (root, h, e)
stands a root f h v (inr (j, r, holds)) = at_place a (λ n. (v : Value) → Holds n v → Stands a v) a.nodes j (all_held a a.nodes f.built.nodes) (λ w z. holds_nothing w (Stands a w) z) v holds

-- every text of an arena is one, also where there is none
text_good : (a : Arena) → AllByRecursion IsText a.texts → (i : ℕ) → IsText (text_at a i)
text_good a all i = by_place a.texts i all
  where
    by_place : (xs : List (List ℕ)) (i : ℕ) → AllByRecursion IsText xs → IsText (get_or xs i [])
    by_place [] i all = ([], tt, refl)
    by_place (x ∷ xs) zero all = all.0
    by_place (x ∷ xs) (suc i) all = by_place xs i all.1

sealed_good : (a : Arena) → AllByRecursion IsText a.texts → (is : List ℕ) → AllByRecursion IsText (map (text_at a) is)
sealed_good a all [] = tt
sealed_good a all (i ∷ is) = (text_good a all i, sealed_good a all is)

names_good : (a : Arena) → AllByRecursion IsText a.texts → (ps : List (ℕ × Stored)) → AllByRecursion {X = List ℕ × Value} (λ p. IsText p.0) (map (λ p. (text_at a p.0, value_content a p.1)) ps)
names_good a all [] = tt
names_good a all (p ∷ ps) = (text_good a all p.0, names_good a all ps)

head_good : (a : Arena) → AllByRecursion IsText a.texts → (h : StoredHead) → HasHeadTexts (head_content a h)
head_good a all (xml_document x) = tt
head_good a all (date p) = tt
head_good a all array = tt
head_good a all (object t) = (text_good a all (get_or a.traits t no_traits).class, sealed_good a all (get_or a.traits t no_traits).sealed)
head_good a all (wrapper c) = tt
head_good a all (xml x) = tt
head_good a all (bytes x) = tt
head_good a all (ints f ns) = tt
head_good a all (uints f ns) = tt
head_good a all (doubles f ns) = tt
head_good a all (values f x) = text_good a all x
head_good a all (dictionary f) = tt

all_texts : (a : Arena) → AllByRecursion IsText a.texts → (ns : List StoredNode) → AllByRecursion (λ n. HasTexts (node_content a n)) ns
all_texts a all [] = tt
all_texts a all (n ∷ ns) = (record { head = head_good a all n.head; names = names_good a all n.names }, all_texts a all ns)

pub length_map : (a : Arena) (ns : List StoredNode) → length (map (node_content a) ns) ≡ length ns
length_map a [] = refl
length_map a (n ∷ ns) = ap suc (length_map a ns)

reached_value : (g : graph.Graph) (i : ℕ) → Reached g i → IsReachedValue g (node i)
reached_value g i (at_root e) = inl e
reached_value g i (inside j r holds) = inr (j, r, holds)

pub finished : (a : Arena) (root : Stored) → IsFinished a → Names a root → IsWhole (graph_of a root)
finished a root f h = record {
  there = λ i r. let s : Stands a (node i) = stands a root f h (node i) (reached_value (graph_of a root) i r) in
      subst (λ n. i < n) (sym (length_map a a.nodes)) (value_there a s.0 i s.1 s.2);
  values = λ v r. let s : Stands a v = stands a root f h v r in subst IsValue s.2 (value_good a f.built.texts s.0 s.1);
  texts = λ i r. at_place a HasTexts a.nodes i (all_texts a f.built.texts a.nodes) (record { head = tt; names = tt });
  fits = λ i r. at_place a (λ n. Fits n.head n.names n.values) a.nodes i (all_fit a a.nodes f.built.nodes f.closed) tt;
}
