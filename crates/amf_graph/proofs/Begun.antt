-- New nodes, and those that get a part or are closed, are nodes of the arena and within bounds.
use Rattle.std.proofs.Common.{◌≡◌, ℕ, ◌<◌, ◌≤◌, ◌+◌, Bool, true, false, List, [], ◌∷◌, ◌++◌, length, sym, refl, ap, ◌∙◌, arith, length-append}
use Rattle.std.proofs.lemmas.List.{length-map}
use Rattle.std.specs.List.{AllByRecursion}
use Rattle.amf_graph.specs.declared.value.Value.{Value as Stored}
use Rattle.amf_graph.specs.declared.value.TextId.{TextId}
use Rattle.amf_graph.specs.declared.shape.Shape.{Shape}
use Rattle.amf_graph.specs.declared.shape.Shape.TheVariants as shape
use Rattle.amf_graph.specs.declared.leaf.Leaf.{Leaf}
use Rattle.amf_graph.specs.declared.leaf.Leaf.TheVariants as leaf
use Rattle.amf_graph.specs.declared.part.Part.{Part}
use Rattle.amf_graph.specs.declared.part.Part.TheVariants.{Item, Named, Entry}
use Rattle.amf_wire.specs.Text.{IsText}
use Rattle.amf_wire.specs.declared.pattern.Pattern.{Pattern}
use Rattle.amf_graph.specs.Bodies.{HasRange}
use Rattle.amf_graph.specs.Graph as graph
use Rattle.amf_graph.specs.Graph.{Fits, AreMembers}
use Rattle.amf_graph.specs.Arena.{Arena, StoredHead, xml_document, date, array, object, wrapper, xml, bytes, ints, uints, doubles, values, dictionary, StoredNode, head_content, value_content, HeadNames, IsTextId, IsNodeIn, MayFit, Names}
use Rattle.amf_graph.specs.Bounds.{NodeWithin, items_of, parts_of}
use Rattle.amf_graph.specs.Building.{begun, closed, shut, leaf_head, shape_head, more_part, PartNames, Takes, HasRoom, FitsNow, size_of}
use Rattle.amf_graph.proofs.Alls.{all_push, all_append, all_at}
use Rattle.amf_graph.proofs.Growth.{names_content, values_content}

false_true : (P : Type 0) → true ≡ false → P
false_true P e = cc

no_members : (dynamic : Bool) → AreMembers dynamic []
no_members true = tt
no_members false = refl

begun_may : (a : Arena) (s : Shape) → MayFit (head_content a (shape_head s)) [] []
begun_may a shape.Array = tt
begun_may a (shape.Object t) = (omega arith, no_members _)
begun_may a (shape.Wrapper c) = (refl, omega arith)
begun_may a (shape.Values f x) = refl
begun_may a (shape.Dictionary f) = (refl, 0, refl)

pub begun_in : (a : Arena) (s : Shape) → HeadNames a (shape_head s) → IsNodeIn a (begun (shape_head s))
begun_in a s h = record { head = h; names = tt; values = tt; room = λ e. begun_may a s; fits = λ e. false_true _ e }

pub begun_within : (s : Shape) → NodeWithin (begun (shape_head s))
begun_within shape.Array = record { together = omega arith }
begun_within (shape.Object t) = record { together = omega arith }
begun_within (shape.Wrapper c) = record { together = omega arith }
begun_within (shape.Values f x) = record { together = omega arith }
begun_within (shape.Dictionary f) = record { together = omega arith }

leaf_fits : (a : Arena) (l : Leaf) → AllByRecursion IsText a.texts → HeadNames a (leaf_head l) → HasRange (leaf_head l) → Fits (head_content a (leaf_head l)) [] []
leaf_fits a (leaf.XmlDocument x) t h r = (all_at IsText a.texts x.0 [] h t, refl, refl)
leaf_fits a (leaf.Xml x) t h r = (all_at IsText a.texts x.0 [] h t, refl, refl)
leaf_fits a (leaf.Date p) t h r = (r, refl, refl)
leaf_fits a (leaf.Bytes x) t h r = (r, refl, refl)
leaf_fits a (leaf.Ints f ns) t h r = (r, refl, refl)
leaf_fits a (leaf.Uints f ns) t h r = (r, refl, refl)
leaf_fits a (leaf.Doubles f ns) t h r = (r, refl, refl)

pub leaf_in : (a : Arena) (l : Leaf) → AllByRecursion IsText a.texts → HeadNames a (leaf_head l) → HasRange (leaf_head l) → IsNodeIn a (closed (leaf_head l) [] [])
leaf_in a l t h r = record { head = h; names = tt; values = tt; room = λ e. false_true _ (sym e); fits = λ e. leaf_fits a l t h r }

pub leaf_within : (l : Leaf) → items_of (leaf_head l) ≤ 268435455 → NodeWithin (closed (leaf_head l) [] [])
leaf_within (leaf.XmlDocument x) h = record { together = omega arith }
leaf_within (leaf.Xml x) h = record { together = omega arith }
leaf_within (leaf.Date p) h = record { together = omega arith }
leaf_within (leaf.Bytes x) h = record { together = omega arith }
leaf_within (leaf.Ints f ns) h = record { together = omega arith }
leaf_within (leaf.Uints f ns) h = record { together = omega arith }
leaf_within (leaf.Doubles f ns) h = record { together = omega (arith, length-map ns.items (λ (p : Pattern). p.0)) }

pub bytes_in : (a : Arena) (x : List ℕ) → AllByRecursion (λ b. b < 256) x → IsNodeIn a (closed (bytes x) [] [])
bytes_in a x r = record { head = tt; names = tt; values = tt; room = λ e. false_true _ (sym e); fits = λ e. (r, refl, refl) }

pub bytes_within : (x : List ℕ) → length x ≤ 268435455 → NodeWithin (closed (bytes x) [] [])
bytes_within x h = record { together = omega arith }

pub shut_in : (a : Arena) (n : StoredNode) → IsNodeIn a n → FitsNow a n → IsNodeIn a (shut n)
shut_in a n h f = record { head = h.head; names = h.names; values = h.values; room = λ e. false_true _ (sym e); fits = λ e. f }

pub shut_within : (n : StoredNode) → NodeWithin n → NodeWithin (shut n)
shut_within n h = record { together = h.together }

-- One part more.

more_length : (a : Arena) (vs ws : List Stored) → length (values_content a (vs ++ ws)) ≡ length (values_content a vs) + length ws
more_length a vs ws = length-map (vs ++ ws) (value_content a) ∙ length-append vs ws ∙ ap (λ n. n + length ws) (sym (length-map vs (value_content a)))

item_fits : (h : graph.Head) (n : ℕ) (v : Stored) (ps : List (List ℕ × graph.Value)) (vs ws : List graph.Value) → n ≡ length vs → length ws ≡ length vs + 1 → Takes h n (Item v) → MayFit h ps vs → MayFit h ps ws
item_fits graph.array n v ps vs ws e f t m = tt
item_fits (graph.object s) n v ps vs ws e f t m = (omega arith, m.1)
item_fits (graph.wrapper c) n v ps vs ws e f t m = (m.0, omega arith)
item_fits (graph.values i x) n v ps vs ws e f t m = m
item_fits (graph.dictionary i) n v ps vs ws e f t m = absurd t
item_fits (graph.xml_document x) n v ps vs ws e f t m = absurd t
item_fits (graph.date p) n v ps vs ws e f t m = absurd t
item_fits (graph.xml x) n v ps vs ws e f t m = absurd t
item_fits (graph.bytes x) n v ps vs ws e f t m = absurd t
item_fits (graph.ints i ns) n v ps vs ws e f t m = absurd t
item_fits (graph.uints i ns) n v ps vs ws e f t m = absurd t
item_fits (graph.doubles i ns) n v ps vs ws e f t m = absurd t

dynamic_members : (dynamic : Bool) (ps : List (List ℕ × graph.Value)) → dynamic ≡ true → AreMembers dynamic ps
dynamic_members true ps e = tt
dynamic_members false ps e = cc

name_fits : (h : graph.Head) (n : ℕ) (x : TextId) (v : Stored) (ps qs : List (List ℕ × graph.Value)) (vs : List graph.Value) → Takes h n (Named x v) → MayFit h ps vs → MayFit h qs vs
name_fits graph.array n x v ps qs vs t m = tt
name_fits (graph.object s) n x v ps qs vs t m = (m.0, dynamic_members s.dynamic qs t)
name_fits (graph.wrapper c) n x v ps qs vs t m = absurd t
name_fits (graph.values i y) n x v ps qs vs t m = absurd t
name_fits (graph.dictionary i) n x v ps qs vs t m = absurd t
name_fits (graph.xml_document y) n x v ps qs vs t m = absurd t
name_fits (graph.date p) n x v ps qs vs t m = absurd t
name_fits (graph.xml y) n x v ps qs vs t m = absurd t
name_fits (graph.bytes y) n x v ps qs vs t m = absurd t
name_fits (graph.ints i ns) n x v ps qs vs t m = absurd t
name_fits (graph.uints i ns) n x v ps qs vs t m = absurd t
name_fits (graph.doubles i ns) n x v ps qs vs t m = absurd t

entry_fits : (h : graph.Head) (n : ℕ) (k v : Stored) (ps : List (List ℕ × graph.Value)) (vs ws : List graph.Value) → length ws ≡ length vs + 2 → Takes h n (Entry k v) → MayFit h ps vs → MayFit h ps ws
entry_fits graph.array n k v ps vs ws e t m = tt
entry_fits (graph.object s) n k v ps vs ws e t m = absurd t
entry_fits (graph.wrapper c) n k v ps vs ws e t m = absurd t
entry_fits (graph.values i y) n k v ps vs ws e t m = absurd t
entry_fits (graph.dictionary i) n k v ps vs ws e t m = (m.0, m.1 + 1, omega arith)
entry_fits (graph.xml_document y) n k v ps vs ws e t m = absurd t
entry_fits (graph.date p) n k v ps vs ws e t m = absurd t
entry_fits (graph.xml y) n k v ps vs ws e t m = absurd t
entry_fits (graph.bytes y) n k v ps vs ws e t m = absurd t
entry_fits (graph.ints i ns) n k v ps vs ws e t m = absurd t
entry_fits (graph.uints i ns) n k v ps vs ws e t m = absurd t
entry_fits (graph.doubles i ns) n k v ps vs ws e t m = absurd t

pub part_in : (a : Arena) (n : StoredNode) (p : Part) → IsNodeIn a n → n.is_open ≡ true → HasRoom a n p → PartNames a p → IsNodeIn a (more_part p n)
part_in a n (Item v) h o t q = record {
  head = h.head;
  names = h.names;
  values = all_push (Names a) n.values v h.values q;
  room = λ e. item_fits (head_content a n.head) (length n.values) v (names_content a n.names) (values_content a n.values) (values_content a (n.values ++ v ∷ [])) (sym (length-map n.values (value_content a))) (more_length a n.values (v ∷ [])) t (h.room o);
  fits = λ e. false_true _ (sym o ∙ e);
}
part_in a n (Named x v) h o t q = record {
  head = h.head;
  names = all_push (λ p. IsTextId a p.0 × Names a p.1) n.names (x.0, v) h.names q;
  values = h.values;
  room = λ e. name_fits (head_content a n.head) (length n.values) x v (names_content a n.names) (names_content a (n.names ++ (x.0, v) ∷ [])) (values_content a n.values) t (h.room o);
  fits = λ e. false_true _ (sym o ∙ e);
}
part_in a n (Entry k v) h o t q = record {
  head = h.head;
  names = h.names;
  values = all_append (Names a) n.values (k ∷ v ∷ []) h.values (q.0, (q.1, tt));
  room = λ e. entry_fits (head_content a n.head) (length n.values) k v (names_content a n.names) (values_content a n.values) (values_content a (n.values ++ k ∷ v ∷ [])) (more_length a n.values (k ∷ v ∷ [])) t (h.room o);
  fits = λ e. false_true _ (sym o ∙ e);
}

one_part : (h : StoredHead) (n m : ℕ) → m ≡ n + 1 → parts_of h m ≤ parts_of h n + 1
one_part (xml_document x) n m e = omega arith
one_part (date p) n m e = omega arith
one_part array n m e = omega arith
one_part (object t) n m e = omega arith
one_part (wrapper c) n m e = omega arith
one_part (xml x) n m e = omega arith
one_part (bytes x) n m e = omega arith
one_part (ints f ns) n m e = omega arith
one_part (uints f ns) n m e = omega arith
one_part (doubles f ns) n m e = omega arith
one_part (values f x) n m e = omega arith
one_part (dictionary f) n m e = omega arith

one_entry : (a : Arena) (h : StoredHead) (k v : Stored) (n m : ℕ) → Takes (head_content a h) n (Entry k v) → m ≡ n + 2 → parts_of h m ≤ parts_of h n + 1
one_entry a (xml_document x) k v n m t e = absurd t
one_entry a (date p) k v n m t e = absurd t
one_entry a array k v n m t e = absurd t
one_entry a (object i) k v n m t e = absurd t
one_entry a (wrapper c) k v n m t e = absurd t
one_entry a (xml x) k v n m t e = absurd t
one_entry a (bytes x) k v n m t e = absurd t
one_entry a (ints f ns) k v n m t e = absurd t
one_entry a (uints f ns) k v n m t e = absurd t
one_entry a (doubles f ns) k v n m t e = absurd t
one_entry a (values f x) k v n m t e = absurd t
one_entry a (dictionary f) k v n m t e = omega arith

pub part_within : (a : Arena) (n : StoredNode) (p : Part) → HasRoom a n p → size_of n < 268435455 → NodeWithin (more_part p n)
part_within a n (Item v) t h = record { together = omega (arith, one_part n.head (length n.values) (length (n.values ++ v ∷ [])) (length-append n.values (v ∷ []))) }
part_within a n (Named x v) t h = record { together = omega (arith, length-append n.names ((x.0, v) ∷ [])) }
part_within a n (Entry k v) t h = record { together = omega (arith, one_entry a n.head k v (length n.values) (length (n.values ++ k ∷ v ∷ [])) t (length-append n.values (k ∷ v ∷ []))) }
