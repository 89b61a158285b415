-- A node that takes parts takes each of them.
use Rattle.std.proofs.Common.{◌≡◌, ℕ, ◌<◌, Bool, true, false, List, [], ◌∷◌, refl, arith}
use Rattle.std.specs.List.{AllByRecursion}
use Rattle.amf_graph.specs.declared.value.Value.{Value as Stored}
use Rattle.amf_graph.specs.declared.value.TextId.{TextId}
use Rattle.amf_graph.specs.declared.part.Part.TheVariants.{Item, Named, Entry}
use Rattle.amf_graph.specs.declared.shape.Shape.{Shape}
use Rattle.amf_graph.specs.Graph as graph
use Rattle.amf_graph.specs.Graph.{Fits, AreMembers}
use Rattle.amf_graph.specs.Arena.{Arena, StoredHead, xml_document, date, array, object, wrapper, xml, bytes, ints, uints, doubles, values, dictionary, head_content, node_content, IsTextId, Names}
use Rattle.amf_graph.specs.Bodies.{TakesEntry}
use Rattle.amf_graph.specs.Building.{shape_head, Takes}
use Rattle.amf_graph.specs.Views.{named}
use Rattle.amf_sheet.specs.Filling.{TakesItems}
use Rattle.amf_sheet.specs.Telling.{told}

-- A name.

dynamic_of : (dynamic : Bool) (p : List ℕ × graph.Value) (ps : List (List ℕ × graph.Value)) → AreMembers dynamic (p ∷ ps) → dynamic ≡ true
dynamic_of true p ps h = refl
dynamic_of false p ps h = cc

no_pair : {P : Type 0} (p : List ℕ × graph.Value) (ps : List (List ℕ × graph.Value)) → p ∷ ps ≡ [] → P
no_pair p ps e = cc

takes_name : (h : graph.Head) (n : ℕ) (x : TextId) (v : Stored) (p : List ℕ × graph.Value) (ps : List (List ℕ × graph.Value)) (vs : List graph.Value) → Fits h (p ∷ ps) vs → Takes h n (Named x v)
takes_name graph.array n x v p ps vs f = tt
takes_name (graph.object t) n x v p ps vs f = dynamic_of t.dynamic p ps f.1
takes_name (graph.wrapper c) n x v p ps vs f = no_pair p ps f.0
takes_name (graph.values i y) n x v p ps vs f = no_pair p ps f
takes_name (graph.dictionary i) n x v p ps vs f = no_pair p ps f.0
takes_name (graph.xml_document y) n x v p ps vs f = no_pair p ps f.1
takes_name (graph.date d) n x v p ps vs f = no_pair p ps f.1
takes_name (graph.xml y) n x v p ps vs f = no_pair p ps f.1
takes_name (graph.bytes y) n x v p ps vs f = no_pair p ps f.1
takes_name (graph.ints i ns) n x v p ps vs f = no_pair p ps f.1
takes_name (graph.uints i ns) n x v p ps vs f = no_pair p ps f.1
takes_name (graph.doubles i ns) n x v p ps vs f = no_pair p ps f.1

each_takes : (h : graph.Head) (n : ℕ) (ps : List (TextId × Stored)) → ((x : TextId) (v : Stored) → Takes h n (Named x v)) → AllByRecursion (λ p. Takes h n (Named p.0 p.1)) ps
each_takes h n [] f = tt
each_takes h n (p ∷ ps) f = (f p.0 p.1, each_takes h n ps f)

pub names_taken : (a : Arena) (s : Shape) (ps : List (TextId × Stored)) (vs : List Stored) → Fits (head_content a (shape_head s)) (node_content a (told s ps vs)).names (node_content a (told s ps vs)).values → AllByRecursion (λ p. Takes (head_content a (shape_head s)) 0 (Named p.0 p.1)) ps
names_taken a s [] vs f = tt
names_taken a s (p ∷ ps) vs f = each_takes (head_content a (shape_head s)) 0 (p ∷ ps) (λ x v. takes_name (head_content a (shape_head s)) 0 x v _ _ _ f)

-- whatever stands in it
pub any_count : (h : graph.Head) (n m : ℕ) (x : TextId) (v : Stored) → Takes h n (Named x v) → Takes h m (Named x v)
any_count graph.array n m x v t = tt
any_count (graph.object i) n m x v t = t
any_count (graph.wrapper c) n m x v t = absurd t
any_count (graph.values i y) n m x v t = absurd t
any_count (graph.dictionary i) n m x v t = absurd t
any_count (graph.xml_document y) n m x v t = absurd t
any_count (graph.date d) n m x v t = absurd t
any_count (graph.xml y) n m x v t = absurd t
any_count (graph.bytes y) n m x v t = absurd t
any_count (graph.ints i ns) n m x v t = absurd t
any_count (graph.uints i ns) n m x v t = absurd t
any_count (graph.doubles i ns) n m x v t = absurd t

pub named_names : (a : Arena) (ps : List (TextId × Stored)) → AllByRecursion (λ p. IsTextId a p.0 × Names a p.1) (named ps) → AllByRecursion (λ p. IsTextId a p.0.0 × Names a p.1) ps
named_names a [] h = tt
named_names a (p ∷ ps) h = (h.0, named_names a ps h.1)

-- Items and entries.

pub takes_item : (h : graph.Head) (n m : ℕ) (v : Stored) → TakesItems h m → n < m → Takes h n (Item v)
takes_item graph.array n m v t l = tt
takes_item (graph.object i) n m v t l = omega (arith, t)
takes_item (graph.wrapper c) n m v t l = omega (arith, t)
takes_item (graph.values i y) n m v t l = tt
takes_item (graph.dictionary i) n m v t l = absurd (omega (arith, t))
takes_item (graph.xml_document y) n m v t l = absurd (omega (arith, t))
takes_item (graph.date d) n m v t l = absurd (omega (arith, t))
takes_item (graph.xml y) n m v t l = absurd (omega (arith, t))
takes_item (graph.bytes y) n m v t l = absurd (omega (arith, t))
takes_item (graph.ints i ns) n m v t l = absurd (omega (arith, t))
takes_item (graph.uints i ns) n m v t l = absurd (omega (arith, t))
takes_item (graph.doubles i ns) n m v t l = absurd (omega (arith, t))

pub takes_entry : (a : Arena) (h : StoredHead) (n : ℕ) (k v : Stored) → TakesEntry h → Takes (head_content a h) n (Entry k v)
takes_entry a (xml_document x) n k v t = absurd t
takes_entry a (date p) n k v t = absurd t
takes_entry a array n k v t = absurd t
takes_entry a (object i) n k v t = absurd t
takes_entry a (wrapper c) n k v t = absurd t
takes_entry a (xml x) n k v t = absurd t
takes_entry a (bytes x) n k v t = absurd t
takes_entry a (ints f ns) n k v t = absurd t
takes_entry a (uints f ns) n k v t = absurd t
takes_entry a (doubles f ns) n k v t = absurd t
takes_entry a (values f x) n k v t = absurd t
takes_entry a (dictionary f) n k v t = tt
