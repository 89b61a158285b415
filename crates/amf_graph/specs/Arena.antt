-- Graphs as they are kept: texts, traits and nodes by their places, and nodes that may still be open (AMF 3, 3.2 to 3.16: the kinds of values).
use Rattle.std.specs.Prelude.{◌≡◌, true, ◌*◌, ◌≤◌, ℕ, ◌<◌, Bool, false, cond, List, [], ◌∷◌, ◌++◌, length, get_or, map, ℤ}
use Rattle.std.specs.List.{AllByRecursion}
use Rattle.amf_wire.specs.Integer.{IsInteger}
use Rattle.amf_wire.specs.Text.{IsText}
use Rattle.amf_graph.specs.declared.wrapped.Wrapped.{Wrapped}
use Rattle.amf_graph.specs.declared.value.Value.{Value as Stored}
use Rattle.amf_graph.specs.declared.value.Value.TheVariants.{Undefined, Null, Bool as Flag, Integer, Double, Text, Node as NodeRef}
use Rattle.amf_graph.specs.Graph as graph

pub record StoredTraits : Type 0 where
  pub class : ℕ
  pub dynamic : Bool
  pub sealed : List ℕ

pub data StoredHead : Type 0 where
  xml_document : (x : ℕ) → StoredHead
  date : (p : ℕ) → StoredHead
  array : StoredHead
  object : (t : ℕ) → StoredHead
  wrapper : (class : Wrapped) → StoredHead
  xml : (x : ℕ) → StoredHead
  bytes : (x : List ℕ) → StoredHead
  ints : (is_fixed : Bool) (items : List ℤ) → StoredHead
  uints : (is_fixed : Bool) (items : List ℕ) → StoredHead
  doubles : (is_fixed : Bool) (items : List ℕ) → StoredHead
  values : (is_fixed : Bool) (type_name : ℕ) → StoredHead
  dictionary : (weak : Bool) → StoredHead

pub record StoredNode : Type 0 where
  pub is_open : Bool
  pub head : StoredHead
  pub names : List (ℕ × Stored)
  pub values : List Stored

pub record Arena : Type 0 where
  pub texts : List (List ℕ)
  pub traits : List StoredTraits
  pub nodes : List StoredNode

-- What stands at a place.

abbrev pub text_at : Arena → ℕ → List ℕ
text_at a i = get_or a.texts i []

abbrev pub traits_content : Arena → StoredTraits → graph.Traits
traits_content a t = record { class = text_at a t.class; dynamic = t.dynamic; sealed = map (text_at a) t.sealed }

abbrev pub no_traits : StoredTraits
no_traits = record { class = 0; dynamic = false; sealed = [] }

abbrev pub traits_at : Arena → ℕ → graph.Traits
traits_at a i = traits_content a (get_or a.traits i no_traits)

abbrev pub value_content : Arena → Stored → graph.Value
value_content a Undefined = graph.leaf graph.undefined
value_content a Null = graph.leaf graph.null
value_content a (Flag b) = graph.leaf (graph.boolean b)
value_content a (Integer n) = graph.leaf (graph.integer n)
value_content a (Double p) = graph.leaf (graph.double p.0)
value_content a (Text t) = graph.leaf (graph.text (text_at a t.0))
value_content a (NodeRef n) = graph.node n.0

abbrev pub head_content : Arena → StoredHead → graph.Head
head_content a (xml_document x) = graph.xml_document (text_at a x)
head_content a (date p) = graph.date p
head_content a array = graph.array
head_content a (object t) = graph.object (traits_at a t)
head_content a (wrapper c) = graph.wrapper c
head_content a (xml x) = graph.xml (text_at a x)
head_content a (bytes x) = graph.bytes x
head_content a (ints f ns) = graph.ints f ns
head_content a (uints f ns) = graph.uints f ns
head_content a (doubles f ns) = graph.doubles f ns
head_content a (values f x) = graph.values f (text_at a x)
head_content a (dictionary f) = graph.dictionary f

abbrev pub node_content : Arena → StoredNode → graph.Node
node_content a n = record { head = head_content a n.head; names = map (λ p. (text_at a p.0, value_content a p.1)) n.names; values = map (value_content a) n.values }

-- the graph that the arena and a root are
abbrev pub graph_of : Arena → Stored → graph.Graph
graph_of a root = record { nodes = map (node_content a) a.nodes; root = value_content a root }

-- Well-formed: every number names an entry, and is one that the formats have.

abbrev pub IsTextId : Arena → ℕ → Type 0
IsTextId a i = i < length a.texts

abbrev pub Names : Arena → Stored → Type 0
Names a (Integer n) = IsInteger n
Names a (Double p) = graph.IsPattern p.0
Names a (Text t) = IsTextId a t.0
Names a (NodeRef n) = n.0 < length a.nodes
Names a _ = Unit {0}

abbrev pub HeadNames : Arena → StoredHead → Type 0
HeadNames a (xml_document x) = IsTextId a x
HeadNames a (object t) = t < length a.traits
HeadNames a (xml x) = IsTextId a x
HeadNames a (values f x) = IsTextId a x
HeadNames a _ = Unit {0}

pub record IsTraitsIn (a : Arena) (t : StoredTraits) : Type 0 where
  pub class : IsTextId a t.class
  pub sealed : AllByRecursion (IsTextId a) t.sealed

-- an open node has no more parts than its kind takes
abbrev pub MayFit : graph.Head → List (List ℕ × graph.Value) → List graph.Value → Type 0
MayFit graph.array ps vs = Unit {0}
MayFit (graph.object t) ps vs = (length vs ≤ length t.sealed) × graph.AreMembers t.dynamic ps
MayFit (graph.wrapper c) ps vs = (ps ≡ []) × (length vs ≤ 1)
MayFit (graph.values f x) ps vs = ps ≡ []
MayFit (graph.dictionary f) ps vs = (ps ≡ []) × (n : ℕ) × (length vs ≡ 2 * n)
MayFit _ ps vs = ⊥

pub record IsNodeIn (a : Arena) (n : StoredNode) : Type 0 where
  pub head : HeadNames a n.head
  pub names : AllByRecursion (λ p. IsTextId a p.0 × Names a p.1) n.names
  pub values : AllByRecursion (Names a) n.values
  pub room : n.is_open ≡ true → MayFit (head_content a n.head) (node_content a n).names (node_content a n).values
  -- a closed node has the parts of its kind
  pub fits : n.is_open ≡ false → graph.Fits (head_content a n.head) (node_content a n).names (node_content a n).values

-- an arena as the builder keeps it
pub record IsBuilt (a : Arena) : Type 0 where
  pub texts : AllByRecursion IsText a.texts
  pub traits : AllByRecursion (IsTraitsIn a) a.traits
  pub nodes : AllByRecursion (IsNodeIn a) a.nodes

-- a finished graph: no node is open
pub record IsFinished (a : Arena) : Type 0 where
  pub built : IsBuilt a
  pub closed : AllByRecursion (λ n. n.is_open ≡ false) a.nodes

-- Completing: a finished graph has what is there now, and open nodes may get more parts.

abbrev pub Extends : StoredNode → StoredNode → Type 0
Extends old new = (new.head ≡ old.head) × ((more : List (ℕ × Stored)) × (new.names ≡ old.names ++ more)) × ((more : List Stored) × (new.values ≡ old.values ++ more))

abbrev pub NodeCompletes : StoredNode → StoredNode → Type 0
NodeCompletes old new = cond old.is_open (Extends old new) (new ≡ old)

abbrev pub NodesComplete : List StoredNode → List StoredNode → Type 0
NodesComplete [] new = Unit {0}
NodesComplete (n ∷ old) [] = ⊥
NodesComplete (n ∷ old) (m ∷ new) = NodeCompletes n m × NodesComplete old new

pub record Completes (old new : Arena) : Type 0 where
  pub finished : IsFinished new
  pub more_texts : List (List ℕ)
  pub texts : new.texts ≡ old.texts ++ more_texts
  pub more_traits : List StoredTraits
  pub traits : new.traits ≡ old.traits ++ more_traits
  pub nodes : NodesComplete old.nodes new.nodes
