-- What the calls of a builder do to an arena.
use Rattle.std.specs.Prelude.{◌≡◌, ℕ, ◌+◌, ◌<◌, Bool, true, false, List, [], ◌∷◌, ◌++◌, length, get_or, map, set}
use Rattle.amf_graph.specs.declared.value.Value.{Value as Stored}
use Rattle.amf_graph.specs.declared.value.TextId.{TextId}
use Rattle.amf_graph.specs.declared.kind.NodeKind.{NodeKind}
use Rattle.amf_graph.specs.declared.kind.NodeKind.TheVariants as kind
use Rattle.amf_graph.specs.declared.shape.Shape.{Shape}
use Rattle.amf_graph.specs.declared.shape.Shape.TheVariants as shape
use Rattle.amf_graph.specs.declared.leaf.Leaf.{Leaf}
use Rattle.amf_graph.specs.declared.leaf.Leaf.TheVariants as leaf
use Rattle.amf_graph.specs.declared.part.Part.{Part}
use Rattle.amf_graph.specs.declared.part.Part.TheVariants.{Item, Named, Entry}
use Rattle.amf_graph.specs.Graph as graph
use Rattle.amf_graph.specs.Arena.{Arena, StoredTraits, StoredHead, xml_document, date, array, object, wrapper, xml, bytes, ints, uints, doubles, values, dictionary, StoredNode, head_content, node_content, IsTextId, Names}
use Rattle.amf_graph.specs.Bounds.{items_of, parts_of}

abbrev pub no_arena : Arena
no_arena = record { texts = []; traits = []; nodes = [] }

abbrev pub kept_text : Arena → List ℕ → Arena
kept_text a x = record { texts = a.texts ++ x ∷ []; traits = a.traits; nodes = a.nodes }

abbrev pub kept_traits : Arena → StoredTraits → Arena
kept_traits a t = record { texts = a.texts; traits = a.traits ++ t ∷ []; nodes = a.nodes }

abbrev pub kept_node : Arena → StoredNode → Arena
kept_node a n = record { texts = a.texts; traits = a.traits; nodes = a.nodes ++ n ∷ [] }

abbrev pub stored_traits : TextId → Bool → List TextId → StoredTraits
stored_traits class dynamic sealed = record { class = class.0; dynamic = dynamic; sealed = map (λ x. x.0) sealed }

-- Nodes: those with parts begin open, and get them one after another.

abbrev pub no_stored : StoredNode
no_stored = record { is_open = false; head = array; names = []; values = [] }

abbrev pub stored_at : Arena → ℕ → StoredNode
stored_at a i = get_or a.nodes i no_stored

abbrev pub shape_head : Shape → StoredHead
shape_head shape.Array = array
shape_head (shape.Object t) = object t.0
shape_head (shape.Wrapper c) = wrapper c
shape_head (shape.Values f x) = values f x.0
shape_head (shape.Dictionary f) = dictionary f

abbrev pub begun : StoredHead → StoredNode
begun head = record { is_open = true; head = head; names = []; values = [] }

abbrev pub leaf_head : Leaf → StoredHead
leaf_head (leaf.XmlDocument x) = xml_document x.0
leaf_head (leaf.Xml x) = xml x.0
leaf_head (leaf.Date p) = date p.0
leaf_head (leaf.Bytes x) = bytes x.items
leaf_head (leaf.Ints f ns) = ints f ns.items
leaf_head (leaf.Uints f ns) = uints f ns.items
leaf_head (leaf.Doubles f ns) = doubles f (map (λ p. p.0) ns.items)

-- a node that is closed, with these parts
abbrev pub closed : StoredHead → List (ℕ × Stored) → List Stored → StoredNode
closed head ps vs = record { is_open = false; head = head; names = ps; values = vs }

abbrev pub more_value : Stored → StoredNode → StoredNode
more_value v n = record { is_open = n.is_open; head = n.head; names = n.names; values = n.values ++ v ∷ [] }

abbrev pub more_name : ℕ → Stored → StoredNode → StoredNode
more_name x v n = record { is_open = n.is_open; head = n.head; names = n.names ++ (x, v) ∷ []; values = n.values }

abbrev pub more_entry : Stored → Stored → StoredNode → StoredNode
more_entry k v n = record { is_open = n.is_open; head = n.head; names = n.names; values = n.values ++ k ∷ v ∷ [] }

abbrev pub more_part : Part → StoredNode → StoredNode
more_part (Item v) n = more_value v n
more_part (Named x v) n = more_name x.0 v n
more_part (Entry k v) n = more_entry k v n

abbrev pub shut : StoredNode → StoredNode
shut n = record { is_open = false; head = n.head; names = n.names; values = n.values }

-- the arena with another node in the place of this one
abbrev pub changed : (StoredNode → StoredNode) → ℕ → Arena → Arena
changed f i a = record { texts = a.texts; traits = a.traits; nodes = set a.nodes i (f (stored_at a i)) }

-- the part names what is there
abbrev pub PartNames : Arena → Part → Type 0
PartNames a (Item v) = Names a v
PartNames a (Named x v) = IsTextId a x.0 × Names a v
PartNames a (Entry k v) = Names a k × Names a v

-- a node of this kind, with so many values, has room for the part
abbrev pub Takes : graph.Head → ℕ → Part → Type 0
Takes graph.array n (Item v) = Unit {0}
Takes graph.array n (Named x v) = Unit {0}
Takes (graph.object t) n (Item v) = n < length t.sealed
Takes (graph.object t) n (Named x v) = t.dynamic ≡ true
Takes (graph.wrapper c) n (Item v) = n ≡ 0
Takes (graph.values f x) n (Item v) = Unit {0}
Takes (graph.dictionary f) n (Entry k v) = Unit {0}
Takes _ n p = ⊥

abbrev pub HasRoom : Arena → StoredNode → Part → Type 0
HasRoom a n p = Takes (head_content a n.head) (length n.values) p

-- the node has the parts of its kind
abbrev pub FitsNow : Arena → StoredNode → Type 0
FitsNow a n = graph.Fits (head_content a n.head) (node_content a n).names (node_content a n).values

-- the items, names and parts of the node together
abbrev pub size_of : StoredNode → ℕ
size_of n = items_of n.head + length n.names + parts_of n.head (length n.values)

-- the node is open, and none before it
pub record IsFirstOpen (a : Arena) (i : ℕ) : Type 0 where
  pub there : i < length a.nodes
  pub opened : (stored_at a i).is_open ≡ true
  pub before : (k : ℕ) → k < i → (stored_at a k).is_open ≡ false

abbrev pub kind_of : StoredHead → NodeKind
kind_of (xml_document x) = kind.XmlDocument
kind_of (date p) = kind.Date
kind_of array = kind.Array
kind_of (object t) = kind.Object
kind_of (wrapper c) = kind.Wrapper
kind_of (xml x) = kind.Xml
kind_of (bytes x) = kind.Bytes
kind_of (ints f ns) = kind.Ints
kind_of (uints f ns) = kind.Uints
kind_of (doubles f ns) = kind.Doubles
kind_of (values f x) = kind.Values
kind_of (dictionary f) = kind.Dictionary
