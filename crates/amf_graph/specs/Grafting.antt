-- A copy of what some values of a finished graph reach, behind what a builder holds.
use Rattle.std.specs.Prelude.{◌≡◌, ℕ, ◌+◌, ◌<◌, ◌↔◌, ◌⊎◌, List, ◌++◌, length, map, get_or, slice_get, Some}
use Rattle.amf_graph.specs.declared.value.Value.{Value as Stored}
use Rattle.amf_graph.specs.declared.value.Value.TheVariants.{Text, Node as NodeRef}
use Rattle.amf_graph.specs.declared.limits.TheConstants.{MAX_COUNT, MAX_TRAITS}
use Rattle.amf_graph.specs.Arena.{Arena, StoredTraits, StoredHead, xml_document, object, xml, values, StoredNode, text_at, no_traits}
use Rattle.amf_graph.specs.Building.{stored_at}
use Rattle.amf_graph.specs.Order.{IsDistinct}
use Rattle.amf_graph.specs.Renumbered.{place_of}

-- What is used.

abbrev pub StandsAt : List ℕ → ℕ → Type 0
StandsAt xs i = (k : ℕ) × (slice_get xs k ≡ Some i)

-- the value is one of the node's, named or not
abbrev pub HoldsStored : StoredNode → Stored → Type 0
HoldsStored n v = ((k : ℕ) × (slice_get n.values k ≡ Some v)) ⊎ ((k : ℕ) × (x : ℕ) × (slice_get n.names k ≡ Some (x, v)))

abbrev pub node_value : ℕ → Stored
node_value i = NodeRef (record { 0 = i })

abbrev pub text_value : ℕ → Stored
text_value x = Text (record { 0 = x })

-- the nodes to which the values lead
pub data Reaches (a : Arena) (vs : List Stored) : ℕ → Type 0 where
  at_root : {i : ℕ} (k : ℕ) → slice_get vs k ≡ Some (node_value i) → Reaches a vs i
  inside : {i : ℕ} (j : ℕ) → Reaches a vs j → HoldsStored (stored_at a j) (node_value i) → Reaches a vs i

-- the traits of the reached objects
abbrev pub UsesTraits : Arena → List Stored → ℕ → Type 0
UsesTraits a vs t = (i : ℕ) × Reaches a vs i × ((stored_at a i).head ≡ object t)

-- a text that a node has beside its names and values
abbrev pub HeadText : StoredHead → ℕ → Type 0
HeadText (xml_document x) y = x ≡ y
HeadText (xml x) y = x ≡ y
HeadText (values f x) y = x ≡ y
HeadText _ y = ⊥

-- the texts: of the values themselves, of a reached node's head, names and values, and of a traits that is used
pub data UsesText (a : Arena) (vs : List Stored) (x : ℕ) : Type 0 where
  of_root : (k : ℕ) → slice_get vs k ≡ Some (text_value x) → UsesText a vs x
  of_head : (i : ℕ) → Reaches a vs i → HeadText (stored_at a i).head x → UsesText a vs x
  of_name : (i k : ℕ) (v : Stored) → Reaches a vs i → slice_get (stored_at a i).names k ≡ Some (x, v) → UsesText a vs x
  of_value : (i : ℕ) → Reaches a vs i → HoldsStored (stored_at a i) (text_value x) → UsesText a vs x
  of_class : (t : ℕ) → UsesTraits a vs t → (get_or a.traits t no_traits).class ≡ x → UsesText a vs x
  of_sealed : (t k : ℕ) → UsesTraits a vs t → slice_get (get_or a.traits t no_traits).sealed k ≡ Some x → UsesText a vs x

-- what is copied, each once, in whatever order
pub record Cut : Type 0 where
  pub texts : List ℕ
  pub traits : List ℕ
  pub nodes : List ℕ

-- exactly what the values use
pub record IsCut (a : Arena) (vs : List Stored) (c : Cut) : Type 0 where
  pub once_texts : IsDistinct c.texts
  pub once_traits : IsDistinct c.traits
  pub once_nodes : IsDistinct c.nodes
  pub texts : (x : ℕ) → StandsAt c.texts x ↔ UsesText a vs x
  pub traits : (t : ℕ) → StandsAt c.traits t ↔ UsesTraits a vs t
  pub nodes : (i : ℕ) → StandsAt c.nodes i ↔ Reaches a vs i

-- Other numbers for texts, traits and nodes.

pub record Renaming : Type 0 where
  pub texts : ℕ → ℕ
  pub traits : ℕ → ℕ
  pub nodes : ℕ → ℕ

abbrev pub renamed_value : Renaming → Stored → Stored
renamed_value r (Text x) = text_value (r.texts x.0)
renamed_value r (NodeRef n) = node_value (r.nodes n.0)
renamed_value r v = v

abbrev pub renamed_values : Renaming → List Stored → List Stored
renamed_values r vs = map (renamed_value r) vs

abbrev pub renamed_names : Renaming → List (ℕ × Stored) → List (ℕ × Stored)
renamed_names r ps = map (λ p. (r.texts p.0, renamed_value r p.1)) ps

abbrev pub renamed_head : Renaming → StoredHead → StoredHead
renamed_head r (xml_document x) = xml_document (r.texts x)
renamed_head r (object t) = object (r.traits t)
renamed_head r (xml x) = xml (r.texts x)
renamed_head r (values f x) = values f (r.texts x)
renamed_head r h = h

abbrev pub renamed_node : Renaming → StoredNode → StoredNode
renamed_node r n = record { is_open = n.is_open; head = renamed_head r n.head; names = renamed_names r n.names; values = renamed_values r n.values }

abbrev pub renamed_traits : Renaming → StoredTraits → StoredTraits
renamed_traits r t = record { class = r.texts t.class; dynamic = t.dynamic; sealed = map r.texts t.sealed }

-- The copy.

-- the numbers from these on, in the order of the lists
abbrev pub renaming_from : (texts traits nodes : ℕ) → Cut → Renaming
renaming_from texts traits nodes c = record {
  texts = λ x. texts + place_of c.texts x;
  traits = λ t. traits + place_of c.traits t;
  nodes = λ i. nodes + place_of c.nodes i;
}

-- each gets the next number behind what is there
abbrev pub renaming : Arena → Cut → Renaming
renaming old c = renaming_from (length old.texts) (length old.traits) (length old.nodes) c

abbrev pub copied_texts : Arena → List ℕ → List (List ℕ)
copied_texts a xs = map (text_at a) xs

abbrev pub copied_traits : Arena → Renaming → List ℕ → List StoredTraits
copied_traits a r ts = map (λ t. renamed_traits r (get_or a.traits t no_traits)) ts

abbrev pub copied_nodes : Arena → Renaming → List ℕ → List StoredNode
copied_nodes a r is = map (λ i. renamed_node r (stored_at a i)) is

-- what was there stays as it is, open nodes too
abbrev pub grafted : Arena → Arena → Cut → Arena
grafted old a c =
    let r = renaming old c in
    record { texts = old.texts ++ copied_texts a c.texts; traits = old.traits ++ copied_traits a r c.traits; nodes = old.nodes ++ copied_nodes a r c.nodes }

-- the builder after the call, and the values that it gave
pub record Grafted (a : Arena) (vs : List Stored) (old new : Arena) (copies : List Stored) : Type 0 where
  pub cut : Cut
  pub exact : IsCut a vs cut
  pub arena : new ≡ grafted old a cut
  pub values : copies ≡ renamed_values (renaming old cut) vs

-- the builder has no room for what the values use
abbrev pub IsTooMuch : Arena → List Stored → Arena → Type 0
IsTooMuch a vs old = (c : Cut) × IsCut a vs c × ((MAX_COUNT < length old.texts + length c.texts) ⊎ (MAX_TRAITS < length old.traits + length c.traits) ⊎ (MAX_COUNT < length old.nodes + length c.nodes))
