-- Numbers that are gathered, each once and with its place. A device of proofs.
use Rattle.std.specs.Prelude.{◌≡◌, ℕ, ◌<◌, nat_lt, if◌then◌else◌, List, [], ◌∷◌, ◌++◌, length, map, get_or, slice_get, Option, Some}
use Rattle.std.specs.List.{AllByRecursion, flat_map}
use Rattle.amf_graph.specs.declared.value.Value.{Value as Stored}
use Rattle.amf_graph.specs.declared.value.Value.TheVariants.{Text, Node as NodeRef}
use Rattle.amf_graph.specs.Arena.{Arena, StoredTraits, StoredHead, xml_document, object, xml, values, StoredNode, no_traits}
use Rattle.amf_graph.specs.Building.{stored_at}
use Rattle.amf_graph.specs.Renumbered.{place_of}
use Rattle.amf_graph.specs.Bounds.{count_end}

-- numbers below a count, in the order in which they came
pub record Placed : Type 0 where
  pub count : ℕ
  pub items : List ℕ

-- each number that came has its place, and no other has one
pub record ArePlaces (items : List ℕ) (places : List (Option ℕ)) : Type 0 where
  pub few : length places < count_end
  pub placed : (k i : ℕ) → slice_get items k ≡ Some i → slice_get places i ≡ Some (Some k)
  pub back : (k i : ℕ) → slice_get places i ≡ Some (Some k) → slice_get items k ≡ Some i

-- one number more, unless it is there
abbrev pub with_entry : ℕ → List ℕ → List ℕ
with_entry i xs = if nat_lt (place_of xs i) (length xs) then xs else xs ++ i ∷ []

abbrev pub with_node : Stored → List ℕ → List ℕ
with_node (NodeRef n) xs = with_entry n.0 xs
with_node _ xs = xs

-- the nodes among these values more
abbrev pub with_nodes : List Stored → List ℕ → List ℕ
with_nodes [] xs = xs
with_nodes (v ∷ vs) xs = with_nodes vs (with_node v xs)

abbrev pub placed : ℕ → List ℕ → Placed
placed count items = record { count = count; items = items }

-- what a node holds, the named values behind the others
abbrev pub held : StoredNode → List Stored
held n = n.values ++ map (λ p. p.1) n.names

-- the nodes among these values are below a count
abbrev pub NodeBelow : ℕ → Stored → Type 0
NodeBelow count (NodeRef n) = n.0 < count
NodeBelow count _ = Unit {0}

abbrev pub NodesBelow : ℕ → List Stored → Type 0
NodesBelow count vs = AllByRecursion (NodeBelow count) vs

-- these numbers more
abbrev pub with_all : List ℕ → List ℕ → List ℕ
with_all [] xs = xs
with_all (i ∷ is) xs = with_all is (with_entry i xs)

-- The texts of values, pairs, nodes and traits, and the traits of nodes.

abbrev pub text_in : Stored → List ℕ
text_in (Text x) = x.0 ∷ []
text_in _ = []

abbrev pub texts_in : List Stored → List ℕ
texts_in = flat_map text_in

abbrev pub pair_texts : List (ℕ × Stored) → List ℕ
pair_texts = flat_map (λ p. p.0 ∷ text_in p.1)

abbrev pub head_texts : StoredHead → List ℕ
head_texts (xml_document x) = x ∷ []
head_texts (xml x) = x ∷ []
head_texts (values f x) = x ∷ []
head_texts _ = []

abbrev pub node_texts : StoredNode → List ℕ
node_texts n = head_texts n.head ++ (texts_in n.values ++ pair_texts n.names)

abbrev pub traits_texts : StoredTraits → List ℕ
traits_texts t = t.class ∷ t.sealed

abbrev pub head_traits : StoredHead → List ℕ
head_traits (object t) = t ∷ []
head_traits _ = []

abbrev pub texts_of_nodes : Arena → List ℕ → List ℕ
texts_of_nodes a = flat_map (λ i. node_texts (stored_at a i))

abbrev pub traits_of_nodes : Arena → List ℕ → List ℕ
traits_of_nodes a = flat_map (λ i. head_traits (stored_at a i).head)

abbrev pub texts_of_traits : Arena → List ℕ → List ℕ
texts_of_traits a = flat_map (λ t. traits_texts (get_or a.traits t no_traits))

-- the texts that values, nodes and traits use, each once
abbrev pub texts_used : Arena → List Stored → (nodes traits : List ℕ) → Placed
texts_used a vs ns ts = placed (length a.texts) (with_all (texts_in vs ++ (texts_of_nodes a ns ++ texts_of_traits a ts)) [])
