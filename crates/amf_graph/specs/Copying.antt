-- What is gathered to be copied, and the numbers that the copies get. A device of proofs.
use Rattle.std.specs.Prelude.{◌≡◌, ℕ, ◌+◌, ◌<◌, ◌⊎◌, ◌++◌, length}
use Rattle.std.specs.List.{AllByRecursion}
use Rattle.amf_graph.specs.declared.value.Value.{Value as Stored}
use Rattle.amf_graph.specs.declared.value.Value.TheVariants.{Text, Node as NodeRef}
use Rattle.amf_graph.specs.Arena.{Arena, StoredTraits, StoredHead, xml_document, object, xml, values}
use Rattle.amf_graph.specs.Gather.{Placed}
use Rattle.amf_graph.specs.Grafting.{Cut, Renaming, renaming_from, copied_texts, copied_traits, copied_nodes}

pub record Plan : Type 0 where
  pub texts : Placed
  pub traits : Placed
  pub nodes : Placed
  pub first_text : ℕ
  pub first_traits : ℕ
  pub first_node : ℕ

abbrev pub cut_of : Plan → Cut
cut_of c = record { texts = c.texts.items; traits = c.traits.items; nodes = c.nodes.items }

abbrev pub renaming_of : Plan → Renaming
renaming_of c = renaming_from c.first_text c.first_traits c.first_node (cut_of c)

-- the copies pass what a graph has room for: so many texts, nodes and traits
abbrev pub IsTooMuch : (most most_traits : ℕ) → Plan → Type 0
IsTooMuch most most_traits c = (most < c.first_text + length c.texts.items) ⊎ (most_traits < c.first_traits + length c.traits.items) ⊎ (most < c.first_node + length c.nodes.items)

-- The texts, traits and nodes that are named are below the counts.

abbrev pub ValueCounted : Plan → Stored → Type 0
ValueCounted c (Text x) = x.0 < c.texts.count
ValueCounted c (NodeRef n) = n.0 < c.nodes.count
ValueCounted c _ = Unit {0}

abbrev pub PairCounted : Plan → ℕ × Stored → Type 0
PairCounted c p = (p.0 < c.texts.count) × ValueCounted c p.1

abbrev pub HeadCounted : Plan → StoredHead → Type 0
HeadCounted c (xml_document x) = x < c.texts.count
HeadCounted c (object t) = t < c.traits.count
HeadCounted c (xml x) = x < c.texts.count
HeadCounted c (values f x) = x < c.texts.count
HeadCounted c _ = Unit {0}

pub record TraitsCounted (c : Plan) (t : StoredTraits) : Type 0 where
  pub class : t.class < c.texts.count
  pub sealed : AllByRecursion (λ x. x < c.texts.count) t.sealed

-- as many texts, traits and nodes as the arena has
pub record AreCounts (c : Plan) (a : Arena) : Type 0 where
  pub texts : c.texts.count ≡ length a.texts
  pub traits : c.traits.count ≡ length a.traits
  pub nodes : c.nodes.count ≡ length a.nodes

-- the next numbers behind what an arena has
pub record IsBehind (c : Plan) (old : Arena) : Type 0 where
  pub texts : c.first_text ≡ length old.texts
  pub traits : c.first_traits ≡ length old.traits
  pub nodes : c.first_node ≡ length old.nodes

-- the copies alone
abbrev pub copies_of : Arena → Plan → Arena
copies_of a c = record { texts = copied_texts a c.texts.items; traits = copied_traits a (renaming_of c) c.traits.items; nodes = copied_nodes a (renaming_of c) c.nodes.items }

-- texts, traits and nodes behind those that are there
abbrev pub joined : Arena → Arena → Arena
joined old more = record { texts = old.texts ++ more.texts; traits = old.traits ++ more.traits; nodes = old.nodes ++ more.nodes }
