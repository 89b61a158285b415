-- The graph of some nodes alone, each under the number of its place in a list.
use Rattle.std.specs.Prelude.{◌≡◌, ℕ, ◌<◌, List, length, map, slice_get, get_or, Some, eqb}
use Rattle.std.specs.List.{AllByRecursion, position_or_len}
use Rattle.amf_graph.specs.declared.value.NodeId.{NodeId}
use Rattle.amf_graph.specs.declared.value.Value.{Value as Stored}
use Rattle.amf_graph.specs.declared.value.Value.TheVariants.{Node as NodeRef}
use Rattle.amf_graph.specs.Order.{IsDistinct}
use Rattle.amf_graph.specs.Arena.{Arena, StoredNode}
use Rattle.amf_graph.specs.Building.{stored_at}
use Rattle.amf_graph.specs.Rooted.{RootedArena}

abbrev pub numbers_of : List NodeId → List ℕ
numbers_of ns = map (λ n. n.0) ns

-- the first place of a number in a list, or how long the list is where it is not there
abbrev pub place_of : List ℕ → ℕ → ℕ
place_of order i = position_or_len (λ n. eqb n i) order

-- With each node under the number that f gives to it.

abbrev pub renumbered_value : (ℕ → ℕ) → Stored → Stored
renumbered_value f (NodeRef n) = NodeRef (record { 0 = f n.0 })
renumbered_value f v = v

abbrev pub renumbered_values : (ℕ → ℕ) → List Stored → List Stored
renumbered_values f vs = map (renumbered_value f) vs

abbrev pub renumbered_names : (ℕ → ℕ) → List (ℕ × Stored) → List (ℕ × Stored)
renumbered_names f ps = map (λ p. (p.0, renumbered_value f p.1)) ps

abbrev pub renumbered_node : (ℕ → ℕ) → StoredNode → StoredNode
renumbered_node f n = record { is_open = n.is_open; head = n.head; names = renumbered_names f n.names; values = renumbered_values f n.values }

-- the nodes of the list alone, in its order; texts and traits stay
abbrev pub renumbered_arena : (ℕ → ℕ) → List ℕ → Arena → Arena
renumbered_arena f order a = record { texts = a.texts; traits = a.traits; nodes = map (λ i. renumbered_node f (stored_at a i)) order }

-- and so each under the number of its place
abbrev pub renumbered : List ℕ → RootedArena → RootedArena
renumbered order g = record { arena = renumbered_arena (place_of order) order g.arena; root = renumbered_value (place_of order) g.root }

-- What makes such a list a graph.

-- a node among the values stands in the list
abbrev pub StandsIn : List ℕ → Stored → Type 0
StandsIn order (NodeRef n) = (k : ℕ) × (slice_get order k ≡ Some n.0)
StandsIn order _ = Unit {0}

-- no node stands twice, and the list has with the root's node and with each of its nodes all those that they name
pub record IsSelfContained (g : RootedArena) (order : List ℕ) : Type 0 where
  pub distinct : IsDistinct order
  pub there : AllByRecursion (λ i. i < length g.arena.nodes) order
  pub root : StandsIn order g.root
  pub names : AllByRecursion (λ i. AllByRecursion (λ p. StandsIn order p.1) (stored_at g.arena i).names) order
  pub values : AllByRecursion (λ i. AllByRecursion (StandsIn order) (stored_at g.arena i).values) order

-- Numbers by node, as they are looked up.

abbrev pub number_in : List ℕ → ℕ → ℕ
number_in numbers i = get_or numbers i 0

-- a node among the values has a number
abbrev pub HasNumber : List ℕ → Stored → Type 0
HasNumber numbers (NodeRef n) = n.0 < length numbers
HasNumber numbers _ = Unit {0}

pub record HaveNumbers (numbers : List ℕ) (n : StoredNode) : Type 0 where
  pub names : AllByRecursion (λ p. HasNumber numbers p.1) n.names
  pub values : AllByRecursion (HasNumber numbers) n.values
