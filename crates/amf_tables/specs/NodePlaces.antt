-- The first places of the nodes of a table, by their numbers. A device of proofs.
use Rattle.std.specs.Prelude.{◌≡◌, ℕ, ◌+◌, ◌≤◌, ◌<◌, ◌≢◌, List, length, slice_get, Some}
use Rattle.amf_graph.specs.Order.{Absent}
use Rattle.amf_tables.specs.FirstPlace.{IsFirstPlace}
use Rattle.amf_tables.specs.declared.node_table.TheConstants.{NONE, MAX_NODES}

-- so many of the first nodes stand at the places of their own numbers; at each number from there on is noted its first place, where it has one
pub record ArePlacesOf (own : ℕ) (nodes places : List ℕ) : Type 0 where
  pub own_place : (k : ℕ) → k < own → slice_get nodes k ≡ Some k
  pub noted : (i k : ℕ) → slice_get places i ≡ Some k → k ≢ NONE → IsFirstPlace nodes (own + i) k × (k < MAX_NODES)
  pub blank : (i : ℕ) → slice_get places i ≡ Some NONE → Absent nodes (own + i)
  pub past : (i : ℕ) → length places ≤ i → Absent nodes (own + i)
