-- What the nodes that the reader enters do to an arena and its tables. A device by which verdicts are proved.
use Rattle.std.specs.Prelude.{◌≡◌, ℕ, true, [], length}
use Rattle.amf_graph.specs.Arena.{Arena, StoredHead, StoredTraits, object}
use Rattle.amf_graph.specs.Building.{kept_node, kept_traits, begun, closed}
use Rattle.amf0_spelling.specs.KeptTables0.{KeptTables0}
use Rattle.amf0_spelling.specs.TableParts0.{kept_node0}

-- a node without parts was kept at this place
pub record KeepsLeaf (a b : Arena) (h : StoredHead) (i : ℕ) : Type 0 where
  pub place : i ≡ length a.nodes
  pub kept : b ≡ kept_node a (closed h [] [])

-- an open node was kept at this place, and entered
pub record Opens (a b : Arena) (t u : KeptTables0) (h : StoredHead) (i : ℕ) : Type 0 where
  pub place : i ≡ length a.nodes
  pub kept : b ≡ kept_node a (begun h)
  pub entered : u ≡ kept_node0 t i

-- dynamic traits of a class, without sealed names
abbrev pub dynamic_traits : ℕ → StoredTraits
dynamic_traits class = record { class = class; dynamic = true; sealed = [] }

-- an open object of such traits
abbrev pub OpensObject : Arena → Arena → KeptTables0 → KeptTables0 → ℕ → ℕ → Type 0
OpensObject a b t u class i = Opens (kept_traits a (dynamic_traits class)) b t u (object (length a.traits)) i
