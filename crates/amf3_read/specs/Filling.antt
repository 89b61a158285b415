-- What the values of an open node do to an arena, as they are read. A device by which verdicts are proved.
use Rattle.std.specs.Prelude.{◌≡◌, ℕ, ◌+◌, ◌<◌, true, List, [], ◌++◌, length}
use Rattle.amf_graph.specs.declared.limits.TheConstants.{MAX_COUNT}
use Rattle.amf_graph.specs.declared.value.Value.{Value as Stored}
use Rattle.amf_graph.specs.Arena.{Arena, StoredNode}
use Rattle.amf_graph.specs.Building.{kept_node, stored_at, size_of}
use Rattle.amf3_spelling.specs.Reads3.{Grows}

-- a node with further names and values
abbrev pub with_more : StoredNode → List (ℕ × Stored) → List Stored → StoredNode
with_more n names values = record { is_open = n.is_open; head = n.head; names = n.names ++ names; values = n.values ++ values }

-- the node is open, and was opened after all that stands before it; so many bytes to come cannot fill it
pub record IsOpened (a : Arena) (i left : ℕ) : Type 0 where
  pub before : Arena
  pub within : Grows (kept_node before (stored_at a i)) a
  pub place : i ≡ length before.nodes
  pub opened : (stored_at a i).is_open ≡ true
  pub room : size_of (stored_at a i) + left < MAX_COUNT

-- an open node without names and values
pub record IsEmptyNode (n : StoredNode) : Type 0 where
  pub names : n.names ≡ []
  pub values : n.values ≡ []
