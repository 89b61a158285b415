-- Whether a value is a node, and a node is like a holder. A device of proofs.
use Rattle.std.specs.Prelude.{◌≡◌, ℕ, Bool, false, ◌==◌, []}
use Rattle.amf_graph.specs.Graph.{Value, leaf, node, Graph, node_at}
use Rattle.amf_graph.specs.declared.value.Value.{Value as Stored}
use Rattle.amf_graph.specs.declared.value.Value.TheVariants.{Node as NodeRef}
use Rattle.amf_sol.specs.SharedObject.{holder_head}

abbrev pub is_node : ℕ → Value → Bool
is_node i (leaf x) = false
is_node i (node j) = j == i

abbrev pub is_stored_node : ℕ → Stored → Bool
is_stored_node i (NodeRef n) = n.0 == i
is_stored_node i _ = false

-- the head of a holder, and nothing but pairs
abbrev pub HasPairsAlone : Graph → ℕ → Type 0
HasPairsAlone g i = ((node_at g i).head ≡ holder_head) × ((node_at g i).values ≡ [])
