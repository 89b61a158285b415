-- Where a writer of AMF 3 stops: which of the nodes that it would meet next is the first that lacks a spelling. A device of proofs.
use Rattle.std.specs.Prelude.{ℕ, ◌≤◌, List, ◌++◌, length}
use Rattle.amf_graph.specs.declared.lack.LackKind.{LackKind}
use Rattle.amf_graph.specs.Graph.{Value, Graph}
use Rattle.amf_graph.specs.Order.{Walks}
use Rattle.amf_graph.specs.Lacks.{IsFirstLack}
use Rattle.amf3_spelling.specs.Lacks3.{Lacks3}

-- the reason applies at a number that is not below this one
abbrev pub LacksFrom : ℕ → Graph → List ℕ → ℕ → LackKind → Type 0
LacksFrom start g order number kind = (start ≤ number) × Lacks3 g order number kind

-- values, behind the nodes met before: whatever stands behind the values, this is the first lack among the nodes met from there on, by their places
pub record Lacking3 (g : Graph) (vs : List Value) (met : List ℕ) (number : ℕ) (kind : LackKind) : Type 0 where
  pub stops : (ws : List Value) (all : List ℕ) → Walks g met (vs ++ ws) all → IsFirstLack (LacksFrom (length met) g all) number kind
