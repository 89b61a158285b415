-- How many nodes stand around each, and which have a row for it. A device of proofs.
use Rattle.std.specs.Prelude.{◌≡◌, ◌⊎◌, ℕ, ◌+◌, if◌then◌else◌, nat_lt, List, set, slice_get, Some}
use Rattle.amf_graph.specs.Graph.{Value, Graph, node}
use Rattle.amf_text.specs.Texts.{IsShared, HoldsNode}
use Rattle.amf_text_write.specs.declared.meetings.Meetings.{Meetings}
use Rattle.amf_text_write.specs.declared.meetings.Meetings.TheVariants.{One}

-- the level of a node within one of this level, and the first one behind the last
abbrev pub next_level : ℕ → ℕ
next_level n = if nat_lt n 32 then n + 1 else 1

-- the levels of the nodes of an order, by node
pub record AreLevels (g : Graph) (order : List ℕ) (level : ℕ → ℕ) : Type 0 where
  pub root : (i : ℕ) → g.root ≡ node i → level i ≡ 1
  pub shared : (i : ℕ) → IsShared g order i → level i ≡ 1
  pub held : (j i k : ℕ) → slice_get order k ≡ Some j → HoldsNode g j i → (IsShared g order i → ⊥) → level i ≡ next_level (level j)

-- a node that is met more than once, or is no root and stands at the first level
abbrev pub IsMarked : Graph → List ℕ → (ℕ → ℕ) → ℕ → Type 0
IsMarked g order level i = IsShared g order i ⊎ ((level i ≡ 1) × (g.root ≡ node i → ⊥))

-- the value is the node of this number, which is met once
abbrev pub IsMetOnce : List ℕ → List Meetings → Value → ℕ → Type 0
IsMetOnce order counts v p = (i : ℕ) × (v ≡ node i) × (slice_get order p ≡ Some i) × (slice_get counts p ≡ Some One)

-- such a node gets this level, and all else stays
abbrev pub Deepens : List ℕ → List Meetings → ℕ → Value → (old new : List ℕ) → Type 0
Deepens order counts level v old new = ((p : ℕ) × IsMetOnce order counts v p × (new ≡ set old p level)) ⊎ (((p : ℕ) → IsMetOnce order counts v p → ⊥) × (new ≡ old))
