-- The first lack among some nodes, and which nodes were met. A device of proofs.
use Rattle.std.specs.Prelude.{◌≡◌, ℕ, ◌<◌, Bool, true, List, slice_get, Option, Some, None}
use Rattle.amf_graph.specs.declared.lack.Lack.{Lack}
use Rattle.amf_graph.specs.declared.lack.LackKind.{LackKind}
use Rattle.amf_graph.specs.Lacks.{IsFirstLack}

-- the first lack, or that there is none
abbrev pub IsLeast : (ℕ → LackKind → Type 0) → Option Lack → Type 0
IsLeast Lacks None = (n : ℕ) (k : LackKind) → Lacks n k → ⊥
IsLeast Lacks (Some l) = IsFirstLack Lacks l.node l.kind

-- it has a less number than this one, or there is none
abbrev pub IsBefore : Lack → Option Lack → Type 0
IsBefore l None = Unit {0}
IsBefore l (Some k) = l.node < k.node

-- which nodes were met
pub record AreSeen (met : List ℕ) (seen : List Bool) : Type 0 where
  pub marked : (k i : ℕ) → slice_get met k ≡ Some i → slice_get seen i ≡ Some true
  pub among : (i : ℕ) → slice_get seen i ≡ Some true → (k : ℕ) × (slice_get met k ≡ Some i)
