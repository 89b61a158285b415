-- Which nodes were spelled, and which of them have a place. A device of proofs.
use Rattle.std.specs.Prelude.{◌≡◌, ℕ, ◌≤◌, Bool, true, List, length, slice_get, Some}
use Rattle.amf_graph.specs.Order.{Absent}

pub record Spelled : Type 0 where
  pub nodes : List ℕ
  pub done : List ℕ

-- all that have places were spelled, and those that are marked; nothing else was
pub record AreSpelled (nodes done : List ℕ) (marks : List Bool) : Type 0 where
  pub placed : (i : ℕ) → Absent done i → Absent nodes i
  pub marked : (i : ℕ) → slice_get marks i ≡ Some true → (k : ℕ) × (slice_get done k ≡ Some i)
  pub unmarked : (i : ℕ) → (slice_get marks i ≡ Some true → ⊥) → Absent nodes i → Absent done i
  pub longer : length nodes ≤ length done
  pub even : length nodes ≡ length done → done ≡ nodes
