-- The first node that has no spelling, and the first reason at it.
use Rattle.std.specs.Prelude.{ℕ, ◌≤◌}
use Rattle.amf_graph.specs.declared.lack.LackKind.{LackKind}
use Rattle.amf_graph.specs.declared.lack.LackKind.TheVariants.{EmptyName, NoForm, LongName, Shared, FarReference, LongFile}

-- the order in which reasons are looked for
abbrev pub rank : LackKind → ℕ
rank EmptyName = 0
rank NoForm = 1
rank LongName = 2
rank Shared = 3
rank FarReference = 4
rank LongFile = 5

-- Lacks says of a canonical number and a reason that it applies there
pub record IsFirstLack (Lacks : ℕ → LackKind → Type 0) (number : ℕ) (kind : LackKind) : Type 0 where
  pub lacks : Lacks number kind
  pub least : (n : ℕ) (k : LackKind) → Lacks n k → number ≤ n
  pub first : (k : LackKind) → Lacks number k → rank kind ≤ rank k
