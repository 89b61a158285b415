-- What has been written to a sink, and what waits to be written.
use Rattle.std.specs.Prelude.{◌≡◌, List, ℕ, ◌++◌}

-- these bytes were put: a front of them was written, and the rest waits
pub record Put (before now bytes rest : List ℕ) : Type 0 where
  pub front : List ℕ
  pub parts : bytes ≡ front ++ rest
  pub added : now ≡ before ++ front
