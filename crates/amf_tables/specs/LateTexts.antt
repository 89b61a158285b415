-- The texts of a writer's table, of which the last are not hashed yet. A device of proofs.
use Rattle.std.specs.Prelude.{ℕ, ◌≤◌, ◌++◌, List, length, drop}
use Rattle.amf_tables.specs.declared.first_places.TheConstants.{MAX_ENTRIES}

-- so many of the late ones are hashed, and a place is left for each of the others
pub record AreLate (hashed late : List (List ℕ)) (moved : ℕ) : Type 0 where
  pub within : moved ≤ length late
  pub few : length (hashed ++ drop moved late) ≤ MAX_ENTRIES
