-- The sealed names of a class that tells them.
use Rattle.std.specs.Prelude.{ℕ, Bool, true, false, List, [], ◌∷◌, ◌++◌}
use Rattle.amf_text.specs.Meant.{without}

-- those that have been told, and those that no member has yet
pub record ToldNames : Type 0 where
  pub told : List (List ℕ)
  pub left : List (List ℕ)

abbrev pub no_names : ToldNames
no_names = record { told = []; left = [] }

-- one more is told; members begin; a member has one
abbrev pub with_name : ToldNames → List ℕ → ToldNames
with_name n s = record { told = n.told ++ s ∷ []; left = n.told ++ s ∷ [] }

abbrev pub all_left : ToldNames → ToldNames
all_left n = record { told = n.told; left = n.told }

abbrev pub without_name : ToldNames → List ℕ → ToldNames
without_name n k = record { told = n.told; left = without k n.left }

abbrev pub has_some : {X : Type 0} → List X → Bool
has_some [] = false
has_some (x ∷ xs) = true

-- A device of proofs: the names whose flag is not set, where the flags that are lacking are not set.
abbrev pub left_of : List Bool → List (List ℕ) → List (List ℕ)
left_of [] names = names
left_of (b ∷ bs) [] = []
left_of (true ∷ bs) (x ∷ xs) = left_of bs xs
left_of (false ∷ bs) (x ∷ xs) = x ∷ left_of bs xs
