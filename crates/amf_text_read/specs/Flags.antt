-- A device of proofs: flags in a row.
use Rattle.std.specs.Prelude.{ℕ, zero, suc, Bool, true, false, List, [], ◌∷◌}

-- with the flag at this place set
abbrev pub with_flag : ℕ → List Bool → List Bool
with_flag zero [] = true ∷ []
with_flag zero (b ∷ bs) = true ∷ bs
with_flag (suc n) [] = false ∷ with_flag n []
with_flag (suc n) (b ∷ bs) = b ∷ with_flag n bs
