-- The tokens of a member that stands where its flag holds. A device of proofs.
use Rattle.std.specs.Prelude.{ℕ, Bool, true, false, List, [], ◌∷◌}
use Rattle.json.specs.Token.{Token, key, boolean}

abbrev pub flag_tokens : List ℕ → Bool → List Token
flag_tokens name false = []
flag_tokens name true = key name ∷ boolean true ∷ []
