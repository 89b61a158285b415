-- Labels that are called, by the numbers of their tokens.
use Rattle.std.specs.Prelude.{ℕ, suc, List, [], ◌∷◌, ◌++◌, Option, Some, None, if◌then◌else◌}
use Rattle.json.specs.Token.{Token}
use Rattle.amf_text.specs.Scalars.{read_number}
use Rattle.amf_text.specs.Asks.{Goal, goals_step}
use Rattle.amf_text.specs.Refused.{is_label}

-- the numbers of the tokens that were asked for as labels; the first token has this number
abbrev pub label_numbers : ℕ → Option (List Goal) → List Token → List ℕ
label_numbers n None ts = []
label_numbers n (Some gs) [] = []
label_numbers n (Some gs) (t ∷ ts) = (if is_label gs then n ∷ [] else []) ++ label_numbers (suc n) (goals_step read_number gs t) ts
