-- By a token some goals come in place of the first, or it is refused, as the definition has it, where these lists are held.
use Rattle.std.specs.Prelude.{◌≡◌, List, ◌∷◌, ◌++◌, Option, option_map}
use Rattle.json.specs.Token.{Token}
use Rattle.amf_text.specs.Scalars.{read_number}
use Rattle.amf_text.specs.Asks.{goals_step}
use Rattle.amf_text_read.specs.Goals.{Held, goals_of, held_after}
use Rattle.amf_text_read.specs.declared.goal.Goal.{Goal}

abbrev pub AreNext : Held → Goal → Token → Option (List Goal) → Type 0
AreNext h g t next = (gs : List Goal) → option_map (λ ns. goals_of (held_after h g t) (ns ++ gs)) next ≡ goals_step read_number (goals_of h (g ∷ gs)) t
