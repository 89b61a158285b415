-- What the code puts in place of a goal, as a list.
use Rattle.std.specs.Prelude.{◌≡◌, List, [], ◌∷◌, ◌++◌, Option, Some, None, option_map}
use Rattle.json.specs.Token.{Token}
use Rattle.amf_text.specs.Scalars.{read_number}
use Rattle.amf_text.specs.Asks.{goals_step}
use Rattle.amf_text_read.specs.Goals.{Held, goals_of, held_after}
use Rattle.amf_text_read.specs.declared.goal.Goal.{Goal}
use Rattle.amf_text_read.specs.declared.next.Next.{Next}

abbrev pub with_more : List Goal → Option Goal → List Goal
with_more gs None = gs
with_more gs (Some g) = gs ++ g ∷ []

abbrev pub all_listed : Option Next → Option (List Goal)
all_listed o = option_map (λ n. with_more n.goals.now n.more) o

-- By this token these goals come in place of the first, or it is refused, as the definition has it, where these lists are held.
abbrev pub IsNext : Held → Goal → Token → Option Next → Type 0
IsNext h g t next = (gs : List Goal) → option_map (λ ns. goals_of (held_after h g t) (ns ++ gs)) (all_listed next) ≡ goals_step read_number (goals_of h (g ∷ gs)) t
