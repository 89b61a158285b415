-- What the code says of one token: it is asked for, or it is refused for a reason.
use Rattle.std.specs.Prelude.{◌≡◌, Bool, true, false, List, [], ◌∷◌, Option, Some, None, MatchOption, reverse}
use Rattle.json.specs.Token.{Token}
use Rattle.amf_text.specs.declared.reason.TextReason.{TextReason}
use Rattle.amf_text.specs.Scalars.{read_number}
use Rattle.amf_text.specs.Asks.{goals_step, fault_of}
use Rattle.amf_text.specs.Asks as asks
use Rattle.amf_text_read.specs.Goals.{Held, goal_of, goals_of}
use Rattle.amf_text_read.specs.Lists.{held_of}
use Rattle.amf_text_read.specs.declared.goal.Goal.{Goal}
use Rattle.amf_text_read.specs.declared.asked.Asked.{Asked}

-- what has to stand next, in the words of the definition
abbrev pub asked_of : Asked → List asks.Goal
asked_of a = goals_of (held_of a.lists) (reverse a.goals.items)

-- this goal is the first, with what it holds
pub record IsFirst (g : Goal) (gs : List asks.Goal) : Type 0 where
  pub held : Held
  pub others : List asks.Goal
  pub first : gs ≡ goal_of held g ∷ others

-- a token that is refused changes nothing
pub record IsRefusedFor (old new : List asks.Goal) (t : Token) (reason : TextReason) : Type 0 where
  pub wrong : goals_step read_number old t ≡ None
  pub why : reason ≡ fault_of old t
  pub kept : new ≡ old

abbrev pub Judges : List asks.Goal → List asks.Goal → Token → Option TextReason → Type 0
Judges old new t refused = MatchOption refused (goals_step read_number old t ≡ Some new) (IsRefusedFor old new t)

abbrev pub is_empty : {X : Type 0} → List X → Bool
is_empty [] = true
is_empty (x ∷ xs) = false
