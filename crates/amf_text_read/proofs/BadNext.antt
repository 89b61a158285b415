-- What is no token meets no goal.
use Rattle.std.proofs.Common.{◌≡◌, ℕ, zero, suc, List, [], ◌∷◌, ◌++◌, Some, None, refl, sym, ap}
use Rattle.std.specs.Prelude.{option_and_then}
use Rattle.json.specs.Token.{bad}
use Rattle.amf_text.specs.Scalars.{read_number}
use Rattle.amf_text.specs.Asks.{step, goals_step, left_step, parts_step, header_goals, message_goals, more_headers, more_messages}
use Rattle.amf_text.specs.Asks as asks
use Rattle.amf_text_read.specs.Goals.{Held, goal_of, goals_of, behind}
use Rattle.amf_text_read.specs.declared.goal.Goal.{Goal}
use Rattle.amf_text_read.specs.declared.goal.Goal.TheVariants as goal

bad_left : (xs : List (List ℕ)) → left_step xs bad ≡ None
bad_left [] = refl
bad_left (x ∷ xs) = refl

bad_parts : (part : List asks.Goal) (more : ℕ → asks.Goal) (n : ℕ) → parts_step part more n bad ≡ None
bad_parts part more zero = refl
bad_parts part more (suc n) = refl

bad_step : (h : Held) (g : Goal) → step read_number (goal_of h g) bad ≡ None
unfolding step
bad_step h (goal.MoreHeaders n) = bad_parts header_goals more_headers n
bad_step h (goal.MoreMessages n) = bad_parts message_goals more_messages n
bad_step h goal.Left = bad_left h.names.at.left
bad_step h _ = refl

pub bad_next : (h : Held) (g : Goal) (gs : List Goal) → None ≡ goals_step read_number (goals_of h (g ∷ gs)) bad
bad_next h g gs = sym (ap (option_and_then (λ hs. Some (hs ++ goals_of (behind g h) gs))) (bad_step h g))
