-- What callers asked of a broker and what it answered, from its first state on.
use Rattle.std.specs.Prelude.{◌≡◌, ℕ, List, [], ◌∷◌, ◌++◌}
use Rattle.amf_broker.specs.declared.call.Call.{Call}
use Rattle.amf_broker.specs.declared.reply.Answer.{Answer}
use Rattle.amf_broker.specs.State.{State, first}
use Rattle.amf_broker.specs.Machine.{answer_to, after}

-- a caller's number, the moment of its call, the call and the answer
pub record Entry : Type 0 where
  pub caller : ℕ
  pub moment : ℕ
  pub call : Call
  pub answer : Answer

-- the state that these calls leave, one after another
abbrev pub state_after : State → List Entry → State
state_after s [] = s
state_after s (e ∷ later) = state_after (after s e.moment e.call) later

-- each answer is the machine's
abbrev pub IsAnsweredFrom : State → List Entry → Type 0
IsAnsweredFrom s [] = Unit {0}
IsAnsweredFrom s (e ∷ later) = (e.answer ≡ answer_to s e.moment e.call) × IsAnsweredFrom (after s e.moment e.call) later

-- a history of a broker of these destinations
abbrev pub IsLegal : List (List ℕ) → List Entry → Type 0
IsLegal destinations history = IsAnsweredFrom (first destinations) history

-- the history is legal, and leaves this state
pub record Leaves (history : List Entry) (s : State) : Type 0 where
  pub legal : IsLegal s.board.destinations history
  pub state : state_after (first s.board.destinations) history ≡ s

-- the history and then this entry
abbrev pub then_entry : List Entry → ℕ → ℕ → Call → Answer → List Entry
then_entry history by at asked told = history ++ (record { caller = by; moment = at; call = asked; answer = told } ∷ [])

-- the history and then the machine's answer to this call
abbrev pub then_call : List Entry → State → (by moment : ℕ) → Call → List Entry
then_call history s by moment asked = then_entry history by moment asked (answer_to s moment asked)
