-- What holds of a pass's seat between the steps of a call. A device of proofs.
use Rattle.std.specs.Prelude.{◌≡◌, ℕ, ◌+◌, ◌%◌, ◌^◌, ◌↔◌, Bool, false, IsTrue, List, [], ◌∷◌, ◌++◌, Option, None}
use Rattle.atomic_table.specs.Seated.{TableId}
use Rattle.atomic_table.specs.declared.shared.Seat.{Seat}
use Rattle.amf_broker.specs.declared.call.Call.{Call}
use Rattle.amf_broker.specs.declared.reply.Answer.{Answer}
use Rattle.amf_broker.specs.Machine.{answer_to}
use Rattle.amf_broker.specs.Memory.{takes_none}
use Rattle.amf_broker.specs.History.{Entry, then_entry}
use Rattle.amf_desk.specs.declared.counted.CountedBroker.{CountedBroker}
use Rattle.amf_desk.specs.declared.view.Stage.TheVariants.{Idle, Waits, Turn}
use Rattle.amf_desk.specs.declared.view.View.{View}
use Rattle.amf_desk.specs.Histories.{state_of, NoneBy, Later, counted_after}
use Rattle.amf_desk.specs.Rule.{staged}
use Rattle.amf_desk.specs.Steps.{Sat, Sound, turned}
use Rattle.amf_desk.specs.Passes.{Held}

-- what contracts see of a view
abbrev pub held : TableId → View → Held
held desk v = record { desk = desk; destinations = v.destinations; number = v.number; seen = v.seen; budget = v.budget; splits = v.splits }

-- a seat between calls
pub record Ready (seat : Seat (Option CountedBroker) View) (budget : ℕ) (first : Bool) : Type 0 where
  pub free : seat.me.1 ≡ []
  pub idle : seat.me.0.stage ≡ Idle
  pub sound : Sound seat.me.0
  pub same : budget ≡ seat.me.0.budget
  pub is_first : IsTrue first ↔ (seat.me.0.number ≡ 0)

-- the seat has taken this ticket
abbrev pub HasTaken : Sat → ℕ → Sat → Type 0
HasTaken m ticket m' = (t : ℕ) × (m' ≡ (staged m.0 (Waits t), m.1)) × (ticket ≡ t % 2 ^ 64)

abbrev pub Waiting : View → ℕ → Type 0
Waiting v ticket = (t : ℕ) × (v.stage ≡ Waits t) × (ticket ≡ t % 2 ^ 64)

abbrev pub HasTurn : View → Type 0
HasTurn v = (t : ℕ) × (v.stage ≡ Turn t)

-- its turn came, all was seen, and the broker is in the caller's hand
pub record Entered (v : View) (m : Sat) (broker : CountedBroker) : Type 0 where
  pub ticket : ℕ
  pub seen : List Entry
  pub later : Later v.number v.seen seen
  pub sound : Sound (turned v ticket seen)
  pub is : m ≡ (turned v ticket seen, (0, None) ∷ [])
  pub in_hand : broker ≡ counted_after v.destinations seen

-- its seat has made one call
pub record Ran (v : View) (moment : ℕ) (call : Call) (answer : Answer) (w : View) : Type 0 where
  pub destinations : w.destinations ≡ v.destinations
  pub number : w.number ≡ v.number
  pub splits : w.splits ≡ v.splits
  pub budget : w.budget + 1 ≡ v.budget
  pub between : List Entry
  pub others : NoneBy v.number between
  pub seen : w.seen ≡ then_entry (v.seen ++ between) v.number moment call answer

-- or none, since its answer takes memory
pub record Stayed (v : View) (moment : ℕ) (call : Call) (w : View) : Type 0 where
  pub destinations : w.destinations ≡ v.destinations
  pub number : w.number ≡ v.number
  pub splits : w.splits ≡ v.splits
  pub budget : w.budget ≡ v.budget
  pub later : Later v.number v.seen w.seen
  pub wants : takes_none call (answer_to (state_of w.destinations w.seen) moment call) ≡ false
