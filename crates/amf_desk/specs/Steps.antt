-- What each step on the table tells the seat that makes it. A device of proofs.
use Rattle.std.specs.Prelude.{◌≡◌, ◌≢◌, ℕ, ◌+◌, ◌-◌, ◌%◌, ◌^◌, ◌≤◌, ◌⊎◌, List, [], ◌∷◌, length, Option, Some, if◌then◌else◌, leb}
use Rattle.atomic_table.specs.Table.{Me, Step}
use Rattle.amf_broker.specs.declared.call.Call.{Call}
use Rattle.amf_broker.specs.Machine.{answer_to}
use Rattle.amf_broker.specs.History.{Entry, then_entry}
use Rattle.amf_desk.specs.declared.counted.CountedBroker.{CountedBroker}
use Rattle.amf_desk.specs.declared.view.Stage.TheVariants.{Idle, Waits, Turn, Joined}
use Rattle.amf_desk.specs.declared.view.View.{View}
use Rattle.amf_desk.specs.Histories.{state_of, AllBelow, Later, Begins, counted_after}
use Rattle.amf_desk.specs.Rule.{staged}
use Rattle.amf_desk.specs.Passes.{Explains}

-- a seat's view, and the slot where the seat has it
abbrev pub Sat : Type 0
Sat = Me (Option CountedBroker) View

-- what holds of every view between calls, and follows from the rule
pub record Sound (v : View) : Type 0 where
  pub explained : Explains v.destinations v.seen
  pub room : length v.seen + v.budget ≤ 2 ^ 62
  pub callers : v.number ≡ 0 → AllBelow (v.splits + 1) v.seen

-- the view, in its turn, having seen all
abbrev pub turned : View → ℕ → List Entry → View
turned v ticket seen = record { destinations = v.destinations; number = v.number; seen = seen; budget = v.budget; splits = v.splits; stage = Turn ticket }

-- the view after its call: the broker's answer stands behind all that it had seen
abbrev pub counted : View → ℕ → Call → View
counted v moment call = record {
  destinations = v.destinations;
  number = v.number;
  seen = then_entry v.seen v.number moment call (answer_to (state_of v.destinations v.seen) moment call);
  budget = v.budget - 1;
  splits = v.splits;
  stage = v.stage;
}

abbrev pub longer : List Entry → List Entry → List Entry
longer xs ys = if leb (length ys) (length xs) then xs else ys

-- the view, with the budget of a pass taken in, before it learns which of the two has seen more
abbrev pub joined : View → View → View
joined v w = record { destinations = v.destinations; number = v.number; seen = v.seen; budget = v.budget + w.budget; splits = v.splits; stage = Joined w.seen }

-- and after
abbrev pub agreed : View → List Entry → View
agreed v seen = record { destinations = v.destinations; number = v.number; seen = longer v.seen seen; budget = v.budget; splits = v.splits; stage = Idle }

-- the two views that a split makes of one
abbrev pub left_of : ℕ → View → View
left_of share v = record { destinations = v.destinations; number = v.number; seen = v.seen; budget = v.budget - share; splits = v.splits + 1; stage = Idle }

abbrev pub right_of : ℕ → View → View
right_of share v = record { destinations = v.destinations; number = v.splits + 1; seen = v.seen; budget = share; splits = 0; stage = Idle }

-- one more ticket is given out
abbrev pub Takes : Step (Option CountedBroker) → Sat → ℕ → Sat → Type 0
Takes st m n m' = (t : ℕ) × (m' ≡ (staged m.0 (Waits t), m.1)) × (n ≡ t % 2 ^ 64)

-- the ticket of this number is given out, if it is the next one
abbrev pub TakesNext : Step (Option CountedBroker) → Sat → ℕ → Sat → Type 0
TakesNext st m n m' = (n ≡ st.first → Takes st m n m') × (n ≢ st.first → m' ≡ m)

-- its turn has come, and the slot is its own, with the broker as the history leaves it
pub record Came (v : View) (t : ℕ) (c : List (ℕ × Option CountedBroker)) (m' : Sat) : Type 0 where
  pub seen : List Entry
  pub later : Later v.number v.seen seen
  pub is : m' ≡ (turned v t seen, (0, Some (counted_after v.destinations seen)) ∷ c)
  pub sound : Sound (turned v t seen)

-- whether its ticket is the one that is served
abbrev pub Comes : Step (Option CountedBroker) → Sat → ℕ → Sat → Type 0
Comes st m n m' = (t : ℕ) → m.0.stage ≡ Waits t → (n ≡ t % 2 ^ 64 → Came m.0 t m.1 m') × (n ≢ t % 2 ^ 64 → m' ≡ m)

-- the call joins the history
abbrev pub Counts : ℕ → Call → Step (Option CountedBroker) → Sat → ℕ → Sat → Type 0
Counts moment call st m n m' = (m' ≡ (counted m.0 moment call, m.1)) × Sound m'.0

-- the turn ends, and the slot goes home
abbrev pub Gives : Step (Option CountedBroker) → Sat → ℕ → Sat → Type 0
Gives st m n m' = m' ≡ (staged m.0 Idle, [])

-- what two passes had seen lies on one line
abbrev pub Agrees : Step (Option CountedBroker) → Sat → ℕ → Sat → Type 0
Agrees st m n m' = (l : List Entry) → m.0.stage ≡ Joined l → (m' ≡ (agreed m.0 l, m.1)) × (Begins m.0.seen l ⊎ Begins l m.0.seen) × Sound m'.0
