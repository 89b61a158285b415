-- The rule of the desk's table: what holds between any two steps, whoever makes them.
-- Word 0 is the number of tickets that were given out, word 1 the number of those that were served, both modulo 2^64. Word 2 is the length of the history.
use Rattle.std.specs.Prelude.{◌≡◌, ℕ, ◌+◌, ◌%◌, ◌^◌, ◌<◌, ◌≤◌, List, [], ◌∷◌, length, Option, Some}
use mathlib.Core.Option.{some, none}
use lib.ListN.{get_elem?}
use Rattle.atomic_table.specs.Table.{State}
use Rattle.amf_broker.specs.History.{Entry, IsLegal}
use Rattle.amf_desk.specs.declared.counted.CountedBroker.{CountedBroker}
use Rattle.amf_desk.specs.declared.view.Stage.{Stage}
use Rattle.amf_desk.specs.declared.view.Stage.TheVariants.{Idle, Waits, Turn, Joined, Spent}
use Rattle.amf_desk.specs.declared.view.View.{View}
use Rattle.amf_desk.specs.Histories.{AllBelow, Later, Begins, counted_after}

-- the view of the first pass of a new desk
abbrev pub first_view : List (List ℕ) → View
first_view destinations = record { destinations = destinations; number = 0; seen = []; budget = 2 ^ 62; splits = 0; stage = Idle }

-- the view of a pass that another took in
abbrev pub spent_view : View
spent_view = record { destinations = []; number = 0; seen = []; budget = 0; splits = 0; stage = Spent }

-- the view, at another stage
abbrev pub staged : View → Stage → View
staged v stage = record { destinations = v.destinations; number = v.number; seen = v.seen; budget = v.budget; splits = v.splits; stage = stage }

-- 1 where a ticket is held
abbrev pub outs : Stage → ℕ
outs Idle = 0
outs (Waits ticket) = 1
outs (Turn ticket) = 1
outs (Joined seen) = 0
outs Spent = 0

-- 1 where its turn has come
abbrev pub turns : Stage → ℕ
turns Idle = 0
turns (Waits ticket) = 0
turns (Turn ticket) = 1
turns (Joined seen) = 0
turns Spent = 0

-- this ticket is held
abbrev pub HasTicket : ℕ → Stage → Type 0
HasTicket n Idle = ⊥
HasTicket n (Waits ticket) = n ≡ ticket
HasTicket n (Turn ticket) = n ≡ ticket
HasTicket n (Joined seen) = ⊥
HasTicket n Spent = ⊥

-- the sum over all views
abbrev pub total : (View → ℕ) → List View → ℕ
total f [] = 0
total f (v ∷ vs) = f v + total f vs

abbrev pub out_of : View → ℕ
out_of v = outs v.stage

abbrev pub turn_of : View → ℕ
turn_of v = turns v.stage

abbrev pub budget_of : View → ℕ
budget_of v = v.budget

-- A seat that is not spent: its number is its place, no entry of that number stands past what it has seen, and the first one knows how many seats there are.
pub record Seated (destinations : List (List ℕ)) (log : List Entry) (seats seat : ℕ) (v : View) : Type 0 where
  pub destinations_are : v.destinations ≡ destinations
  pub number : v.number ≡ seat
  pub later : Later seat v.seen log
  pub made : seat ≡ 0 → v.splits + 1 ≡ seats

-- What holds of a seat at each stage. One whose turn has come has seen the whole history.
module _ (destinations : List (List ℕ)) (log : List Entry) (served issued seats seat : ℕ) (v : View) where
  abbrev pub Knows : Stage → Type 0
  Knows Idle = Seated destinations log seats seat v
  Knows (Waits ticket) = Seated destinations log seats seat v × (served ≤ ticket) × (ticket < issued) × (0 < v.budget)
  Knows (Turn ticket) = Seated destinations log seats seat v × (ticket ≡ served) × (v.seen ≡ log)
  Knows (Joined seen) = Seated destinations log seats seat v × Begins seen log
  Knows Spent = Unit {0}

-- The rule: there is one history that explains the table.
pub record Explained (destinations : List (List ℕ)) (s : State (Option CountedBroker) View) : Type 0 where
  pub log : List Entry
  -- how many tickets were served, and how many were given out
  pub served : ℕ
  pub issued : ℕ
  -- how many seats were made
  pub seats : ℕ
  pub many : length s.views ≡ seats
  pub words : s.words ≡ issued % 2 ^ 64 ∷ served % 2 ^ 64 ∷ length log ∷ []
  pub tickets : issued ≡ served + total out_of s.views
  -- at most one seat has its turn. While none has it the slot is home, with the broker as the history leaves it; else it is with that seat
  pub one : total turn_of s.views ≤ 1
  pub home : total turn_of s.views ≡ 0 → s.homes ≡ some (Some (counted_after destinations log)) ∷ []
  pub away : total turn_of s.views ≡ 1 → s.homes ≡ none ∷ []
  pub budget : length log + total budget_of s.views ≤ 2 ^ 62
  pub legal : IsLegal destinations log
  -- each caller is one of the seats
  pub callers : AllBelow seats log
  pub each : (j : ℕ) (v : View) → get_elem? s.views j ≡ some v → Knows destinations log served issued seats j v v.stage
  -- no ticket is held twice
  pub apart : (i j : ℕ) (v w : View) (t : ℕ) → get_elem? s.views i ≡ some v → get_elem? s.views j ≡ some w → HasTicket t v.stage → HasTicket t w.stage → i ≡ j
