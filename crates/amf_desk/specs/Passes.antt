-- What contracts see of a pass, and what they say of a call, a join and a close.
use Rattle.std.specs.Prelude.{◌≡◌, ℕ, ◌+◌, ◌-◌, ◌^◌, ◌≤◌, ◌⊎◌, min, List, ◌++◌, length}
use Rattle.atomic_table.specs.Seated.{TableId}
use Rattle.amf_broker.specs.declared.call.Call.{Call}
use Rattle.amf_broker.specs.declared.reply.Answer.{Answer}
use Rattle.amf_broker.specs.History.{Entry, IsLegal, then_entry}
use Rattle.amf_broker.specs.Delivery.{AllDelivered}
use Rattle.amf_desk.specs.declared.closed.Closed.{Closed}
use Rattle.amf_desk.specs.Histories.{state_of, own, NoneBy, AllBelow, Later, Begins, published_in, delivered_in, queued_in}

-- which desk it is of, the desk's destinations, the pass's number, what it has seen of the one history, how many calls it may still make, and how many passes were split off it
pub record Held : Type 0 where
  pub desk : TableId
  pub destinations : List (List ℕ)
  pub number : ℕ
  pub seen : List Entry
  pub budget : ℕ
  pub splits : ℕ

-- the history is legal, and over it each subscription got what was due to it
pub record Explains (destinations : List (List ℕ)) (history : List Entry) : Type 0 where
  pub legal : IsLegal destinations history
  pub delivered : AllDelivered history (state_of destinations history)

-- to the first pass: each caller is a pass that this desk made
abbrev pub Known : Held → List Entry → Type 0
Known p history = p.number ≡ 0 → AllBelow (p.splits + 1) history

-- The call has one entry: what was seen, then entries of other callers, then this one, and the whole explains all answers.
pub record Called (p : Held) (moment : ℕ) (call : Call) (answer : Answer) (q : Held) : Type 0 where
  pub desk : q.desk ≡ p.desk
  pub destinations : q.destinations ≡ p.destinations
  pub number : q.number ≡ p.number
  pub splits : q.splits ≡ p.splits
  pub budget : q.budget + 1 ≡ p.budget
  pub between : List Entry
  pub others : NoneBy p.number between
  pub seen : q.seen ≡ then_entry (p.seen ++ between) p.number moment call answer
  pub explained : Explains p.destinations q.seen
  pub callers : Known q q.seen

-- of the pass's own entries in what it has seen, the call adds one at the end
abbrev pub AddsOwn : Held → ℕ → Call → Answer → Held → Type 0
AddsOwn p moment call answer q = own p.number q.seen ≡ then_entry (own p.number p.seen) p.number moment call answer

-- The call has no entry: what was seen, then entries of other callers.
pub record Looked (p q : Held) : Type 0 where
  pub desk : q.desk ≡ p.desk
  pub destinations : q.destinations ≡ p.destinations
  pub number : q.number ≡ p.number
  pub splits : q.splits ≡ p.splits
  pub budget : q.budget ≡ p.budget
  pub later : Later p.number p.seen q.seen
  pub explained : Explains p.destinations q.seen
  pub callers : Known q q.seen

-- The two passes that a split makes of the first one: what is left of it, and the one of this share.
abbrev pub kept : ℕ → Held → Held
kept share p = record { desk = p.desk; destinations = p.destinations; number = 0; seen = p.seen; budget = p.budget - share; splits = p.splits + 1 }

abbrev pub split_off : ℕ → Held → Held
split_off share p = record { desk = p.desk; destinations = p.destinations; number = p.splits + 1; seen = p.seen; budget = share; splits = 0 }

-- One had seen a beginning of what the other had, and this one has then seen the longer, and has both budgets.
pub record JoinedTo (p from q : Held) : Type 0 where
  pub desk : q.desk ≡ p.desk
  pub destinations : q.destinations ≡ p.destinations
  pub number : q.number ≡ p.number
  pub splits : q.splits ≡ p.splits
  pub budget : q.budget ≡ p.budget + from.budget
  pub seen : (Begins p.seen from.seen × (q.seen ≡ from.seen)) ⊎ (Begins from.seen p.seen × (q.seen ≡ p.seen))
  pub explained : Explains p.destinations q.seen
  pub callers : Known q q.seen

-- The history that is closed with this pass, and what is told of it.
pub record ClosedAs (p : Held) (told : Closed) : Type 0 where
  pub history : List Entry
  pub explained : Explains p.destinations history
  -- it goes on from what the pass has seen, by entries of other callers
  pub later : Later p.number p.seen history
  pub room : length history + p.budget ≤ 2 ^ 62
  pub callers : Known p history
  pub calls : told.calls ≡ length history
  pub published : told.published ≡ published_in history
  pub deliveries : told.delivered ≡ min (delivered_in history) (2 ^ 64 - 1)
  pub queued : told.queued ≡ queued_in (state_of p.destinations history)
