-- What holds between a taker and its broker, whatever is lost, repeated or reordered.
use Rattle.std.proofs.Common.{◌≡◌, ℕ, ◌+◌, ◌<◌, false, List, ◌++◌, Some, None, subst, ◌⊎◌}
use Rattle.std.specs.Prelude.{Option}
use Rattle.amf_broker.specs.declared.reply.Delivery.{Delivery}
use Rattle.amf_broker.specs.History.{Leaves}
use Rattle.amf_broker.specs.Delivery.{messages_for, got}
use Rattle.amf_once.specs.Taking.{Said, fresh, repeated, other}
use Rattle.amf_once.specs.Hearing.{Below, AllSay}
use Rattle.amf_once.specs.Owners.{OnlyPolls}
use Rattle.amf_once.specs.Course.{Course, fresh_of}
use Rattle.amf_once.proofs.Held.{Held, held, Keeps}
use Rattle.amf_once.proofs.Answering.{AtMost}

-- what is held is of this number, and of this batch; or the client is gone
abbrev pub HoldsNumber : ℕ → Option Held → Type 0
HoldsNumber n None = Unit {0}
HoldsNumber n (Some h) = h.last ≡ n

abbrev pub HoldsBatch : ℕ → List Delivery → Option Held → Type 0
HoldsBatch n b None = Unit {0}
HoldsBatch n b (Some h) = h ≡ record { last = n; batch = b }

-- a number that is less than n, or n with this batch
abbrev pub Near : ℕ → List Delivery → Said → Type 0
Near n b (fresh k ds) = (k < n) ⊎ ((k ≡ n) × (ds ≡ b))
Near n b (repeated k ds) = (k < n) ⊎ ((k ≡ n) × (ds ≡ b))
Near n b other = Unit {0}

-- All that was handed out is taken: the last poll's number is the one before the number asked, and no answer has that number.
pub record Level (sub : ℕ) (w : Course) : Type 0 where
  pub last : ℕ
  pub next : w.asks ≡ last + 1
  pub held : HoldsNumber last (held w.state)
  pub answers : AllSay (Below w.asks) w.answers
  pub sum : OnlyPolls sub 1 w.calls → messages_for sub w.taken ≡ got sub w.calls

-- One batch waits: it has the number asked, and each answer of that number has it.
pub record Waits (sub : ℕ) (w : Course) : Type 0 where
  pub batch : List Delivery
  pub held : HoldsBatch w.asks batch (held w.state)
  pub answers : AllSay (Near w.asks batch) w.answers
  pub fresh : fresh_of w.asks w.answers ≡ batch
  pub sum : OnlyPolls sub 1 w.calls → messages_for sub w.taken ++ messages_for sub batch ≡ got sub w.calls

pub record Stands (sub : ℕ) (w : Course) : Type 0 where
  -- client 1 is given to nobody else
  pub sound : 1 < w.state.board.next_client
  pub legal : Leaves w.calls w.state
  pub requests : AtMost w.asks w.requests
  pub never_ahead : w.went_ahead ≡ false
  pub form : Level sub w ⊎ Waits sub w

pub keeps_number : (n : ℕ) (o p : Option Held) → Keeps o p → HoldsNumber n o → HoldsNumber n p
keeps_number n o None k h = tt
keeps_number n o (Some x) k h = subst (HoldsNumber n) k h

pub keeps_batch : (n : ℕ) (b : List Delivery) (o p : Option Held) → Keeps o p → HoldsBatch n b o → HoldsBatch n b p
keeps_batch n b o None k h = tt
keeps_batch n b o (Some x) k h = subst (HoldsBatch n b) k h

pub number_held : (n : ℕ) (h : Held) (o : Option Held) → o ≡ Some h → HoldsNumber n o → h.last ≡ n
number_held n h o e holds = subst (HoldsNumber n) e holds

pub batch_held : (n : ℕ) (b : List Delivery) (h : Held) (o : Option Held) → o ≡ Some h → HoldsBatch n b o → h ≡ record { last = n; batch = b }
batch_held n b h o e holds = subst (HoldsBatch n b) e holds
