-- Histories at a desk: the state that one leaves, whose entries it has, and what its answers add up to.
use Rattle.std.specs.Prelude.{◌≡◌, ◌≢◌, ℕ, ◌-◌, ◌<◌, ◌^◌, min, false, List, [], ◌∷◌, ◌++◌, length, sum_by, eqb, if◌then◌else◌}
use Rattle.amf_broker.specs.declared.call.Call.{Call}
use Rattle.amf_broker.specs.declared.reply.Answer.{Answer}
use Rattle.amf_broker.specs.declared.reply.Reply.{Reply}
use Rattle.amf_broker.specs.declared.reply.Reply.TheVariants.{Published, Batch, Numbered}
use Rattle.amf_broker.specs.State.{State, first}
use Rattle.amf_broker.specs.History.{Entry, state_after, then_entry}
use Rattle.amf_broker.specs.Machine.{answer_to}
use Rattle.amf_broker.specs.Memory.{takes_none}
use Rattle.amf_desk.specs.declared.counted.CountedBroker.{CountedBroker}

abbrev pub entry : ℕ → ℕ → Call → Answer → Entry
entry by moment call answer = record { caller = by; moment = moment; call = call; answer = answer }

-- the state that a history leaves of a broker of these destinations
abbrev pub state_of : List (List ℕ) → List Entry → State
state_of destinations history = state_after (first destinations) history

-- no entry is of this caller
abbrev pub NoneBy : ℕ → List Entry → Type 0
NoneBy n [] = Unit {0}
NoneBy n (e ∷ es) = (e.caller ≢ n) × NoneBy n es

-- each entry's caller has a number below n
abbrev pub AllBelow : ℕ → List Entry → Type 0
AllBelow n [] = Unit {0}
AllBelow n (e ∷ es) = (e.caller < n) × AllBelow n es

-- zs begins with xs
abbrev pub Begins : List Entry → List Entry → Type 0
Begins xs zs = (rest : List Entry) × (zs ≡ xs ++ rest)

-- zs is xs, and then entries of others than n
abbrev pub Later : ℕ → List Entry → List Entry → Type 0
Later n xs zs = (rest : List Entry) × (zs ≡ xs ++ rest) × NoneBy n rest

-- the entries of this caller
abbrev pub own : ℕ → List Entry → List Entry
own n [] = []
own n (e ∷ es) = if eqb e.caller n then e ∷ own n es else own n es

-- 1 where a message was published
abbrev pub publishes : Reply → ℕ
publishes (Published number ended) = 1
publishes _ = 0

-- how many messages these entries published
abbrev pub published_in : List Entry → ℕ
published_in history = sum_by (λ e. publishes e.answer.reply) history

-- how many deliveries a reply hands out for the first time
abbrev pub hands_out : Reply → ℕ
hands_out (Batch deliveries ended) = length deliveries
hands_out (Numbered number deliveries ended) = length deliveries
hands_out _ = 0

-- how many deliveries these entries handed out
abbrev pub delivered_in : List Entry → ℕ
delivered_in history = sum_by (λ e. hands_out e.answer.reply) history

-- how many deliveries are queued
abbrev pub queued_in : State → ℕ
queued_in s = sum_by (λ c. length c.queue) s.board.clients

-- the broker as a history leaves it, with the counts of that history
abbrev pub counted_after : List (List ℕ) → List Entry → CountedBroker
counted_after destinations history = record {
  broker = state_of destinations history;
  published = min (published_in history) (2 ^ 64 - 1);
  delivered = min (delivered_in history) (2 ^ 64 - 1);
}

-- whatever history led to the broker, and whoever calls: the answer is the one that history gives, and the broker is then as the history leaves it with this entry
abbrev pub AnswersAs : CountedBroker → ℕ → Call → CountedBroker → Answer → Type 0
AnswersAs before moment call after answer = (destinations : List (List ℕ)) (history : List Entry) (by : ℕ) → before ≡ counted_after destinations history → (answer ≡ answer_to (state_of destinations history) moment call) × (after ≡ counted_after destinations (then_entry history by moment call answer))

-- whatever history led to the broker, its answer takes memory
abbrev pub WantsMemory : CountedBroker → ℕ → Call → Type 0
WantsMemory before moment call = (destinations : List (List ℕ)) (history : List Entry) → before ≡ counted_after destinations history → takes_none call (answer_to (state_of destinations history) moment call) ≡ false
