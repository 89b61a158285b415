-- What was due to a subscription by the history, what it got by the history, and what rests in the state.
use Rattle.std.specs.Prelude.{◌≡◌, ℕ, Bool, true, false, ◌==◌, ◌||◌, if◌then◌else◌, List, [], ◌∷◌, ◌++◌, filter_map, flat_map, Option, Some, None}
use Rattle.std.specs.List.{list_any}
use Rattle.amf_broker.specs.declared.topic.Topic.{Topic}
use Rattle.amf_broker.specs.declared.call.Call.{Call}
use Rattle.amf_broker.specs.declared.call.Call.TheVariants.{Subscribe, Publish, Disconnect}
use Rattle.amf_broker.specs.declared.reply.Delivery.{Delivery}
use Rattle.amf_broker.specs.declared.reply.Reply.{Reply}
use Rattle.amf_broker.specs.declared.reply.Answer.{Answer}
use Rattle.amf_broker.specs.declared.reply.Reply.TheVariants.{Subscribed, Unsubscribed, Published, Batch, Numbered, Bye}
use Rattle.amf_broker.specs.State.{State}
use Rattle.amf_broker.specs.Machine.{is_same_topic, queue_of}
use Rattle.amf_broker.specs.History.{Entry, Leaves, then_entry}

-- a published message, with its number
pub record Message : Type 0 where
  pub number : ℕ
  pub bytes : List ℕ

-- the call is the client's Disconnect
abbrev pub disconnects : ℕ → Call → Bool
disconnects client (Disconnect c) = c == client
disconnects client _ = false

-- the client is among these
abbrev pub is_in : ℕ → List ℕ → Bool
is_in client ids = list_any (λ id. id == client) ids

-- the reply is the client's Bye
abbrev pub says_bye : ℕ → Call → Reply → Bool
says_bye client call Bye = disconnects client call
says_bye client call _ = false

-- by the entry the client expired or disconnected
abbrev pub left_by : ℕ → Call → Answer → Bool
left_by client call a = is_in client a.expired || says_bye client call a.reply

-- the client expired or disconnected in these entries
abbrev pub has_left : ℕ → List Entry → Bool
has_left client entries = list_any (λ e. left_by client e.call e.answer) entries

-- the reply ended the subscription of this client
abbrev pub ends : ℕ → ℕ → Call → Reply → Bool
ends sub client call (Unsubscribed s) = s == sub
ends sub client call (Published number ended) = is_in sub ended
ends sub client call Bye = disconnects client call
ends sub client call _ = false

-- by the entry the subscription of this client ended
abbrev pub ended_by : ℕ → ℕ → Call → Answer → Bool
ended_by sub client call a = is_in client a.expired || ends sub client call a.reply

-- the entries before the first that ended the subscription
abbrev pub while_live : ℕ → ℕ → List Entry → List Entry
while_live sub client [] = []
while_live sub client (e ∷ later) = if ended_by sub client e.call e.answer then [] else e ∷ while_live sub client later

-- the message of a publish to this topic
abbrev pub message_to : Topic → Call → Option (List ℕ)
message_to topic (Publish client at message) = if is_same_topic topic at then Some message else None
message_to topic _ = None

abbrev pub numbered : ℕ → Option (List ℕ) → Option Message
numbered n None = None
numbered n (Some message) = Some (record { number = n; bytes = message })

-- what an entry published to the topic
abbrev pub published_to : Topic → Call → Reply → Option Message
published_to topic call (Published number ended) = numbered number (message_to topic call)
published_to topic call _ = None

-- What was due to a subscription: the messages published to its topic in the entries since it began, before its end.
abbrev pub due : ℕ → ℕ → Topic → List Entry → List Message
due sub client topic since = filter_map (λ e. published_to topic e.call e.answer.reply) (while_live sub client since)

-- those deliveries that are the subscription's
abbrev pub message_for : ℕ → Delivery → Option Message
message_for sub d = if d.sub == sub then Some (record { number = d.number; bytes = d.message }) else None

abbrev pub messages_for : ℕ → List Delivery → List Message
messages_for sub deliveries = filter_map (message_for sub) deliveries

abbrev pub handed_to : ℕ → Reply → List Message
handed_to sub (Batch deliveries ended) = messages_for sub deliveries
handed_to sub (Numbered number deliveries ended) = messages_for sub deliveries
handed_to sub _ = []

-- What the subscription got: its deliveries in the replies to polls. A batch that was handed out again is not counted again.
abbrev pub got : ℕ → List Entry → List Message
got sub history = flat_map (λ e. handed_to sub e.answer.reply) history

-- What rests: its deliveries in the queue of its client.
abbrev pub rest : ℕ → ℕ → State → List Message
rest sub client s = messages_for sub (queue_of client s.board.clients)

abbrev pub IsPrefix : List Message → List Message → Type 0
IsPrefix xs ys = (more : List Message) × (xs ++ more ≡ ys)

-- The two sentences of delivery, of a subscription that began just before the entries `since`.
pub record Delivers (history since : List Entry) (s : State) (sub client : ℕ) (topic : Topic) : Type 0 where
  pub connected : has_left client since ≡ false → got sub history ++ rest sub client s ≡ due sub client topic since
  pub gone : has_left client since ≡ true → IsPrefix (got sub history) (due sub client topic since)

-- the entry began the subscription
abbrev pub Begins : Entry → ℕ → ℕ → Topic → Type 0
Begins e sub client topic = (e.call ≡ Subscribe client topic) × (e.answer.reply ≡ Subscribed sub)

-- They hold of every subscription of a history.
abbrev pub AllDelivered : List Entry → State → Type 0
AllDelivered history s =
    (earlier since : List Entry) (e : Entry) (sub client : ℕ) (topic : Topic)
    → Begins e sub client topic → history ≡ earlier ++ (e ∷ since) → Delivers history since s sub client topic

-- The law of delivery: over every legal history.
abbrev pub DeliveryHolds : Type 0
DeliveryHolds = (history : List Entry) (s : State) → Leaves history s → AllDelivered history s

-- Whichever history left s, with this entry it leaves t, and the two sentences hold of it.
abbrev pub KeepsDelivery : State → ℕ → Call → Answer → State → Type 0
KeepsDelivery s at call told t =
    (history : List Entry) (by : ℕ) → Leaves history s
    → Leaves (then_entry history by at call told) t × AllDelivered (then_entry history by at call told) t
