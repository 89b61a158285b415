-- The broker as a machine: the answer to each call, and the state after it.
use Rattle.std.specs.Prelude.{ℕ, ◌+◌, Bool, not, ◌&&◌, ◌==◌, nat_lt, nat_le, ◌||◌, if◌then◌else◌, List, [], ◌∷◌, ◌++◌, length, map, filter, find, Option, Some, None, is_some, bytes_eq}
use Rattle.std.specs.List.{list_any}
use Rattle.amf_broker.specs.Limits.{most_clients, most_subs, most_queued, most_subtopic, most_message, most_idle}
use Rattle.amf_broker.specs.declared.topic.Topic.{Topic}
use Rattle.amf_broker.specs.declared.call.Call.{Call}
use Rattle.amf_broker.specs.declared.call.Call.TheVariants.{Connect, Subscribe, Unsubscribe, Publish, Poll, PollNumbered, Disconnect}
use Rattle.amf_broker.specs.declared.reply.Delivery.{Delivery}
use Rattle.amf_broker.specs.declared.reply.Reply.{Reply}
use Rattle.amf_broker.specs.declared.reply.Answer.{Answer}
use Rattle.amf_broker.specs.declared.reply.Reply.TheVariants.{Client, Subscribed, Unsubscribed, Published, Batch, Numbered, Again, Bye, Full, NoClient, NoTopic, TooLong, TooManySubs, NoSub, BadNumber}
use Rattle.amf_broker.specs.State.{State, Board, Connection, Subscription}

-- the client of this number, if it is connected
abbrev pub client_at : ℕ → List Connection → Option Connection
client_at id clients = find (λ c. c.id == id) clients

abbrev pub is_connected : ℕ → List Connection → Bool
is_connected id clients = is_some (client_at id clients)

-- the clients, with a change of the one of this number
abbrev pub at_client : ℕ → (Connection → Connection) → List Connection → List Connection
at_client id change [] = []
at_client id change (c ∷ clients) = if c.id == id then change c ∷ clients else c ∷ at_client id change clients

-- what waits for a client: its deliveries, and its subscriptions that ended and are not yet told
abbrev pub queue_in : Option Connection → List Delivery
queue_in None = []
queue_in (Some c) = c.queue

abbrev pub queue_of : ℕ → List Connection → List Delivery
queue_of id clients = queue_in (client_at id clients)

abbrev pub ended_in : Option Connection → List ℕ
ended_in None = []
ended_in (Some c) = c.ended

abbrev pub ended_of : ℕ → List Connection → List ℕ
ended_of id clients = ended_in (client_at id clients)

-- the number of the client's last numbered poll, and the batch that is kept of it
abbrev pub last_in : Option Connection → ℕ
last_in None = 0
last_in (Some c) = c.last

abbrev pub last_of : ℕ → List Connection → ℕ
last_of id clients = last_in (client_at id clients)

abbrev pub kept_in : Option Connection → List Delivery
kept_in None = []
kept_in (Some c) = c.kept

abbrev pub kept_of : ℕ → List Connection → List Delivery
kept_of id clients = kept_in (client_at id clients)

abbrev pub kept_ended_in : Option Connection → List ℕ
kept_ended_in None = []
kept_ended_in (Some c) = c.kept_ended

abbrev pub kept_ended_of : ℕ → List Connection → List ℕ
kept_ended_of id clients = kept_ended_in (client_at id clients)

-- two topics are equal where their bytes are
abbrev pub is_same_topic : Topic → Topic → Bool
is_same_topic a b = bytes_eq a.destination b.destination && bytes_eq a.subtopic b.subtopic

abbrev pub subs_of : ℕ → List Subscription → List Subscription
subs_of client subs = filter (λ u. u.client == client) subs

-- how many of a client's subscriptions are live, or ended untold
abbrev pub places_of : ℕ → Board → ℕ
places_of client b = length (subs_of client b.subs) + length (ended_of client b.clients)

-- The refusals, in their order.

abbrev pub topic_refusal : Board → Topic → Option Reply
topic_refusal b topic =
    if not (list_any (bytes_eq topic.destination) b.destinations) then Some (NoTopic topic.destination)
    else if nat_lt most_subtopic (length topic.subtopic) then Some (TooLong most_subtopic)
    else None

-- the first refusal, or else the second
abbrev pub or_then : Option Reply → Option Reply → Option Reply
or_then None second = second
or_then (Some first) second = Some first

abbrev pub client_refusal : Board → ℕ → Option Reply
client_refusal b client = if is_connected client b.clients then None else Some (NoClient client)

-- a numbered poll asks for the next batch, or for the one before once more
abbrev pub number_refusal : ℕ → ℕ → Option Reply
number_refusal last number = if number == last + 1 || (number == last && nat_le 1 last) then None else Some (BadNumber last)

abbrev pub refusal : Board → Call → Option Reply
refusal b Connect = if nat_le most_clients (length b.clients) then Some (Full most_clients) else None
refusal b (Subscribe client topic) =
    or_then (client_refusal b client) (or_then (topic_refusal b topic)
    (if nat_le most_subs (places_of client b) then Some (TooManySubs most_subs) else None))
refusal b (Unsubscribe client sub) =
    or_then (client_refusal b client)
    (if list_any (λ u. u.id == sub && u.client == client) b.subs then None else Some (NoSub sub))
refusal b (Publish client topic message) =
    or_then (client_refusal b client) (or_then (topic_refusal b topic)
    (if nat_lt most_message (length message) then Some (TooLong most_message) else None))
refusal b (Poll client) = client_refusal b client
refusal b (PollNumbered client number) = or_then (client_refusal b client) (number_refusal (last_of client b.clients) number)
refusal b (Disconnect client) = client_refusal b client

-- What is answered where nothing is refused.

-- a client that has just come
abbrev pub new_client : ℕ → ℕ → Connection
new_client id moment = record { id = id; queue = []; ended = []; seen = moment; last = 0; kept = []; kept_ended = [] }

abbrev pub connected : Board → Reply × Board
connected b = (
  Client b.next_client,
  record b {
    clients = b.clients ++ (new_client b.next_client b.moment ∷ []);
    next_client = b.next_client + 1;
  },
)

abbrev pub subscribed : Board → ℕ → Topic → Reply × Board
subscribed b client topic = (
  Subscribed b.next_sub,
  record b {
    subs = b.subs ++ (record { id = b.next_sub; client = client; topic = topic } ∷ []);
    next_sub = b.next_sub + 1;
  },
)

-- what is queued stays
abbrev pub unsubscribed : Board → ℕ → Reply × Board
unsubscribed b sub = (Unsubscribed sub, record b { subs = filter (λ u. not (u.id == sub)) b.subs })

abbrev pub with_delivery : Delivery → Connection → Connection
with_delivery d c = record c { queue = c.queue ++ (d ∷ []) }

abbrev pub with_ended : ℕ → Connection → Connection
with_ended sub c = record c { ended = c.ended ++ (sub ∷ []) }

-- the clients after a publish, and the subscriptions that it ended
pub record Spread : Type 0 where
  pub clients : List Connection
  pub ended : List ℕ

abbrev pub ended_first : ℕ → Spread → Spread
ended_first sub spread = record { clients = spread.clients; ended = sub ∷ spread.ended }

abbrev pub is_full : ℕ → List Connection → Bool
is_full client clients = nat_le most_queued (length (queue_of client clients))

-- a message reaches these subscriptions one after another. Each gets a delivery at the back of its client's queue, or ends where that queue is full
abbrev pub spread : ℕ → List ℕ → List Subscription → List Connection → Spread
spread number message [] clients = record { clients = clients; ended = [] }
spread number message (u ∷ later) clients =
    if is_full u.client clients
    then ended_first u.id (spread number message later (at_client u.client (with_ended u.id) clients))
    else spread number message later (at_client u.client (with_delivery (record { sub = u.id; number = number; message = message })) clients)

-- the live subscriptions of a topic, in order of their numbers
abbrev pub subscribers : Topic → List Subscription → List Subscription
subscribers topic subs = filter (λ u. is_same_topic u.topic topic) subs

-- those that did not end
abbrev pub still_live : List ℕ → List Subscription → List Subscription
still_live ended subs = filter (λ u. not (list_any (λ id. id == u.id) ended)) subs

abbrev pub published : Board → Topic → List ℕ → Reply × Board
published b topic message =
    let to = spread b.next_message message (subscribers topic b.subs) b.clients in (
      Published b.next_message to.ended,
      record b {
        clients = to.clients;
        subs = still_live to.ended b.subs;
        next_message = b.next_message + 1;
      },
    )

abbrev pub emptied : Connection → Connection
emptied c = record c { queue = []; ended = [] }

-- the whole queue from front to back
abbrev pub polled : Board → ℕ → Reply × Board
polled b client = (Batch (queue_of client b.clients) (ended_of client b.clients), record b { clients = at_client client emptied b.clients })

-- the batch is kept under its number
abbrev pub kept_as : ℕ → Connection → Connection
kept_as number c = record c { queue = []; ended = []; last = number; kept = c.queue; kept_ended = c.ended }

-- the next batch: what a poll hands out
abbrev pub next_batch : Board → ℕ → ℕ → Reply × Board
next_batch b client number = (
  Numbered number (queue_of client b.clients) (ended_of client b.clients),
  record b { clients = at_client client (kept_as number) b.clients },
)

-- the batch that is kept
abbrev pub same_batch : Board → ℕ → ℕ → Reply × Board
same_batch b client number = (Again number (kept_of client b.clients) (kept_ended_of client b.clients), b)

abbrev pub polled_numbered : Board → ℕ → ℕ → Reply × Board
polled_numbered b client number = if number == last_of client b.clients then same_batch b client number else next_batch b client number

-- the client's subscriptions end, and its queue is gone
abbrev pub without : ℕ → Board → Board
without client b = record b {
  clients = filter (λ c. not (c.id == client)) b.clients;
  subs = filter (λ u. not (u.client == client)) b.subs;
}

abbrev pub disconnected : Board → ℕ → Reply × Board
disconnected b client = (Bye, without client b)

abbrev pub served : Board → Call → Reply × Board
served b Connect = connected b
served b (Subscribe client topic) = subscribed b client topic
served b (Unsubscribe client sub) = unsubscribed b sub
served b (Publish client topic message) = published b topic message
served b (Poll client) = polled b client
served b (PollNumbered client number) = polled_numbered b client number
served b (Disconnect client) = disconnected b client

-- What comes before and after the reply to any call.

-- the present moment, which never falls back
abbrev pub later : ℕ → ℕ → ℕ
later present moment = if nat_le present moment then moment else present

-- no call has named the client for so long that it expires
abbrev pub is_idle : ℕ → Connection → Bool
is_idle present c = nat_le (c.seen + most_idle) present

-- the clients that expire at a call of this moment, in order of their numbers
abbrev pub expired_at : ℕ → Board → List ℕ
expired_at moment b = map (λ c. c.id) (filter (is_idle (later b.moment moment)) b.clients)

-- these clients leave one after another, each as by a Disconnect
abbrev pub without_all : List ℕ → Board → Board
without_all [] b = b
without_all (client ∷ others) b = without_all others (without client b)

abbrev pub advanced : ℕ → List ℕ → Board → Board
advanced present expired b = without_all expired (record b { moment = present })

-- the board that a call of this moment finds
abbrev pub found : ℕ → Board → Board
found moment b = advanced (later b.moment moment) (expired_at moment b) b

-- the client that a call names
abbrev pub named_by : Call → Option ℕ
named_by Connect = None
named_by (Subscribe client topic) = Some client
named_by (Unsubscribe client sub) = Some client
named_by (Publish client topic message) = Some client
named_by (Poll client) = Some client
named_by (PollNumbered client number) = Some client
named_by (Disconnect client) = Some client

abbrev pub seen_at : ℕ → Connection → Connection
seen_at present c = record c { seen = present }

-- the client, if it is connected, was seen at the present moment
abbrev pub sighted : Option ℕ → Board → Board
sighted None b = b
sighted (Some client) b = record b { clients = at_client client (seen_at b.moment) b.clients }

-- a refusal changes nothing
abbrev pub unless : Option Reply → Board → Reply × Board → Reply × Board
unless (Some refused) b otherwise = (refused, b)
unless None b otherwise = otherwise

-- the reply to a call, and the board after it
abbrev pub reply_on : Board → Call → Reply × Board
reply_on b call = unless (refusal b call) b (served b call)

-- the answer to a call
unfoldable pub answer_to : State → ℕ → Call → Answer
answer_to s moment call = record { reply = (reply_on (found moment s.board) call).0; expired = expired_at moment s.board }

-- the state after it: each answer counts as one call
unfoldable pub after : State → ℕ → Call → State
after s moment call = record { board = sighted (named_by call) (reply_on (found moment s.board) call).1; calls = s.calls + 1 }
