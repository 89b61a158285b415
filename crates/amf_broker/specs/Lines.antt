-- The clients and subscriptions of a board by logs and places. A device of proofs.
use Rattle.std.specs.Prelude.{◌≡◌, ℕ, ◌+◌, ◌≤◌, Bool, true, false, not, ◌==◌, ◌&&◌, ◌||◌, nat_lt, nat_le, if◌then◌else◌, List, [], ◌∷◌, ◌++◌, length, map, filter}
use Rattle.std.specs.List.{list_all, flat_map}
use Rattle.amf_broker.specs.declared.limits.TheConstants.{MAX_QUEUED, MAX_SUBS}
use Rattle.amf_broker.specs.declared.topic.Topic.{Topic}
use Rattle.amf_broker.specs.declared.reply.Delivery.{Delivery}
use Rattle.amf_broker.specs.State.{Board, Connection, Subscription}
use Rattle.amf_broker.specs.Machine.{is_same_topic, new_client, subs_of, ended_of, spread, Spread, subscribers, still_live}
use Rattle.amf_broker.specs.Moments.{stays, clients_left, subs_left}
use Rattle.amf_broker.specs.Delivery.{Message}
use Rattle.amf_broker.specs.Sound.{rises_by}

-- the messages of a topic, each once
pub record TopicLog : Type 0 where
  pub topic : Topic
  pub posts : List Message

-- a subscription, with its place in the log of its topic and the place where it stops
pub record Span : Type 0 where
  pub id : ℕ
  pub client : ℕ
  pub topic : Topic
  pub start : ℕ
  pub stop : ℕ
  pub live : Bool

-- a client but for its queue, of which it has the length
pub record Waiter : Type 0 where
  pub id : ℕ
  pub waiting : ℕ
  pub ended : List ℕ
  pub seen : ℕ
  pub last : ℕ
  pub kept : List Delivery
  pub kept_ended : List ℕ

abbrev pub posts_of : Topic → List TopicLog → List Message
posts_of topic [] = []
posts_of topic (l ∷ logs) = if is_same_topic topic l.topic then l.posts else posts_of topic logs

abbrev pub is_covered : ℕ → ℕ → Message → Bool
is_covered start stop m = nat_le start m.number && nat_lt m.number stop

abbrev pub delivered : ℕ → Message → Delivery
delivered sub m = record { sub = sub; number = m.number; message = m.bytes }

-- the deliveries of a subscription that wait
abbrev pub covered : List TopicLog → Span → List Delivery
covered logs u = map (delivered u.id) (filter (is_covered u.start u.stop) (posts_of u.topic logs))

abbrev pub spans_of : ℕ → List Span → List Span
spans_of client us = filter (λ u. u.client == client) us

abbrev pub gathered : List TopicLog → List Span → List Delivery
gathered logs us = flat_map (covered logs) us

-- a delivery among others in order of message numbers, after those of its number
abbrev pub put : Delivery → List Delivery → List Delivery
put d [] = d ∷ []
put d (e ∷ es) = if nat_lt d.number e.number then d ∷ e ∷ es else e ∷ put d es

abbrev pub put_all : List Delivery → List Delivery → List Delivery
put_all [] queue = queue
put_all (d ∷ ds) queue = put_all ds (put d queue)

-- what waits for a client, by message number and then by subscription
abbrev pub waits : List TopicLog → List Span → ℕ → List Delivery
waits logs us client = put_all (gathered logs (spans_of client us)) []

abbrev pub shown : List TopicLog → List Span → Waiter → Connection
shown logs us w = record { id = w.id; queue = waits logs us w.id; ended = w.ended; seen = w.seen; last = w.last; kept = w.kept; kept_ended = w.kept_ended }

abbrev pub clients_by : List TopicLog → List Span → List Waiter → List Connection
clients_by logs us ws = map (shown logs us) ws

abbrev pub subscription : Span → Subscription
subscription u = record { id = u.id; client = u.client; topic = u.topic }

abbrev pub subs_by : List Span → List Subscription
subs_by us = map subscription (filter (λ u. u.live) us)

-- a message at the back of the log of its topic
abbrev pub posted : Topic → Message → List TopicLog → List TopicLog
posted topic m [] = record { topic = topic; posts = m ∷ [] } ∷ []
posted topic m (l ∷ logs) = if is_same_topic topic l.topic then record { topic = l.topic; posts = l.posts ++ (m ∷ []) } ∷ logs else l ∷ posted topic m logs

-- the clients in order of their numbers, from n on
abbrev pub waiters_rise : ℕ → List Waiter → Bool
waiters_rise n ws = rises_by (λ w. w.id) n ws

abbrev pub waiter_at : ℕ → (Waiter → Waiter) → List Waiter → List Waiter
waiter_at k change [] = []
waiter_at k change (w ∷ ws) = if w.id == k then change w ∷ ws else w ∷ waiter_at k change ws

abbrev pub is_crowded : ℕ → List Waiter → Bool
is_crowded k [] = false
is_crowded k (w ∷ ws) = if w.id == k then nat_le MAX_QUEUED w.waiting else is_crowded k ws

abbrev pub counted : Waiter → Waiter
counted w = record w { waiting = w.waiting + 1 }

abbrev pub noted : ℕ → Waiter → Waiter
noted sub w = record w { ended = w.ended ++ (sub ∷ []) }

-- a message on its way to the subscriptions of its topic: those that it has passed, and what ended
pub record Deal : Type 0 where
  pub spans : List Span
  pub waiters : List Waiter
  pub ended : List ℕ

abbrev pub is_reached_by : Topic → Span → Bool
is_reached_by topic u = u.live && is_same_topic u.topic topic

abbrev pub dealt_as : Bool → Bool → ℕ → Deal → Span → Deal
dealt_as false full n d u = record { spans = d.spans ++ (u ∷ []); waiters = d.waiters; ended = d.ended }
dealt_as true true n d u = record { spans = d.spans ++ (u ∷ []); waiters = waiter_at u.client (noted u.id) d.waiters; ended = d.ended ++ (u.id ∷ []) }
dealt_as true false n d u = record { spans = d.spans ++ (record u { stop = n + 1 } ∷ []); waiters = waiter_at u.client counted d.waiters; ended = d.ended }

abbrev pub deal_one : Topic → ℕ → Deal → Span → Deal
deal_one topic n d u = dealt_as (is_reached_by topic u) (is_crowded u.client d.waiters) n d u

abbrev pub deal_all : Topic → ℕ → Deal → List Span → Deal
deal_all topic n d [] = d
deal_all topic n d (u ∷ us) = deal_all topic n (deal_one topic n d u) us

-- each client's count is right
abbrev pub counts : List TopicLog → List Span → List Waiter → Bool
counts logs us ws = list_all (λ w. w.waiting == length (waits logs us w.id)) ws

-- a live subscription stops past each message of its topic
abbrev pub is_above : List TopicLog → Span → Bool
is_above logs u = not u.live || list_all (λ m. nat_lt m.number u.stop) (posts_of u.topic logs)

-- these subscriptions end
abbrev pub closed : (ℕ → Bool) → Span → Span
closed over u = if over u.id then record u { live = false } else u

-- a client without its queue
abbrev pub bare : Waiter → Connection
bare w = record { id = w.id; queue = []; ended = w.ended; seen = w.seen; last = w.last; kept = w.kept; kept_ended = w.kept_ended }

abbrev pub new_waiter : ℕ → ℕ → Waiter
new_waiter id moment = record { id = id; waiting = 0; ended = []; seen = moment; last = 0; kept = []; kept_ended = [] }

abbrev pub emptied_waiter : Waiter → Waiter
emptied_waiter w = record w { waiting = 0; ended = [] }

abbrev pub kept_waiter : ℕ → List Delivery → Waiter → Waiter
kept_waiter number kept w = record w { waiting = 0; ended = []; last = number; kept = kept; kept_ended = w.ended }

abbrev pub seen_waiter : ℕ → Waiter → Waiter
seen_waiter present w = record w { seen = present }

-- after a poll of the client: what has ended is gone, and what is live begins anew
abbrev pub begun_anew : ℕ → ℕ → Span → Span
begun_anew client n u = if u.client == client then record u { start = n; stop = n } else u

abbrev pub outlasts : ℕ → Span → Bool
outlasts client u = u.live || not (u.client == client)

abbrev pub cleared : ℕ → ℕ → List Span → List Span
cleared client n us = map (begun_anew client n) (filter (outlasts client) us)

-- the clients and live subscriptions of a board, and its next numbers
pub record Floor : Type 0 where
  pub clients : List Connection
  pub subs : List Subscription
  pub next_client : ℕ
  pub next_message : ℕ

abbrev pub floor : List TopicLog → List Span → List Waiter → ℕ → ℕ → Floor
floor logs us ws next_client next_message = record { clients = clients_by logs us ws; subs = subs_by us; next_client = next_client; next_message = next_message }

abbrev pub posts_before : ℕ → List TopicLog → Bool
posts_before n logs = list_all (λ l. list_all (λ m. nat_lt m.number n) l.posts) logs

-- what is so between calls
pub record IsKept (logs : List TopicLog) (us : List Span) (ws : List Waiter) (next_client next_message : ℕ) : Type 0 where
  pub right : counts logs us ws ≡ true
  pub rise : waiters_rise 0 ws ≡ true
  pub ids : list_all (λ w. nat_lt w.id next_client) ws ≡ true
  pub own : list_all (λ u. nat_lt u.client next_client) us ≡ true
  pub stops : list_all (λ u. nat_le u.stop next_message) us ≡ true
  pub starts : list_all (λ u. nat_le u.start next_message) us ≡ true
  pub above : list_all (is_above logs) us ≡ true
  pub before : posts_before next_message logs ≡ true

-- the places and clients that are left
abbrev pub spans_left : List ℕ → List Span → List Span
spans_left ks us = filter (λ u. stays ks u.client) us

abbrev pub waiters_left : List ℕ → List Waiter → List Waiter
waiters_left ks ws = filter (λ w. stays ks w.id) ws

-- how many ends of the client are noted
abbrev pub untold_of : ℕ → List Waiter → ℕ
untold_of k [] = 0
untold_of k (w ∷ ws) = if w.id == k then length w.ended else untold_of k ws

abbrev pub live_spans : List Span → List Span
live_spans us = filter (λ u. u.live) us

abbrev pub setting_out : List Waiter → Deal
setting_out ws = record { spans = []; waiters = ws; ended = [] }

-- what the publish of a message comes to, once these clients have left
abbrev pub reached_of : Floor → List ℕ → Topic → List ℕ → Spread
reached_of f expired topic message = spread f.next_message message (subscribers topic (subs_left expired f.subs)) (clients_left expired f.clients)

-- the floor once these clients have left and a new one has come at this moment
abbrev pub with_client : List ℕ → ℕ → Floor → Floor
with_client expired present f = record f {
  clients = clients_left expired f.clients ++ (new_client f.next_client present ∷ []);
  subs = subs_left expired f.subs;
  next_client = f.next_client + 1;
}

-- once they have left and a subscription has begun
abbrev pub with_sub : List ℕ → Subscription → Floor → Floor
with_sub expired u f = record f { clients = clients_left expired f.clients; subs = subs_left expired f.subs ++ (u ∷ []) }

-- once they have left and the message has come to its topic
abbrev pub with_message : List ℕ → Topic → List ℕ → Floor → Floor
with_message expired topic message f = record f {
  clients = (reached_of f expired topic message).clients;
  subs = still_live (reached_of f expired topic message).ended (subs_left expired f.subs);
  next_message = f.next_message + 1;
}

-- once they have left no client has more than it may
abbrev pub AreFew : List ℕ → Floor → Type 0
AreFew expired f = (k : ℕ) → length (subs_of k (subs_left expired f.subs)) + length (ended_of k (clients_left expired f.clients)) ≤ MAX_SUBS

-- a client of these parts
abbrev pub waiter : ℕ → ℕ → List ℕ → ℕ → ℕ → List Delivery → List ℕ → Waiter
waiter id waiting ended seen last kept kept_ended =
    record { id = id; waiting = waiting; ended = ended; seen = seen; last = last; kept = kept; kept_ended = kept_ended }

-- a board of these parts
abbrev pub board_of : List (List ℕ) → ℕ → Floor → ℕ → Board
board_of destinations moment f next_sub = record {
  destinations = destinations;
  moment = moment;
  clients = f.clients;
  subs = f.subs;
  next_client = f.next_client;
  next_sub = next_sub;
  next_message = f.next_message;
}
