-- The subscriptions that listen to a topic, in the line of the topic. A device of proofs.
use Rattle.std.specs.Prelude.{◌≡◌, ℕ, ◌+◌, Bool, true, false, not, ◌==◌, ◌&&◌, ◌||◌, if◌then◌else◌, List, [], ◌∷◌, ◌++◌, length, map, filter, Option, Some, None}
use Rattle.std.specs.List.{list_all, list_any, cons_option}
use Rattle.amf_broker.specs.declared.topic.Topic.{Topic}
use Rattle.amf_broker.specs.declared.reply.Delivery.{Delivery}
use Rattle.amf_broker.specs.Machine.{is_same_topic}
use Rattle.amf_broker.specs.Delivery.{Message}
use Rattle.amf_broker.specs.Moments.{stays}
use Rattle.amf_broker.specs.Lines.{TopicLog, Span, Waiter, Floor, floor, IsKept, is_reached_by, is_crowded, waiter_at, counted, noted, is_covered, delivered, posts_of}

-- a live subscription
pub record Listener : Type 0 where
  pub sub : ℕ
  pub client : ℕ

-- the messages of a topic, each once, and the live subscriptions, in order of their numbers
pub record Line : Type 0 where
  pub topic : Topic
  pub posts : List Message
  pub members : List Listener

abbrev pub log_of : Line → TopicLog
log_of l = record { topic = l.topic; posts = l.posts }

abbrev pub logs_of : List Line → List TopicLog
logs_of ls = map log_of ls

abbrev pub is_present : ℕ → List Waiter → Bool
is_present k ws = list_any (λ w. w.id == k) ws

abbrev pub listener : Span → Listener
listener u = record { sub = u.id; client = u.client }

-- those that a message of the topic reaches
abbrev pub members_in : Topic → List Span → List Listener
members_in topic us = map listener (filter (is_reached_by topic) us)

-- those that stand in the line of the topic
abbrev pub members_at : Topic → List Line → List Listener
members_at topic [] = []
members_at topic (l ∷ ls) = if is_same_topic topic l.topic then l.members else members_at topic ls

-- no two lines are of one topic
abbrev pub are_apart : List Line → Bool
are_apart [] = true
are_apart (l ∷ ls) = not (list_any (λ x. is_same_topic l.topic x.topic) ls) && are_apart ls

-- the client of a live subscription is there
abbrev pub is_at_home : List Waiter → Span → Bool
is_at_home ws u = not u.live || is_present u.client ws

-- A live subscription has no stop: it is shown as if it stopped at the next message.
abbrev pub raised : ℕ → Span → Span
raised next u = if u.live then record u { stop = next } else u

-- the deliveries of a place as it is shown, of these messages
abbrev pub covered_in : ℕ → Span → List Message → List Delivery
covered_in next u posts = map (delivered u.id) (filter (is_covered (raised next u).start (raised next u).stop) posts)

-- what is so between calls
pub record IsLined (ls : List Line) (us : List Span) (ws : List Waiter) (next_client next_message : ℕ) : Type 0 where
  pub kept : IsKept (logs_of ls) (map (raised next_message) us) ws next_client next_message
  pub listed : (topic : Topic) → members_at topic ls ≡ members_in topic us
  pub home : list_all (is_at_home ws) us ≡ true
  pub apart : are_apart ls ≡ true

abbrev pub floor_of : List Line → List Span → List Waiter → ℕ → ℕ → Floor
floor_of ls us ws next_client next_message = floor (logs_of ls) (map (raised next_message) us) ws next_client next_message

-- A message comes to a member, and to one after another.

abbrev pub waiters_by : Listener → List Waiter → List Waiter
waiters_by m ws = if is_crowded m.client ws then waiter_at m.client (noted m.sub) ws else waiter_at m.client counted ws

abbrev pub ended_by_member : Listener → List Waiter → Option ℕ
ended_by_member m ws = if is_crowded m.client ws then Some m.sub else None

abbrev pub waiters_after : List Listener → List Waiter → List Waiter
waiters_after [] ws = ws
waiters_after (m ∷ ms) ws = waiters_after ms (waiters_by m ws)

abbrev pub ended_after : List Listener → List Waiter → List ℕ
ended_after [] ws = []
ended_after (m ∷ ms) ws = cons_option (ended_by_member m ws) (ended_after ms (waiters_by m ws))

abbrev pub members_of : ℕ → List Listener → List Listener
members_of k ms = filter (λ m. m.client == k) ms

-- Changes of a line.

-- the message comes to the back, if someone listens
abbrev pub with_post : Message → Line → Line
with_post m l = if length l.members == 0 then l else record l { posts = l.posts ++ (m ∷ []) }

-- a message at the back of the line of its topic
abbrev pub posted_line : Topic → Message → List Line → List Line
posted_line topic m [] = []
posted_line topic m (l ∷ ls) = if is_same_topic topic l.topic then with_post m l ∷ ls else l ∷ posted_line topic m ls

abbrev pub with_member : Listener → Line → Line
with_member m l = record l { members = l.members ++ (m ∷ []) }

-- these clients have left
abbrev pub line_left : List ℕ → Line → Line
line_left ks l = record l { members = filter (λ m. stays ks m.client) l.members }

abbrev pub lines_left : List ℕ → List Line → List Line
lines_left ks ls = map (line_left ks) ls

-- the client has left
abbrev pub line_parted : ℕ → Line → Line
line_parted k l = record l { members = filter (λ m. not (m.client == k)) l.members }

-- a member listens to the line of its topic, or to a new one
abbrev pub enlisted : Topic → Listener → List Line → List Line
enlisted topic m [] = record { topic = topic; posts = []; members = m ∷ [] } ∷ []
enlisted topic m (l ∷ ls) = if is_same_topic topic l.topic then with_member m l ∷ ls else l ∷ enlisted topic m ls

-- these subscriptions have ended
abbrev pub line_without : (ℕ → Bool) → Line → Line
line_without over l = record l { members = filter (λ m. not (over m.sub)) l.members }

-- the subscription is one of these
abbrev pub is_among : List ℕ → ℕ → Bool
is_among subs sub = list_any (λ id. id == sub) subs

-- a live subscription ends before the next message
abbrev pub stopped : ℕ → (ℕ → Bool) → Span → Span
stopped next over u = if u.live && over u.id then record u { stop = next; live = false } else u

-- a line of the topic is changed
abbrev pub line_changed : Topic → (Line → Line) → List Line → List Line
line_changed topic f [] = []
line_changed topic f (l ∷ ls) = if is_same_topic topic l.topic then f l ∷ ls else l ∷ line_changed topic f ls

-- these are in the line of the topic alone
abbrev pub AreAlone : Topic → List ℕ → List Line → Type 0
AreAlone topic ended ls = line_changed topic (line_without (is_among ended)) ls ≡ map (line_without (is_among ended)) ls

-- it ends, if its client is one of these
abbrev pub stopped_of : (ℕ → Bool) → ℕ → (ℕ → Bool) → Span → Span
stopped_of own stop over u = if own u.client then stopped stop over u else u

-- it is live, or something waits
abbrev pub is_waited : List TopicLog → Span → Bool
is_waited logs u = u.live || list_any (is_covered u.start u.stop) (posts_of u.topic logs)

-- it is none of these, or it is live, or something waits
abbrev pub remains : (ℕ → Bool) → List TopicLog → ℕ → Span → Bool
remains over logs next u = not (over u.id) || is_waited logs (raised next u)

-- its client is none of these, or it remains
abbrev pub remains_of : (ℕ → Bool) → (ℕ → Bool) → List TopicLog → ℕ → Span → Bool
remains_of own over logs next u = not (own u.client) || remains over logs next u

-- one of the members that end is this client's
abbrev pub ends_for : (ℕ → Bool) → List Listener → ℕ → Bool
ends_for over ms k = list_any (λ m. over m.sub && k == m.client) ms

-- those that end are of clients of these members
abbrev pub are_of : List Listener → List ℕ → List Span → Bool
are_of ms ended us = list_all (λ u. not (u.live && is_among ended u.id) || ends_for (is_among ended) ms u.client) us

-- the places once these subscriptions of these clients have ended before the message of this number, if there are any
abbrev pub spans_ended : (ℕ → Bool) → List ℕ → ℕ → List TopicLog → List Span → List Span
spans_ended own [] number logs us = us
spans_ended own (sub ∷ subs) number logs us = filter (remains_of own (λ id. list_any (λ x. x == id) (sub ∷ subs)) logs (number + 1)) (map (stopped number (λ id. list_any (λ x. x == id) (sub ∷ subs))) us)

-- once those of the members that are among these have ended
abbrev pub spans_after : List Listener → List ℕ → ℕ → List TopicLog → List Span → List Span
spans_after ms ended number logs us = spans_ended (ends_for (is_among ended) ms) ended number logs us
