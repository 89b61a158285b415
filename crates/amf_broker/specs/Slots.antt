-- Places that stay where they are, and where those of a client are. A device of proofs.
use Rattle.std.specs.Prelude.{◌≡◌, ℕ, ◌+◌, Bool, true, false, not, ◌==◌, ◌&&◌, ◌||◌, nat_le, nat_lt, nat_eq, if◌then◌else◌}
use Rattle.std.specs.Prelude.{List, [], ◌∷◌, length, map, filter, get_or, set, Option, Some, None}
use Rattle.std.specs.List.{list_all, list_any}
use Rattle.std.specs.declared.hash.DefaultHasher.{DefaultHasher}
use Rattle.indexmap.specs.IndexMap.{IndexMap, get}
use Rattle.amf_broker.specs.declared.slot.Slot.{Slot}
use Rattle.amf_broker.specs.declared.topic.Topic.{Topic}
use Rattle.amf_broker.specs.Machine.{is_same_topic}
use Rattle.amf_broker.specs.Delivery.{Message}
use Rattle.amf_broker.specs.Lines.{TopicLog, Span, is_reached_by, begun_anew, outlasts}
use Rattle.amf_broker.specs.Members.{Line, Listener, members_at, is_among, line_changed, line_parted, stopped, remains, ends_for}
use Rattle.amf_broker.specs.Trims.{is_owed}
use Rattle.amf_broker.specs.Index.{topic_hash}

-- the places that are still there
abbrev pub standing : List Slot → List Span
standing ss = map (λ s. s.place) (filter (λ s. s.kept) ss)

-- the place goes, unless it passes
abbrev pub kept_if : (Span → Bool) → Slot → Slot
kept_if p s = record s { kept = s.kept && p s.place }

abbrev pub with_place : (Span → Span) → Slot → Slot
with_place f s = record s { place = f s.place }

-- these subscriptions end before the message of this number, and go where nothing waits
abbrev pub slot_ended : ℕ → ℕ → (ℕ → Bool) → List TopicLog → Slot → Slot
slot_ended stop next over logs s = kept_if (remains over logs next) (with_place (stopped stop over) s)

-- the place is there, and the client's
abbrev pub is_own : ℕ → Slot → Bool
is_own k s = s.kept && s.place.client == k

-- after a poll of the client
abbrev pub slot_begun : ℕ → ℕ → Slot → Slot
slot_begun k n s = if is_own k s then with_place (begun_anew k n) (kept_if (outlasts k) s) else s

-- those of these clients end, and go where nothing waits
abbrev pub own_ended : (ℕ → Bool) → ℕ → ℕ → (ℕ → Bool) → List TopicLog → Slot → Slot
own_ended own stop next over logs s = if s.kept && own s.place.client then slot_ended stop next over logs s else s

-- the client's subscription, if it is there and live, listens no more
abbrev pub hushed : ℕ → Slot → List Line → List Line
hushed k s ls = if is_own k s && s.place.live then line_changed s.place.topic (line_parted k) ls else ls

-- where the client listens it has one of these places
abbrev pub is_heard_by : ℕ → List Span → Topic → List Line → Bool
is_heard_by k us topic ls = list_all (λ m. not (m.client == k) || list_any (is_reached_by topic) us) (members_at topic ls)

-- those of the members that are among these end, and go where nothing waits
abbrev pub members_ended : List Listener → List ℕ → ℕ → ℕ → List TopicLog → List Slot → List Slot
members_ended ms ended stop next logs ss = map (own_ended (ends_for (is_among ended) ms) stop next (is_among ended) logs) ss

-- where there is no slot
abbrev pub nothing : Slot
nothing = record { place = record { id = 0; client = 0; topic = record { destination = []; subtopic = [] }; start = 0; stop = 0; live = false }; kept = false }

abbrev pub is_own_at : ℕ → List Slot → ℕ → Bool
is_own_at k ss i = is_own k (get_or ss i nothing)

-- a place is there
abbrev pub is_kept_at : List Slot → ℕ → Bool
is_kept_at ss i = (get_or ss i nothing).kept

-- a place is there, and passes
abbrev pub stands_at : (Span → Bool) → List Slot → ℕ → Bool
stands_at p ss i = is_kept_at ss i && p (get_or ss i nothing).place

-- the place passes, if one is there
abbrev pub passes_at : (Span → Bool) → List Slot → ℕ → Bool
passes_at p ss i = not (is_kept_at ss i) || p (get_or ss i nothing).place

-- the message is not before `first`, or waits for one of these that has ended
abbrev pub is_needed_at : Topic → ℕ → List Slot → List ℕ → Message → Bool
is_needed_at topic first ss is m = nat_le first m.number || list_any (stands_at (is_owed topic m) ss) is

-- each slot that has a place of the topic is among these
abbrev pub AreAmong : Topic → List ℕ → List Slot → Type 0
AreAmong topic is ss = (i : ℕ) → stands_at (λ u. is_same_topic u.topic topic) ss i ≡ true → is_among is i ≡ true

-- the numbers from n on of those that pass
abbrev pub positions : (Slot → Bool) → ℕ → List Slot → List ℕ
positions p n [] = []
positions p n (s ∷ ss) = if p s then n ∷ positions p (n + 1) ss else positions p (n + 1) ss

-- each slot in which the client has its place is noted, in order
pub record IsFound (k : ℕ) (is : List ℕ) (ss : List Slot) : Type 0 where
  pub within : list_all (λ i. nat_lt i (length ss)) is ≡ true
  pub own : filter (is_own_at k ss) is ≡ positions (is_own k) 0 ss

-- the places of the client among those that are noted
abbrev pub own_of : ℕ → List Slot → List ℕ → List Span
own_of k ss is = map (λ i. (get_or ss i nothing).place) (filter (is_own_at k ss) is)

-- one after another is changed
abbrev pub changed_at : (Slot → Slot) → List ℕ → List Slot → List Slot
changed_at g [] ss = ss
changed_at g (i ∷ is) ss = changed_at g is (set ss i (g (get_or ss i nothing)))

abbrev pub spots_in : Option (List ℕ) → List ℕ
spots_in None = []
spots_in (Some is) = is

-- what is noted of the client, or under the hash
abbrev pub spots_of : {S : Type 0} → IndexMap ℕ (List ℕ) S → ℕ → List ℕ
spots_of m k = spots_in (get nat_eq m k)

-- all slots of each topic are noted under its hash
abbrev pub AreListed : {S : Type 0} → DefaultHasher → IndexMap ℕ (List ℕ) S → List Slot → Type 0
AreListed start m ss = (t : Topic) → AreAmong t (spots_of m (topic_hash start t)) ss
