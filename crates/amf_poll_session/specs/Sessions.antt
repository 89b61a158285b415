-- A listener over its turns: the requests that it sends, what each brings, and where it ends. B are bodies of delivered messages.
use Rattle.std.specs.Prelude.{ℕ, ◌+◌, Bool, true, false, ◌&&◌, ◌==◌, nat_lt, if◌then◌else◌, List, [], ◌∷◌, ◌++◌, Option, Some, None, codes}
use Rattle.amf_once.specs.declared.taker.Taken.{Taken}
use Rattle.amf_once.specs.declared.taker.Taken.TheVariants.{New, Old, Ahead}
use Rattle.amf_once.specs.Taking.{judged}
use Rattle.amf_poll_session.specs.declared.request.Request.{Request}
use Rattle.amf_poll_session.specs.declared.request.Request.TheVariants.{Ping, Subscribe, Poll, Disconnect}
use Rattle.amf_poll_session.specs.Replies.{Seen, answers, bodies_in}

-- What a request brought.
pub data Turn (B : Type 0) : Type 0 where
  -- the dial for it failed
  no_link : Turn B
  -- a write, a flush or a read of its link failed
  link_fault : Turn B
  -- there was no memory to read what answers it
  starved : Turn B
  bad : ℕ → Turn B
  fault : List ℕ → List ℕ → Turn B
  -- the DSId that it tells, and the delivered bodies
  reply : List ℕ → List B → Turn B

-- the list, if there is one
abbrev pub or_empty : {X : Type 0} → Option (List X) → List X
or_empty None = []
or_empty (Some xs) = xs

-- where Result is a graph
abbrev pub turn_of : {B : Type 0} → Request → Seen B → Turn B
turn_of r seen = if answers r seen then reply (or_empty seen.ds_id) (bodies_in seen.kind seen.items) else bad 6

-- Where it ends.
pub data End : Type 0 where
  done : End
  by_fault : List ℕ → List ℕ → End
  by_bad : ℕ → End
  by_link : End
  by_memory : End

abbrev pub status_of : End → ℕ
status_of done = 0
status_of (by_fault code text) = 8
status_of (by_bad n) = 9
status_of by_link = 10
status_of by_memory = 5

-- a request with its DSId, and what it brought
pub record Sent (B : Type 0) : Type 0 where
  pub request : Request
  pub ds_id : List ℕ
  pub turn : Turn B

pub record Session (B : Type 0) : Type 0 where
  -- the request that is next
  pub request : Request
  -- the dials spent on it
  pub spent : ℕ
  pub ds_id : List ℕ
  -- the number that the taker asks
  pub asks : ℕ
  -- the bodies of the batches that were new
  pub written : List B
  -- how often it dialled
  pub dials : ℕ
  -- the link that is open, by what it has carried
  pub link : Option (List (Sent B))
  -- the links that were given back, and what each carried
  pub links : List (List (Sent B))
  -- a dial or a call of a link has failed
  pub has_lost : Bool
  pub end : Option End

abbrev pub first_session : {B : Type 0} → Session B
first_session = record { request = Ping; spent = 0; ds_id = codes "nil"; asks = 1; written = []; dials = 0; link = None; links = []; has_lost = false; end = None }

-- every link, the open one too
abbrev pub opened : {B : Type 0} → Option (List (Sent B)) → List (List (Sent B))
opened None = []
opened (Some sent) = sent ∷ []

abbrev pub all_links : {B : Type 0} → Session B → List (List (Sent B))
all_links s = s.links ++ opened s.link

-- the open link is given back
abbrev pub given_back : {B : Type 0} → Session B → Session B
given_back s = record s { link = None; links = all_links s }

-- Failures.

-- a lost link, or a reply that is cut off
abbrev pub is_loss : End → Bool
is_loss by_link = true
is_loss (by_bad n) = n == 7
is_loss _ = false

-- it is sent again after a loss
abbrev pub is_retried : Request → Bool
is_retried Ping = false
is_retried Subscribe = false
is_retried (Poll n) = true
is_retried Disconnect = true

abbrev pub most_dials : ℕ
most_dials = 3

-- the request, on which so many dials were spent, is sent again after this
abbrev pub asks_again : End → Request → ℕ → Bool
asks_again e r spent = is_loss e && is_retried r && nat_lt spent most_dials

abbrev pub end_after : End → Request → ℕ → Option End
end_after e r spent = if asks_again e r spent then None else Some e

-- the link is given back; it dials again for the same request, or ends
abbrev pub stopped : {B : Type 0} → End → Session B → Session B
stopped e s = record (given_back s) { end = end_after e s.request s.spent }

-- a dial or a call of the link failed
abbrev pub lost : {B : Type 0} → Session B → Session B
lost s = stopped by_link (record s { has_lost = true })

-- Answers.

-- the polls 1 to N, and then the disconnect
abbrev pub poll_or : ℕ → ℕ → Request
poll_or most n = if nat_lt most n then Disconnect else Poll n

-- the next request: the dial of the link that carried the one before counts as one of its own
abbrev pub goes_on : {B : Type 0} → Request → Session B → Session B
goes_on r s = record s { request = r; spent = 1 }

abbrev pub asks_next : {B : Type 0} → ℕ → Session B → Session B
asks_next most s = goes_on (poll_or most s.asks) s

abbrev pub took : {B : Type 0} → Taken → List B → Session B → Session B
took New bodies s = record s { asks = s.asks + 1; written = s.written ++ bodies }
took Old bodies s = s
took Ahead bodies s = s

abbrev pub replied : {B : Type 0} → ℕ → List ℕ → List B → Request → Session B → Session B
replied most ds bodies Ping s = goes_on Subscribe (record s { ds_id = ds })
replied most ds bodies Subscribe s = asks_next most s
replied most ds bodies (Poll n) s = asks_next most (took (judged s.asks n) bodies s)
replied most ds bodies Disconnect s = stopped done s

-- Turns.

abbrev pub dials_again : {B : Type 0} → Session B → Session B
dials_again s = record s { spent = s.spent + 1; dials = s.dials + 1 }

-- where no link is open it dials
abbrev pub linked_by : {B : Type 0} → Option (List (Sent B)) → Session B → Session B
linked_by None s = dials_again s
linked_by (Some sent) s = s

-- the link carries the request, behind what it has carried
abbrev pub carried : {B : Type 0} → Turn B → Session B → Session B
carried turn s =
    record (linked_by s.link s) { link = Some (or_empty s.link ++ record { request = s.request; ds_id = s.ds_id; turn = turn } ∷ []) }

-- it dials only where no link is open
abbrev pub missed : {B : Type 0} → Option (List (Sent B)) → Session B → Session B
missed None s = lost (dials_again s)
missed (Some sent) s = s

abbrev pub turned : {B : Type 0} → ℕ → Turn B → Session B → Session B
turned most no_link s = missed s.link s
turned most link_fault s = lost (carried link_fault s)
turned most starved s = stopped by_memory (carried starved s)
turned most (bad n) s = stopped (by_bad n) (carried (bad n) s)
turned most (fault code text) s = stopped (by_fault code text) (carried (fault code text) s)
turned most (reply ds bodies) s = replied most ds bodies s.request (carried (reply ds bodies) s)

-- nothing happens after the end
abbrev pub unless_ended : {B : Type 0} → ℕ → Option End → Turn B → Session B → Session B
unless_ended most None turn s = turned most turn s
unless_ended most (Some e) turn s = s

abbrev pub listen_from : {B : Type 0} → ℕ → List (Turn B) → Session B → Session B
listen_from most [] s = s
listen_from most (turn ∷ turns) s = listen_from most turns (unless_ended most s.end turn s)

-- the session of N polls in which these turns came
abbrev pub listen : {B : Type 0} → ℕ → List (Turn B) → Session B
listen most turns = listen_from most turns first_session
