-- A device of proofs: how a link is answered one request at a time: what comes next, and then the rest.
use Rattle.std.specs.Prelude.{ℕ, ◌||◌, Bool, List, Option, Some, None}
use Rattle.amf_http.specs.Response.{response}
use Rattle.amf_service.specs.Registry.{Entry}
use Rattle.amf_answer_plan.specs.Links.{LinkEnd, closed, truncated, turn_away, closed_or}
use Rattle.amf_gateway.specs.Answered.{body_bytes}
use Rattle.amf_answer_plan.specs.Plan.{Plan, Cut, at_end, cut_short, turned_away, request, gives, writes, ◌>>=◌, first_request}

-- what comes next of a link: its end; a status alone, which ends it; or a packet, and then the rest of the bytes
pub data Next : Type 0 where
  over : (end : LinkEnd) → Next
  status_alone : (status : ℕ) → Next
  packet : (bytes : List ℕ) (close : Bool) (rest : List ℕ) → Next

-- a bad request where there are no bytes
abbrev pub answer_with : (close : Bool) → (rest : List ℕ) → Option (List ℕ) → Next
answer_with close rest None = status_alone 400
answer_with close rest (Some bytes) = packet bytes close rest

abbrev pub next_by : List Entry → (last : Bool) → Cut → Plan Next
next_by services last at_end = gives (over closed)
next_by services last cut_short = gives (over truncated)
next_by services last (turned_away status) = gives (status_alone status)
next_by services last (request body close rest) = do
  back ← body_bytes services body
  gives (answer_with (close || last) rest back)

-- what comes next of a link with these bytes to come; the last request is answered with close
abbrev pub next : List Entry → (last : Bool) → (bytes : List ℕ) → Plan Next
next services last bytes = do
  cut ← first_request bytes
  next_by services last cut

-- it is written, and after gives what becomes of the rest of the bytes
abbrev pub goes_on : (after : List ℕ → Plan LinkEnd) → Next → Plan LinkEnd
goes_on after (over end) = gives end
goes_on after (status_alone status) = turn_away status
goes_on after (packet bytes close rest) = writes (response 200 bytes close) (closed_or close (after rest))

-- one request more, and then the rest
abbrev pub one_more : List Entry → (last : Bool) → (after : List ℕ → Plan LinkEnd) → (bytes : List ℕ) → Plan LinkEnd
one_more services last after bytes = do
  n ← next services last bytes
  goes_on after n
