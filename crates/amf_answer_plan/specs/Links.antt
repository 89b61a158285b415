-- How the requests of a link are answered, one after the other, and how the link ends (RFC 9112, sections 9.3 and 9.6).
use Rattle.std.specs.Prelude.{ℕ, zero, suc, ◌==◌, ◌||◌, Bool, true, if◌then◌else◌, List, [], Option, Some, None}
use Rattle.amf_http.specs.Response.{response}
use Rattle.amf_packet.specs.Packet.{Packet}
use Rattle.amf_service.specs.Registry.{Entry}
use Rattle.amf_answer_plan.specs.Packets.{answers_to, has_long}
use Rattle.amf_answer_plan.specs.Plan.{Plan, Cut, at_end, cut_short, turned_away, request, gives, writes, ◌>>=◌, bytes_of, packet_in, first_request}

pub data LinkEnd : Type 0 where
  -- the peer ended between requests, or the last answer said that it is the last
  closed : LinkEnd
  -- a request was answered with this status
  refused : (status : ℕ) → LinkEnd
  -- the peer ended inside a request
  truncated : LinkEnd

-- the most requests of a link
abbrev pub most_requests : ℕ
most_requests = 1000

-- a status alone, which ends the link
abbrev pub turn_away : (status : ℕ) → Plan LinkEnd
turn_away status = writes (response status [] true) (gives (refused status))

-- the link ends after an answer that closes it, and else goes on
abbrev pub closed_or : (close : Bool) → Plan LinkEnd → Plan LinkEnd
closed_or close rest = if close then gives closed else rest

-- a body that is one packet, of which no response URI is too long, is answered by a packet; any other is a bad request
abbrev pub answer_packet : List Entry → (close : Bool) → Plan LinkEnd → Packet → Plan LinkEnd
answer_packet services close rest p = do
  back ← answers_to services p
  bytes ← bytes_of back
  writes (response 200 bytes close) (closed_or close rest)

abbrev pub answer_body : List Entry → (close : Bool) → Plan LinkEnd → Option Packet → Plan LinkEnd
answer_body services close rest None = turn_away 400
answer_body services close rest (Some p) = if has_long p then turn_away 400 else answer_packet services close rest p

-- a request is answered before what follows it is looked at; after gives what becomes of the rest of the bytes
abbrev pub answer_request : List Entry → (last : Bool) → (after : List ℕ → Plan LinkEnd) → Cut → Plan LinkEnd
answer_request services last after at_end = gives closed
answer_request services last after cut_short = gives truncated
answer_request services last after (turned_away status) = turn_away status
answer_request services last after (request body close rest) = do
  p ← packet_in body
  answer_body services (close || last) (after rest) p

-- so many requests more; the last of them is answered with close
abbrev pub link_of : ℕ → List Entry → List ℕ → Plan LinkEnd
link_of zero services bytes = gives closed
link_of (suc n) services bytes = do
  cut ← first_request bytes
  answer_request services (n == 0) (link_of n services) cut

-- the whole of a link, with these bytes to come
abbrev pub link : List Entry → List ℕ → Plan LinkEnd
link services bytes = link_of most_requests services bytes
