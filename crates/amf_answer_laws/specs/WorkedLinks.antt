-- Worked facts of the requests of a link, and of its end. What its bytes begin with is given, so that these facts speak of nothing else.
use Rattle.std.specs.Prelude.{◌≡◌, ℕ, ◌==◌, Bool, true, false, if◌then◌else◌, List, [], ◌∷◌, length, codes, Option, Some, None}
use Rattle.amf0_spelling.specs.declared.form.Form.TheVariants.{Plain}
use Rattle.amf_http.specs.Response.{response}
use Rattle.amf_packet.specs.Packet.{Message, Packet}
use Rattle.amf_service.specs.Shipped.{shipped}
use Rattle.amf_answer_plan.specs.Links.{LinkEnd, closed, refused, truncated, turn_away, answer_body, link, link_of}
use Rattle.amf_answer_plan.specs.Packets.{packet_back, message_back, is_long, has_long}
use Rattle.amf_answer_plan.specs.Plan.{Plan, Cut, at_end, cut_short, turned_away, request}
use Rattle.amf_answer_plan.specs.PlainCalls.{answer_in}
use Rattle.amf_answer_plan.specs.Runs.{gave}
use Rattle.amf_answer_laws.specs.Tried.{Answers, Tried, tried}
use Rattle.amf_answer_laws.specs.WorkedClient.{supply}
use Rattle.amf_answer_laws.specs.WorkedPlain.{array_of, hi, item, calls}

-- echo.echo is called, in a packet of version 3
abbrev pub asked : Packet
asked = record { version = 3; headers = []; messages = calls (codes "echo.echo") Plain (array_of (hi ∷ [])) ∷ [] }

abbrev pub told : Packet
told = packet_back 3 (message_back (codes "/1") (answer_in true Plain (item (hi ∷ []) hi)) ∷ [])

-- The bytes of a link are one byte for each request, and then 0 where they end inside one, or a status. A request whose byte is 2 asks for close.

abbrev pub cut_by : List ℕ → Cut
cut_by [] = at_end
cut_by (b ∷ rest) = if b == 0 then cut_short else (if b == 1 then request [] false rest else (if b == 2 then request [] true rest else turned_away b))

-- each packet is spelled as its version
abbrev pub given : Option Packet → Answers
given p = record { spelled = λ how g. Some []; stored = λ message. None; cut = cut_by; unpacked = λ bytes. p; packed = λ q. q.version ∷ [] }

abbrev pub linked : Option Packet → List ℕ → Tried LinkEnd
linked p bytes = tried (given p) (link shipped bytes) (supply [] [] [])

abbrev pub ends : List (List ℕ) → LinkEnd → Tried LinkEnd
ends answers e = record { did = record { calls = []; answers = answers }; outcome = gave e (supply [] [] []) }

abbrev pub ok : Bool → List ℕ
ok close = response 200 (3 ∷ []) close

pub record LinkRows : Type 0 where
  pub no_request : linked (Some asked) [] ≡ ends [] closed
  pub two_requests : linked (Some asked) (1 ∷ 1 ∷ []) ≡ ends (ok false ∷ ok false ∷ []) closed
  -- an answer to a request that asks for it closes the link, and what follows is not read
  pub asks_close : linked (Some asked) (2 ∷ 1 ∷ []) ≡ ends (ok true ∷ []) closed
  pub ends_inside : linked (Some asked) (1 ∷ 0 ∷ []) ≡ ends (ok false ∷ []) truncated
  pub is_refused : linked (Some asked) (1 ∷ 404 ∷ 1 ∷ []) ≡ ends (ok false ∷ response 404 [] true ∷ []) (refused 404)
  -- what is no packet is a bad request
  pub no_packet : linked None (1 ∷ 1 ∷ []) ≡ ends (response 400 [] true ∷ []) (refused 400)
  -- a response URI is to leave room for the suffix, and no message of a packet with one that does not is answered
  pub longest : (m : Message) → length m.response ≡ 65526 → is_long m ≡ false
  pub too_long : (m : Message) → length m.response ≡ 65527 → is_long m ≡ true
  pub long_packet : (p : Packet) (close : Bool) (rest : Plan LinkEnd) → has_long p ≡ true → answer_body shipped close rest (Some p) ≡ turn_away 400
  -- the last request that a link may have is answered with close
  pub last_request : tried (given (Some asked)) (link_of 2 shipped (1 ∷ 1 ∷ 1 ∷ [])) (supply [] [] []) ≡ ends (ok false ∷ ok true ∷ []) closed
