-- What comes back of a call, which the calling end sends, our own gateway answers, and the calling end reads: by what the call of the service means.
use Rattle.amf_service.specs.Meaning as meaning
use Rattle.std.specs.Prelude.{◌≡◌, ◌≢◌, ◌⊎◌, ℕ, ◌<◌, ◌≤◌, ◌^◌, Bool, true, false, List, [], ◌∷◌, length, codes, Option, Some, None}
use Rattle.amf_wire.specs.Style.{canonical}
use Rattle.amf_graph.specs.Graph.{Value, Graph}
use Rattle.amf_graph.specs.Reached.{IsWhole}
use Rattle.amf_graph.specs.Small.{IsSmall}
use Rattle.amf3_spelling.specs.Spells3.{Spelled3}
use Rattle.amf_packet.specs.Packet.{Packet, SpelledPacket}
use Rattle.flex_msgs.specs.declared.reply.FaultText.{FaultText}
use Rattle.amf_service.specs.Meaning.{Called, given}
use Rattle.amf_service.specs.Registry.{Entry, called}
use Rattle.amf_service.specs.Shipped.{shipped, items_of}
use Rattle.amf_http.specs.Table as request
use Rattle.amf_client.specs.Asking.{IsAsk, are_arguments}
use Rattle.amf_client.specs.Laws.{OutcomesMatch}
use Rattle.amf_client.specs.Meant.{Means}
use Rattle.amf_client.specs.Outcomes.{Outcome, bad, fault, result, IsResult}
use Rattle.amf_client.specs.Table as reply
use Rattle.amf_answer_plan.specs.Causes.{no_service, no_operation, service_fault, no_form}
use Rattle.amf_answer_plan.specs.Links.{LinkEnd}
use Rattle.amf_answer_plan.specs.Packets.{null_uri, message_back, packet_back}
use Rattle.amf_answer_plan.specs.PlainCalls.{Target, at_last_dot, fault_graph}
use Rattle.amf_answer_plan.specs.Replies.{in_amf3}
use Rattle.amf_answer_plan.specs.Respond.{Responded, Responds, written}
use Rattle.amf_answer_plan.specs.RespondLaws.{AreLawful}
use Rattle.amf_answer_plan.specs.Runs.{Supply}

-- the graph has a spelling in AMF 3
abbrev pub HasForm : Graph → Type 0
HasForm g = (b : List ℕ) × Spelled3 canonical g b

-- the packet of a reply: version 3, no headers, one message, to the result or to the status of `/1`, and its body this graph in AMF 3
abbrev pub reply_packet : (well : Bool) → Graph → Packet
reply_packet well g = packet_back 3 (message_back (codes "/1") (in_amf3 well g) ∷ [])

-- a reply with this packet brings what it says; or BadReply(3), exactly where the packet is longer than the body of a reply may be
pub record Brings (p : Packet) (said o : Outcome Graph) : Type 0 where
  pub packet : List ℕ
  pub spelled : SpelledPacket canonical p packet
  pub short : length packet ≤ reply.body_limit → o ≡ said
  pub long : reply.body_limit < length packet → o ≡ bad 3

-- a result; and a fault with this code and text
abbrev pub BringsResult : Graph → Outcome Graph → Type 0
BringsResult g o = Brings (reply_packet true g) (result g) o

abbrev pub BringsFault : FaultText → Outcome Graph → Type 0
BringsFault f o = Brings (reply_packet false (fault_graph f)) (fault f.code f.text) o

-- a graph is the result, exactly where it has a spelling; else there is the fault that says so
abbrev pub BringsGraph : Graph → Outcome Graph → Type 0
BringsGraph g o = (HasForm g × BringsResult g o) ⊎ ((HasForm g → ⊥) × BringsFault no_form o)

-- what the call of a service comes to
abbrev pub BringsCall : Called → Outcome Graph → Type 0
BringsCall meaning.no_service o = BringsFault no_service o
BringsCall meaning.no_operation o = BringsFault no_operation o
BringsCall (given (meaning.fault x)) o = BringsFault (service_fault x) o
BringsCall (given (meaning.result g)) o = BringsGraph g o

-- what a target names; one without a dot names no service
abbrev pub BringsAnswer : List Entry → Option Target → (args : Graph) → Outcome Graph → Type 0
BringsAnswer services None args o = o ≡ fault no_service.code no_service.text
BringsAnswer services (Some t) args o = BringsCall (called services t.service t.operation args) o

-- what comes back of a call with this packet; BadReply(8), exactly where the packet is longer than the body of a request may be
pub record ComesBack (services : List Entry) (target : List ℕ) (args : Graph) (packet : List ℕ) (o : Outcome Graph) : Type 0 where
  pub long : request.body_limit < length packet → o ≡ bad 8
  pub short : length packet ≤ request.body_limit → BringsAnswer services (at_last_dot target) args o

-- the Result of the bytes is this and no other, a graph up to the numbers of its nodes, and no bytes are behind the reply
pub record HasResult (bytes : List ℕ) (o : Outcome Graph) : Type 0 where
  pub is : IsResult Means bytes o []
  pub alone : (p : Outcome Graph) (rest : List ℕ) → IsResult Means bytes p rest → OutcomesMatch o p

-- what may be called with what: any target but `null`, and an array without names
pub record IsCall (target : List ℕ) (args : Graph) : Type 0 where
  pub other : target ≢ null_uri
  pub whole : IsWhole args
  pub unnamed : are_arguments args ≡ true

-- The bytes of a call, and what is answered to them, whatever moments, words and replies of the desk there are.
-- That there are bytes says that the target is a text of fewer than 2^16 bytes, and that the arguments have a spelling.
-- They are fewer than 2^64, as those of a memory are: the text of a length is not told beyond.
pub record Round (services : List Entry) (target : List ℕ) (args : Graph) : Type 0 where
  pub port : ℕ
  pub low : port < 2 ^ 16
  pub asked : List ℕ
  pub ask : IsAsk port target args asked
  pub asked_fits : length asked < 2 ^ 64
  pub supply : Supply
  pub told : Responded
  pub responds : Responds services asked supply told
  pub told_fits : length (written told) < 2 ^ 64

-- what comes back of a call is the Result of what the gateway answers
abbrev pub RoundHolds : Type 0
RoundHolds =
    (services : List Entry) → AreLawful services → (target : List ℕ) (args : Graph) → IsCall target args → (r : Round services target args) →
    (o : Outcome Graph) × ComesBack services target args r.ask.packet o × HasResult (written r.told) o

-- a fault that a packet has room for, or a graph within bounds
abbrev pub IsWithin : Called → Type 0
IsWithin (given (meaning.fault x)) = meaning.IsFault x
IsWithin (given (meaning.result g)) = IsSmall g × IsWhole g
IsWithin _ = Unit {0}

-- a call is answered, once, whatever moments, words and replies of the desk there are: none of these is taken, and no call of the desk is made
abbrev pub CallIsAnswered : Type 0
CallIsAnswered =
    (services : List Entry) (target : List ℕ) (args : Graph) → IsCall target args →
    ((t : Target) → at_last_dot target ≡ Some t → IsWithin (called services t.service t.operation args)) →
    (port : ℕ) → port < 2 ^ 16 → (asked : List ℕ) → IsAsk port target args asked → length asked < 2 ^ 64 →
    (answer : List ℕ) × (end : LinkEnd) × ((s : Supply) → Responds services asked s (record { calls = []; answers = answer ∷ []; ended = Some end }))

-- the graph from this value on
abbrev pub from : Graph → Value → Graph
from g v = record { nodes = g.nodes; root = v }

-- of the echo service comes back its one argument, whatever graph that is, of which the packets are no longer than they may be
abbrev pub EchoComesBack : Type 0
EchoComesBack =
    (args : Graph) → IsWhole args → IsSmall args → (v : Value) → items_of args ≡ Some (v ∷ []) →
    (r : Round shipped (codes "echo.echo") args) → length r.ask.packet ≤ request.body_limit →
    (o : Outcome Graph) × BringsResult (from args v) o × HasResult (written r.told) o
