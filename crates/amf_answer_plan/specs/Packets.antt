-- How a packet is answered: message by message, in order (AMF 0, sections 4.1 to 4.3).
use Rattle.std.specs.Prelude.{ℕ, nat_lt, Bool, if◌then◌else◌, List, [], ◌∷◌, ◌++◌, length, codes, bytes_eq}
use Rattle.std.specs.List.{list_any}
use Rattle.amf_packet.specs.Packet.{Message, Packet}
use Rattle.amf_service.specs.Registry.{Entry}
use Rattle.amf_answer_plan.specs.Flex.{flex}
use Rattle.amf_answer_plan.specs.Plan.{Plan, gives, ◌>>=◌}
use Rattle.amf_answer_plan.specs.PlainCalls.{at_last_dot, plain_call}
use Rattle.amf_answer_plan.specs.Replies.{Answer}

abbrev pub null_uri : List ℕ
null_uri = codes "null"

-- a Flex request, or plain remoting
abbrev pub answer_to : List Entry → Message → Plan Answer
answer_to services m =
    if bytes_eq m.target null_uri then flex services m.body
    else plain_call services m.body (at_last_dot m.target)

-- where an answer goes: to the response URI of its request
abbrev pub suffix : Bool → List ℕ
suffix well = if well then codes "/onResult" else codes "/onStatus"

abbrev pub message_back : (response : List ℕ) → Answer → Message
message_back response a = record { target = response ++ suffix a.well; response = null_uri; body = a.body }

abbrev pub messages_back : List Entry → List Message → Plan (List Message)
messages_back services [] = gives []
messages_back services (m ∷ ms) = do
  a ← answer_to services m
  back ← messages_back services ms
  gives (message_back m.response a ∷ back)

-- a packet of the same version, without headers; those of the request are passed over
abbrev pub packet_back : (version : ℕ) → List Message → Packet
packet_back version ms = record { version = version; headers = []; messages = ms }

abbrev pub answers_to : List Entry → Packet → Plan Packet
answers_to services p = do
  back ← messages_back services p.messages
  gives (packet_back p.version back)

-- a response URI is to leave room for the suffix in 16 bits
abbrev pub is_long : Message → Bool
is_long m = nat_lt 65526 (length m.response)

abbrev pub has_long : Packet → Bool
has_long p = list_any is_long p.messages
