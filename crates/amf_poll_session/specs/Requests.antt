-- The requests of a listener, and the bytes of each: a CommandMessage in a packet (the AMF profile of Flex messaging: flex.messaging.messages).
use Rattle.std.specs.Prelude.{ℕ, List, [], ◌∷◌, codes, decimal}
use Rattle.amf_graph.specs.Graph.{Value, node, object, Node, Graph}
use Rattle.amf0_spelling.specs.declared.form.Form.TheVariants.{Call}
use Rattle.amf_packet.specs.Packet.{Packet}
use Rattle.flex_msgs.specs.Classes.{command_traits, plain_traits, ds_id_name}
use Rattle.flex_msgs.specs.Messages.{text_of, null_value, number_value, message_node, headers_node}
use Rattle.amf_poll_session.specs.declared.request.Request.{Request}
use Rattle.amf_poll_session.specs.declared.request.Request.TheVariants.{Ping, Subscribe, Poll, Disconnect}
use Rattle.amf_client.specs.Asking.{IsRequest}

-- its `messageId`, which is a poll's `AMFPoll` too
abbrev pub message_id : Request → List ℕ
message_id Ping = codes "p"
message_id Subscribe = codes "s"
message_id (Poll n) = decimal n
message_id Disconnect = codes "d"

abbrev pub operation : Request → ℕ
operation Ping = 5
operation Subscribe = 0
operation (Poll n) = 2
operation Disconnect = 12

-- a subscribe alone names a destination
abbrev pub destination_of : List ℕ → Request → Value
destination_of destination Subscribe = text_of destination
destination_of destination _ = null_value

-- the headers of a numbered poll
abbrev pub numbered_headers : (ds_id number : List ℕ) → Node
numbered_headers ds_id number = record { head = object plain_traits; names = (ds_id_name, text_of ds_id) ∷ (codes "AMFPoll", text_of number) ∷ []; values = [] }

abbrev pub request_headers : List ℕ → Request → Node
request_headers ds_id (Poll n) = numbered_headers ds_id (decimal n)
request_headers ds_id _ = headers_node ds_id

-- body, clientId, destination, headers, messageId, timeToLive, timestamp, correlationId, operation
abbrev pub request_values : List ℕ → Request → Value → List Value
request_values destination r headers =
    null_value ∷ null_value ∷ destination_of destination r ∷ headers ∷ text_of (message_id r) ∷ number_value 0 ∷ number_value 0 ∷ null_value ∷ number_value (operation r) ∷ []

-- the headers of a request, and its message
abbrev pub request_graph : List ℕ → List ℕ → Request → Graph
request_graph destination ds_id r = record { nodes = request_headers ds_id r ∷ message_node command_traits (request_values destination r (node 0)) ∷ []; root = node 1 }

-- a packet of version 3 without headers, whose one message goes to `null` and is answered to `/1`
abbrev pub request_packet : Graph → Packet
request_packet g = record { version = 3; headers = []; messages = record { target = codes "null"; response = codes "/1"; body = record { form = Call; graph = g } } ∷ [] }

-- the bytes are the request, with its head for this port
abbrev pub IsAsked : ℕ → List ℕ → List ℕ → Request → List ℕ → Type 0
IsAsked port destination ds_id r bytes = IsRequest port (request_packet (request_graph destination ds_id r)) bytes
