-- The nodes of messages that are written, by content.
use Rattle.std.specs.Prelude.{ℕ, suc, List, [], ◌∷◌, ◌++◌, pos, nat_lt, if◌then◌else◌}
use Rattle.amf_wire.specs.WholeNumbers.{pattern_of}
use Rattle.amf_graph.specs.Graph.{Value, leaf, node, null, integer, double, text, Traits, array, object, Node}
use Rattle.flex_msgs.specs.declared.reply.Reply.{Reply}
use Rattle.flex_msgs.specs.declared.reply.FaultText.{FaultText}
use Rattle.flex_msgs.specs.Classes.{acknowledge_traits, async_traits, command_traits, error_traits, plain_traits, ds_id_name}

abbrev pub text_of : List ℕ → Value
text_of x = leaf (text x)

abbrev pub null_value : Value
null_value = leaf null

-- an empty client is null
abbrev pub client_value : List ℕ → Value
client_value [] = null_value
client_value (b ∷ x) = text_of (b ∷ x)

abbrev pub number_value : ℕ → Value
number_value n = leaf (integer (pos n))

-- a moment of 2^53 or more is written as 0
abbrev pub stamp_of : ℕ → ℕ
stamp_of moment = pattern_of (if nat_lt moment 9007199254740992 then moment else 0)

-- the eight values that every message has, in the order of its sealed names
abbrev pub common_values : (body client : Value) (destination : List ℕ) (headers : Value) (message : List ℕ) (moment : ℕ) (correlation : List ℕ) → List Value
common_values body client destination headers message moment correlation =
    body ∷ client ∷ text_of destination ∷ headers ∷ text_of message ∷ number_value 0 ∷ leaf (double (stamp_of moment)) ∷ text_of correlation ∷ []

abbrev pub reply_values : Reply → (body headers : Value) → List Value
reply_values r body headers = common_values body (client_value r.client) r.destination headers r.message r.moment r.correlation

abbrev pub message_node : Traits → List Value → Node
message_node t vs = record { head = object t; names = []; values = vs }

-- the headers of an answer: the one member DSId
abbrev pub headers_node : List ℕ → Node
headers_node ds_id = record { head = object plain_traits; names = (ds_id_name, text_of ds_id) ∷ []; values = [] }

abbrev pub items_node : List Value → Node
items_node vs = record { head = array; names = []; values = vs }

-- The nodes that an answer adds behind n others: its headers, a sync's array, and at last the message.

abbrev pub acknowledge_nodes : Reply → Value → ℕ → List Node
acknowledge_nodes r body n = headers_node r.ds_id ∷ message_node acknowledge_traits (reply_values r body (node n)) ∷ []

abbrev pub fault_values : FaultText → List Value
fault_values f = null_value ∷ text_of f.code ∷ text_of [] ∷ text_of f.text ∷ null_value ∷ []

-- its body is null
abbrev pub error_nodes : Reply → FaultText → ℕ → List Node
error_nodes r f n = headers_node r.ds_id ∷ message_node error_traits (reply_values r null_value (node n) ++ fault_values f) ∷ []

abbrev pub command_node : ℕ → Reply → Value → Value → Node
command_node operation r body headers = message_node command_traits (reply_values r body headers ++ number_value operation ∷ [])

abbrev pub sync_nodes : Reply → List Value → ℕ → List Node
sync_nodes r batch n = headers_node r.ds_id ∷ items_node batch ∷ command_node 4 r (node (suc n)) (node n) ∷ []

-- its body is null
abbrev pub invalidate_nodes : Reply → ℕ → List Node
invalidate_nodes r n = headers_node r.ds_id ∷ command_node 10 r null_value (node n) ∷ []

-- a stored message
abbrev pub published_node : (message destination correlation : List ℕ) (moment : ℕ) (body headers : Value) → Node
published_node message destination correlation moment body headers = message_node async_traits (common_values body null_value destination headers message moment correlation)

-- the values of a stored message, but for the client
abbrev pub other_values : {X : Type 0} → List X → List X
other_values [] = []
other_values (body ∷ []) = body ∷ []
other_values (body ∷ client ∷ vs) = body ∷ vs

-- with this client, behind the body
abbrev pub with_client : {X : Type 0} → X → List X → List X
with_client client [] = []
with_client client (body ∷ vs) = body ∷ client ∷ vs

-- a delivered message: the copies of the other values, with a client
abbrev pub delivered_node : List ℕ → List Value → Node
delivered_node client others = message_node async_traits (with_client (client_value client) others)
