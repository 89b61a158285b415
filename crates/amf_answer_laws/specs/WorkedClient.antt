-- The first requests of a Flex client and their answers, by content: a ping, a subscribe, a publish, a poll that has a message and one that has none. The clock and the dice give 0.
use Rattle.std.specs.Prelude.{◌≡◌, ℕ, true, List, [], ◌∷◌, codes, Some, None}
use Rattle.amf_graph.specs.Graph.{Value, leaf, node, double, Node, Graph}
use Rattle.amf_broker.specs.declared.topic.Topic.{Topic}
use Rattle.amf_broker.specs.declared.call.Call.{Call}
use Rattle.amf_broker.specs.declared.call.Call.TheVariants.{Connect, Subscribe, Publish, Poll}
use Rattle.amf_broker.specs.declared.reply.Delivery.{Delivery}
use Rattle.amf_broker.specs.declared.reply.Reply.{Reply}
use Rattle.amf_broker.specs.declared.reply.Reply.TheVariants.{Client, Subscribed, Published, Batch}
use Rattle.amf0_spelling.specs.declared.form.Form.TheVariants as form
use Rattle.amf_packet.specs.Packet.{Message}
use Rattle.flex_msgs.specs.Classes.{acknowledge_traits, async_traits, command_traits, plain_traits, ds_id_name}
use Rattle.flex_msgs.specs.Messages.{text_of, null_value, number_value, message_node, items_node, headers_node}
use Rattle.flex_msgs.specs.WorkedFlex as flex
use Rattle.flex_msgs.specs.WorkedFlex.{command_graph}
use Rattle.amf_graph.specs.Graph as graph
use Rattle.amf_service.specs.Shipped.{shipped}
use Rattle.amf_answer_plan.specs.Packets.{answer_to, null_uri}
use Rattle.amf_answer_plan.specs.Plan.{at_end}
use Rattle.amf_answer_plan.specs.Replies.{Answer, in_amf3}
use Rattle.amf_answer_plan.specs.Runs.{Supply, gave}
use Rattle.amf_answer_laws.specs.Tried.{Answers, Tried, tried}

-- The requests.

-- the identifier of the client's first message, and that of two words 0
abbrev pub first_id : List ℕ
first_id = codes "8C9E1A20-0000-4000-8000-0000000000A1"

abbrev pub zero_id : List ℕ
zero_id = codes "00000000-0000-4000-8000-000000000000"

abbrev pub one : List ℕ
one = codes "1"

abbrev pub chat : List ℕ
chat = codes "chat"

abbrev pub ping_headers : Node
ping_headers = record { head = graph.object plain_traits; names = (codes "DSMessagingVersion", number_value 1) ∷ (ds_id_name, text_of (codes "nil")) ∷ []; values = [] }

abbrev pub empty_object : Node
empty_object = record { head = graph.object plain_traits; names = []; values = [] }

abbrev pub ping : Graph
ping = command_graph (node 2) (text_of []) (node 1) (text_of first_id) (number_value 5) (ping_headers ∷ empty_object ∷ [])

abbrev pub subscribe : Graph
subscribe = flex.subscribe

abbrev pub publish : Graph
publish = flex.publish

abbrev pub poll : (message : List ℕ) → Graph
poll message = command_graph null_value (text_of []) (node 1) (text_of message) (number_value 2) (headers_node one ∷ [])

-- a call to nobody, whose argument is a message
abbrev pub flex_message : (response : List ℕ) → Graph → Message
flex_message response g = record { target = null_uri; response = response; body = record { form = form.Call; graph = g } }

-- The answers.

abbrev pub zero_double : Value
zero_double = leaf (double 0)

-- an acknowledge with a null body
abbrev pub acknowledged : (client : Value) → (destination ds_id correlation : List ℕ) → Graph
acknowledged client destination ds_id correlation = record {
  nodes = headers_node ds_id
      ∷ message_node acknowledge_traits (null_value ∷ client ∷ text_of destination ∷ node 0 ∷ text_of zero_id ∷ number_value 0 ∷ zero_double ∷ text_of correlation ∷ [])
      ∷ [];
  root = node 1;
}

-- the message as it is stored, and as it is delivered to the subscription 1
abbrev pub stored_node : (client : Value) → Node
stored_node client = message_node async_traits (text_of (codes "hi") ∷ client ∷ text_of chat ∷ node 1 ∷ text_of (codes "m3") ∷ number_value 0 ∷ zero_double ∷ text_of [] ∷ [])

abbrev pub stored : Graph
stored = record { nodes = stored_node null_value ∷ headers_node one ∷ []; root = node 0 }

-- a sync whose batch is that message
abbrev pub synced : Graph
synced = record {
  nodes = stored_node null_value ∷ headers_node one ∷ stored_node (text_of one)
      ∷ headers_node one ∷ items_node (node 2 ∷ [])
      ∷ message_node command_traits (node 4 ∷ null_value ∷ text_of [] ∷ node 3 ∷ text_of zero_id ∷ number_value 0 ∷ zero_double ∷ text_of (codes "m4") ∷ number_value 4 ∷ [])
      ∷ [];
  root = node 5;
}

-- How they are computed: every graph has a spelling, which stands for that of the stored message, and this is read back.

abbrev pub stored_bytes : List ℕ
stored_bytes = codes "stored"

abbrev pub spelled_all : Answers
spelled_all = record { spelled = λ how g. Some stored_bytes; stored = λ message. Some stored; cut = λ bytes. at_end; unpacked = λ bytes. None; packed = λ p. [] }

abbrev pub supply : (moments words : List ℕ) → List Reply → Supply
supply moments words replies = record { moments = moments; words = words; replies = replies }

-- what is done for a message, where all that there is to take is taken
abbrev pub for_message : Message → (moments words : List ℕ) → List Reply → Tried Answer
for_message m moments words replies = tried spelled_all (answer_to shipped m) (supply moments words replies)

abbrev pub does : List (ℕ × Call) → Answer → Tried Answer
does calls answer = record { did = record { calls = calls; answers = [] }; outcome = gave answer (supply [] [] []) }

abbrev pub zeros : List ℕ
zeros = 0 ∷ 0 ∷ []

abbrev pub chat_topic : Topic
chat_topic = record { destination = chat; subtopic = [] }

abbrev pub delivery : Delivery
delivery = record { sub = 1; number = 1; message = stored_bytes }

pub record ClientRows : Type 0 where
  pub pings : for_message (flex_message (codes "/1") ping) zeros zeros (Client 1 ∷ []) ≡ does ((0, Connect) ∷ []) (in_amf3 true (acknowledged null_value [] one first_id))
  pub subscribes : for_message (flex_message (codes "/2") subscribe) zeros zeros (Subscribed 1 ∷ []) ≡ does ((0, Subscribe 1 chat_topic) ∷ []) (in_amf3 true (acknowledged (text_of one) chat one (codes "m2")))
  pub publishes : for_message (flex_message (codes "/3") publish) zeros zeros (Published 1 [] ∷ []) ≡ does ((0, Publish 1 chat_topic stored_bytes) ∷ []) (in_amf3 true (acknowledged null_value chat one (codes "m3")))
  pub polls : for_message (flex_message (codes "/4") (poll (codes "m4"))) zeros zeros (Batch (delivery ∷ []) [] ∷ []) ≡ does ((0, Poll 1) ∷ []) (in_amf3 true synced)
  pub polls_again : for_message (flex_message (codes "/5") (poll (codes "m5"))) zeros zeros (Batch [] [] ∷ []) ≡ does ((0, Poll 1) ∷ []) (in_amf3 true (acknowledged null_value [] one (codes "m5")))
