-- The first requests of a Flex client and their answers, byte for byte. The clock and the dice give 0.
use Rattle.std.specs.Prelude.{◌≡◌, ℕ, true, List, [], ◌∷◌, ◌++◌, codes}
use Rattle.amf_broker.specs.declared.call.Call.{Call}
use Rattle.amf_broker.specs.declared.call.Call.TheVariants.{Connect, Subscribe, Publish, Poll}
use Rattle.amf_broker.specs.declared.reply.Delivery.{Delivery}
use Rattle.amf_broker.specs.declared.reply.Reply.{Reply}
use Rattle.amf_broker.specs.declared.reply.Reply.TheVariants.{Client, Subscribed, Published, Batch}
use Rattle.amf_http.specs.Response.{response}
use Rattle.amf_service.specs.Shipped.{shipped}
use Rattle.amf_answer_plan.specs.Links.{closed, LinkEnd, answer_body}
use Rattle.amf_answer_plan.specs.Plan.{Plan, gives, ◌>>=◌, packet_in}
use Rattle.amf_answer_plan.specs.Runs.{gave, Runs}
use Rattle.amf_answer_laws.specs.WorkedClient.{first_id, zero_id, chat_topic, supply, zeros}

-- Parts.

abbrev pub eight_names : List ℕ
eight_names = 0x09 ∷ codes "body" ++ 0x11 ∷ codes "clientId" ++ 0x17 ∷ codes "destination" ++ 0x0F ∷ codes "headers" ++ 0x13 ∷ codes "messageId" ++ 0x15 ∷ codes "timeToLive" ++ 0x13 ∷ codes "timestamp" ++ 0x1B ∷ codes "correlationId"

abbrev pub command_bytes : List ℕ
command_bytes = 0x0A ∷ 0x81 ∷ 0x13 ∷ 0x4D ∷ codes "flex.messaging.messages.CommandMessage" ++ eight_names ++ 0x13 ∷ codes "operation"

abbrev pub acknowledge_bytes : List ℕ
acknowledge_bytes = 0x0A ∷ 0x81 ∷ 0x03 ∷ 0x55 ∷ codes "flex.messaging.messages.AcknowledgeMessage" ++ eight_names

abbrev pub async_bytes : List ℕ
async_bytes = 0x0A ∷ 0x81 ∷ 0x03 ∷ 0x49 ∷ codes "flex.messaging.messages.AsyncMessage" ++ eight_names

-- the double 0
abbrev pub zero_bytes : List ℕ
zero_bytes = 0x05 ∷ 0 ∷ 0 ∷ 0 ∷ 0 ∷ 0 ∷ 0 ∷ 0 ∷ 0 ∷ []

abbrev pub header_bytes : List ℕ
header_bytes = 0x0A ∷ 0x0B ∷ 0x01 ∷ 0x09 ∷ codes "DSId" ++ 0x06 ∷ 0x03 ∷ codes "1" ++ 0x01 ∷ []

-- the texts of a message's identifier
abbrev pub two : ℕ → List ℕ → List ℕ
two n x = 0x06 ∷ n ∷ x

-- the front of the packet of the request with this digit, and of its answer
abbrev pub asks : (digit : List ℕ) → List ℕ
asks digit = 0x00 ∷ 0x03 ∷ 0x00 ∷ 0x00 ∷ 0x00 ∷ 0x01 ∷ 0x00 ∷ 0x04 ∷ codes "null" ++ 0x00 ∷ 0x02 ∷ codes "/" ++ digit ++ 0xFF ∷ 0xFF ∷ 0xFF ∷ 0xFF ∷ 0x0A ∷ 0x00 ∷ 0x00 ∷ 0x00 ∷ 0x01 ∷ 0x11 ∷ []

abbrev pub tells : (digit : List ℕ) → List ℕ
tells digit = 0x00 ∷ 0x03 ∷ 0x00 ∷ 0x00 ∷ 0x00 ∷ 0x01 ∷ 0x00 ∷ 0x0B ∷ codes "/" ++ digit ++ codes "/onResult" ++ 0x00 ∷ 0x04 ∷ codes "null" ++ 0xFF ∷ 0xFF ∷ 0xFF ∷ 0xFF ∷ 0x11 ∷ []

-- Requests.

abbrev pub ping_bytes : List ℕ
ping_bytes =
    command_bytes ++ 0x0A ∷ 0x0B ∷ 0x01 ∷ 0x01 ∷ 0x01 ∷ 0x06 ∷ 0x01
    ∷ 0x0A ∷ 0x05 ∷ 0x25 ∷ codes "DSMessagingVersion" ++ 0x04 ∷ 0x01 ∷ 0x09 ∷ codes "DSId" ++ 0x06 ∷ 0x07 ∷ codes "nil" ++ 0x01
    ∷ two 0x49 first_id ++ 0x04 ∷ 0x00 ∷ 0x04 ∷ 0x00 ∷ 0x06 ∷ 0x01 ∷ 0x04 ∷ 0x05 ∷ []

abbrev pub subscribe_bytes : List ℕ
subscribe_bytes = command_bytes ++ 0x01 ∷ 0x01 ∷ two 0x09 (codes "chat") ++ header_bytes ++ two 0x05 (codes "m2") ++ 0x04 ∷ 0x00 ∷ 0x04 ∷ 0x00 ∷ 0x06 ∷ 0x01 ∷ 0x04 ∷ 0x00 ∷ []

abbrev pub publish_bytes : List ℕ
publish_bytes = async_bytes ++ two 0x05 (codes "hi") ++ 0x01 ∷ two 0x09 (codes "chat") ++ header_bytes ++ two 0x05 (codes "m3") ++ 0x04 ∷ 0x00 ∷ 0x04 ∷ 0x00 ∷ 0x06 ∷ 0x01 ∷ []

abbrev pub poll_bytes : (message : List ℕ) → List ℕ
poll_bytes message = command_bytes ++ 0x01 ∷ 0x01 ∷ 0x06 ∷ 0x01 ∷ header_bytes ++ two 0x05 message ++ 0x04 ∷ 0x00 ∷ 0x04 ∷ 0x00 ∷ 0x06 ∷ 0x01 ∷ 0x04 ∷ 0x02 ∷ []

-- Answers.

abbrev pub ping_told : List ℕ
ping_told = acknowledge_bytes ++ 0x01 ∷ 0x01 ∷ 0x06 ∷ 0x01 ∷ header_bytes ++ two 0x49 zero_id ++ 0x04 ∷ 0x00 ∷ zero_bytes ++ two 0x49 first_id

-- the DSId is a text that stands there already
abbrev pub subscribe_told : List ℕ
subscribe_told =
    acknowledge_bytes ++ 0x01 ∷ 0x06 ∷ 0x03 ∷ codes "1" ++ two 0x09 (codes "chat") ++ 0x0A ∷ 0x0B ∷ 0x01 ∷ 0x09 ∷ codes "DSId" ++ 0x06 ∷ 0x12 ∷ 0x01
    ∷ two 0x49 zero_id ++ 0x04 ∷ 0x00 ∷ zero_bytes ++ two 0x05 (codes "m2")

abbrev pub publish_told : List ℕ
publish_told = acknowledge_bytes ++ 0x01 ∷ 0x01 ∷ two 0x09 (codes "chat") ++ header_bytes ++ two 0x49 zero_id ++ 0x04 ∷ 0x00 ∷ zero_bytes ++ two 0x05 (codes "m3")

-- the message as it is stored
abbrev pub stored_bytes : List ℕ
stored_bytes = async_bytes ++ two 0x05 (codes "hi") ++ 0x01 ∷ two 0x09 (codes "chat") ++ header_bytes ++ two 0x05 (codes "m3") ++ 0x04 ∷ 0x00 ∷ zero_bytes ++ 0x06 ∷ 0x01 ∷ []

abbrev pub poll_told : List ℕ
poll_told =
    command_bytes ++ 0x09 ∷ 0x03 ∷ 0x01 ∷ 0x0A ∷ 0x81 ∷ 0x03 ∷ 0x49 ∷ codes "flex.messaging.messages.AsyncMessage" ++ 0x02 ∷ 0x04 ∷ 0x06 ∷ 0x08 ∷ 0x0A ∷ 0x0C ∷ 0x0E ∷ 0x10
    ∷ two 0x05 (codes "hi") ++ 0x06 ∷ 0x03 ∷ codes "1" ++ two 0x09 (codes "chat") ++ 0x0A ∷ 0x0B ∷ 0x01 ∷ 0x09 ∷ codes "DSId" ++ 0x06 ∷ 0x18 ∷ 0x01
    ∷ two 0x05 (codes "m3") ++ 0x04 ∷ 0x00 ∷ zero_bytes ++ 0x06 ∷ 0x01
    ∷ 0x01 ∷ 0x06 ∷ 0x01 ∷ 0x0A ∷ 0x09 ∷ 0x1C ∷ 0x06 ∷ 0x18 ∷ 0x01
    ∷ two 0x49 zero_id ++ 0x04 ∷ 0x00 ∷ zero_bytes ++ two 0x05 (codes "m4") ++ 0x04 ∷ 0x04 ∷ []

abbrev pub no_news_told : List ℕ
no_news_told = acknowledge_bytes ++ 0x01 ∷ 0x01 ∷ 0x06 ∷ 0x01 ∷ header_bytes ++ two 0x49 zero_id ++ 0x04 ∷ 0x00 ∷ zero_bytes ++ two 0x05 (codes "m5")

-- What comes of a request with this body, that asks for close.

abbrev pub for_body : List ℕ → Plan LinkEnd
for_body body = do
  p ← packet_in body
  answer_body shipped true (gives closed) p

-- one call is made, and one packet is the answer
abbrev pub Answers : (body : List ℕ) → Call → Reply → List ℕ → Type 0
Answers body call reply answer = Runs (for_body body) (supply zeros zeros (reply ∷ [])) (record { calls = (0, call) ∷ []; answers = response 200 answer true ∷ [] }) (gave closed (supply [] [] []))

abbrev pub delivery : Delivery
delivery = record { sub = 1; number = 1; message = stored_bytes }

pub record ByteRows : Type 0 where
  pub ping : Answers (asks (codes "1") ++ ping_bytes) Connect (Client 1) (tells (codes "1") ++ ping_told)
  pub subscribe : Answers (asks (codes "2") ++ subscribe_bytes) (Subscribe 1 chat_topic) (Subscribed 1) (tells (codes "2") ++ subscribe_told)
  pub publish : Answers (asks (codes "3") ++ publish_bytes) (Publish 1 chat_topic stored_bytes) (Published 1 []) (tells (codes "3") ++ publish_told)
  pub poll : Answers (asks (codes "4") ++ poll_bytes (codes "m4")) (Poll 1) (Batch (delivery ∷ []) []) (tells (codes "4") ++ poll_told)
  pub poll_again : Answers (asks (codes "5") ++ poll_bytes (codes "m5")) (Poll 1) (Batch [] []) (tells (codes "5") ++ no_news_told)
