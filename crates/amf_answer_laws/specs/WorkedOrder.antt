-- Worked facts of what is called and taken, in which order, and of messages that have no form. The supplies hold what is taken, and no more unless it is said.
use Rattle.std.specs.Prelude.{◌≡◌, ℕ, true, List, [], ◌∷◌, codes, Some, None}
use Rattle.amf_graph.specs.declared.value.Value.TheVariants.{Null}
use Rattle.amf_graph.specs.Graph.{Value, Graph, node, text}
use Rattle.amf_graph.specs.Graph as graph
use Rattle.amf_broker.specs.declared.call.Call.TheVariants.{Connect, Subscribe, Unsubscribe, Publish, Poll, PollNumbered, Disconnect}
use Rattle.amf_broker.specs.declared.reply.Reply.{Reply}
use Rattle.amf_broker.specs.declared.reply.Reply.TheVariants.{Client, Subscribed, Unsubscribed, Published, Batch, Numbered, Again, Bye, Full, NoClient, NoSub, BadNumber}
use Rattle.amf_packet.specs.Packet.{Message}
use Rattle.flex_msgs.specs.declared.reply.Reply.{Reply as Values}
use Rattle.flex_msgs.specs.Answers.{acknowledge_graph, invalidate_graph, delivered_graph, sync_graph}
use Rattle.flex_msgs.specs.Classes.{ds_id_name, plain_traits, command_traits}
use Rattle.flex_msgs.specs.Messages.{text_of, null_value, number_value, message_node}
use Rattle.flex_msgs.specs.WorkedFlex.{command_graph}
use Rattle.amf_service.specs.Shipped.{shipped}
use Rattle.amf_answer_plan.specs.Causes.{bad_message, no_form, not_served}
use Rattle.amf_answer_plan.specs.Numbers.{identifier}
use Rattle.amf_answer_plan.specs.Packets.{answer_to}
use Rattle.amf_answer_plan.specs.Plan.{at_end}
use Rattle.amf_answer_plan.specs.Replies.{Answer, in_amf3, failed, nil, no_nodes}
use Rattle.amf_answer_plan.specs.Runs.{nothing, gave, ran_out}
use Rattle.amf_answer_laws.specs.Tried.{Answers, Tried, tried}
use Rattle.amf_answer_laws.specs.WorkedClient.{one, chat, chat_topic, stored, stored_bytes, delivery, supply, flex_message, for_message, does, subscribe, publish, poll, ping}

-- the values of a reply whose words are 1 and 2
abbrev pub values : (client destination ds_id correlation : List ℕ) (moment : ℕ) → Values
values client destination ds_id correlation moment = record { body = Null; client = client; destination = destination; ds_id = ds_id; message = identifier 1 2; moment = moment; correlation = correlation }

abbrev pub acknowledge : (client destination ds_id correlation : List ℕ) (moment : ℕ) → Answer
acknowledge client destination ds_id correlation moment = in_amf3 true (acknowledge_graph (values client destination ds_id correlation moment) no_nodes null_value)

abbrev pub words : List ℕ
words = 1 ∷ 2 ∷ []

abbrev pub asks : Graph → Message
asks = flex_message (codes "/1")

-- a command with these headers, with no destination
abbrev pub command : (operation : ℕ) → (client : Value) → List (List ℕ × Value) → Graph
command operation client headers = record {
  nodes = message_node command_traits (null_value ∷ client ∷ text_of [] ∷ node 1 ∷ text_of (codes "m") ∷ number_value 0 ∷ number_value 0 ∷ text_of [] ∷ number_value operation ∷ [])
      ∷ record { head = graph.object plain_traits; names = headers; values = [] } ∷ [];
  root = node 0;
}

-- a poll of the client 1 with this AMFPoll
abbrev pub numbered : Value → Graph
numbered n = command 2 null_value ((ds_id_name, text_of one) ∷ (codes "AMFPoll", n) ∷ [])

-- what has a poll in a batch, and what is stored is no message
abbrev pub unreadable : Answers
unreadable = record { spelled = λ how g. Some stored_bytes; stored = λ message. None; cut = λ bytes. at_end; unpacked = λ bytes. None; packed = λ p. [] }

-- no graph has a spelling
abbrev pub unspellable : Answers
unspellable = record { spelled = λ how g. None; stored = λ message. Some stored; cut = λ bytes. at_end; unpacked = λ bytes. None; packed = λ p. [] }

abbrev pub by : Answers → Message → (moments words : List ℕ) → List Reply → Tried Answer
by a m moments words replies = tried a (answer_to shipped m) (supply moments words replies)

-- an invalidate of the subscription 2 whose words are 3 and 4
abbrev pub invalidate : (moment : ℕ) → Graph
invalidate moment = invalidate_graph (record { body = Null; client = codes "2"; destination = []; ds_id = one; message = identifier 3 4; moment = moment; correlation = codes "m4" })

pub record OrderRows : Type 0 where
  -- the moment of a call goes before it, and the two words and the moment of its reply behind it
  pub connects : for_message (asks ping) (7 ∷ 9 ∷ []) words (Client 12 ∷ []) ≡ does ((7, Connect) ∷ []) (acknowledge [] [] (codes "12") (codes "8C9E1A20-0000-4000-8000-0000000000A1") 9)
  -- a client that has a number is not connected again
  pub pings : for_message (asks (command 5 null_value ((ds_id_name, text_of one) ∷ []))) (9 ∷ []) words [] ≡ does [] (acknowledge [] [] one (codes "m") 9)
  pub no_headers : for_message (asks (command_graph null_value (text_of []) null_value (text_of (codes "m")) (number_value 5) [])) (7 ∷ 9 ∷ []) words (Full 1024 ∷ []) ≡ does ((7, Connect) ∷ []) (failed (values [] [] nil (codes "m") 9) (record { code = codes "Server.Full"; text = codes "too many clients" }))
  pub publishes : for_message (asks publish) (7 ∷ 9 ∷ []) words (Published 1 [] ∷ []) ≡ does ((7, Publish 1 chat_topic stored_bytes) ∷ []) (acknowledge [] chat one (codes "m3") 9)
  -- the subscription is named by the clientId, which comes back
  pub unsubscribes : for_message (asks (command 1 (text_of (codes "3")) ((ds_id_name, text_of one) ∷ []))) (7 ∷ 9 ∷ []) words (Unsubscribed 3 ∷ []) ≡ does ((7, Unsubscribe 1 3) ∷ []) (acknowledge (codes "3") [] one (codes "m") 9)
  pub no_subscription : for_message (asks (command 1 (text_of (codes "x")) ((ds_id_name, text_of one) ∷ []))) (7 ∷ 9 ∷ []) words (NoSub 0 ∷ []) ≡ does ((7, Unsubscribe 1 0) ∷ []) (failed (values [] [] one (codes "m") 9) (record { code = codes "Client.NoSub"; text = codes "no such subscription" }))
  pub disconnects : for_message (asks (command 12 null_value ((ds_id_name, text_of one) ∷ []))) (7 ∷ 9 ∷ []) words (Bye ∷ []) ≡ does ((7, Disconnect 1) ∷ []) (acknowledge [] [] one (codes "m") 9)
  -- other operations ask nothing of the desk
  pub not_served : for_message (asks (command 7 null_value [])) (9 ∷ []) words [] ≡ does [] (failed (values [] [] nil (codes "m") 9) not_served)
  -- what is no message has no context
  pub no_message : for_message (asks (record { nodes = []; root = null_value })) (9 ∷ []) words [] ≡ does [] (failed (values [] [] nil [] 9) bad_message)

pub record PollRows : Type 0 where
  -- a numbered poll, and the same once more: each answer is written afresh
  pub first_time : for_message (asks (numbered (text_of (codes "5")))) (7 ∷ 9 ∷ []) words (Numbered 5 (delivery ∷ []) [] ∷ []) ≡ does ((7, PollNumbered 1 5) ∷ []) (in_amf3 true (sync_graph (values [] [] one (codes "m") 9) (delivered_graph one stored ∷ [])))
  pub once_more : for_message (asks (numbered (text_of (codes "5")))) (8 ∷ 10 ∷ []) words (Again 5 (delivery ∷ []) [] ∷ []) ≡ does ((8, PollNumbered 1 5) ∷ []) (in_amf3 true (sync_graph (values [] [] one (codes "m") 10) (delivered_graph one stored ∷ [])))
  pub bad_number : for_message (asks (numbered (text_of (codes "5")))) (7 ∷ 9 ∷ []) words (BadNumber 2 ∷ []) ≡ does ((7, PollNumbered 1 5) ∷ []) (failed (values [] [] one (codes "m") 9) (record { code = codes "Client.BadNumber"; text = codes "bad poll number" }))
  -- what is no text is no number, and null is a poll without one
  pub no_text : for_message (asks (numbered (number_value 5))) (7 ∷ 9 ∷ []) words (BadNumber 2 ∷ []) ≡ does ((7, PollNumbered 1 0) ∷ []) (failed (values [] [] one (codes "m") 9) (record { code = codes "Client.BadNumber"; text = codes "bad poll number" }))
  pub null_number : for_message (asks (numbered null_value)) (7 ∷ 9 ∷ []) words (Batch [] [] ∷ []) ≡ does ((7, Poll 1) ∷ []) (acknowledge [] [] one (codes "m") 9)
  pub no_client : for_message (asks (command 2 null_value [])) (7 ∷ 9 ∷ []) words (NoClient 0 ∷ []) ≡ does ((7, Poll 0) ∷ []) (failed (values [] [] nil (codes "m") 9) (record { code = codes "Client.NoClient"; text = codes "no such client" }))
  -- a subscription that ended is told behind the deliveries, by an invalidate that takes two words and a moment more
  pub ended : for_message (asks (poll (codes "m4"))) (7 ∷ 9 ∷ 10 ∷ []) (1 ∷ 2 ∷ 3 ∷ 4 ∷ []) (Batch (delivery ∷ []) (2 ∷ []) ∷ []) ≡ does ((7, Poll 1) ∷ []) (in_amf3 true (sync_graph (values [] [] one (codes "m4") 9) (delivered_graph one stored ∷ invalidate 10 ∷ [])))
  pub ended_alone : for_message (asks (poll (codes "m4"))) (7 ∷ 9 ∷ 10 ∷ []) (1 ∷ 2 ∷ 3 ∷ 4 ∷ []) (Batch [] (2 ∷ []) ∷ []) ≡ does ((7, Poll 1) ∷ []) (in_amf3 true (sync_graph (values [] [] one (codes "m4") 9) (invalidate 10 ∷ [])))
  -- a batch with what is no message turns into an error that keeps all that was taken
  pub no_stored_message : by unreadable (asks (poll (codes "m4"))) (7 ∷ 9 ∷ 10 ∷ []) (1 ∷ 2 ∷ 3 ∷ 4 ∷ []) (Batch (delivery ∷ []) (2 ∷ []) ∷ []) ≡ does ((7, Poll 1) ∷ []) (failed (values [] [] one (codes "m4") 9) no_form)

pub record FormRows : Type 0 where
  -- a message without a spelling takes its moment, and makes no call
  pub nothing_published : by unspellable (asks publish) (7 ∷ 9 ∷ []) words [] ≡ does [] (failed (values [] chat one (codes "m3") 9) no_form)
  -- so has an answer without one, with its identifier and its moment, and a null client
  pub no_answer : by unspellable (asks subscribe) (7 ∷ 9 ∷ []) words (Subscribed 1 ∷ []) ≡ does ((7, Subscribe 1 chat_topic) ∷ []) (failed (values [] chat one (codes "m2") 9) no_form)

pub record RunOutRows : Type 0 where
  pub no_moment : for_message (asks publish) [] words (Published 1 [] ∷ []) ≡ record { did = nothing; outcome = ran_out }
  -- a call whose reply is not there is not made
  pub no_reply : for_message (asks publish) (7 ∷ 9 ∷ []) words [] ≡ record { did = nothing; outcome = ran_out }
  -- the call was made, and its answer wants a word, or a moment
  pub no_word : for_message (asks publish) (7 ∷ 9 ∷ []) (1 ∷ []) (Published 1 [] ∷ []) ≡ record { did = record { calls = (7, Publish 1 chat_topic stored_bytes) ∷ []; answers = [] }; outcome = ran_out }
  pub no_second_moment : for_message (asks publish) (7 ∷ []) words (Published 1 [] ∷ []) ≡ record { did = record { calls = (7, Publish 1 chat_topic stored_bytes) ∷ []; answers = [] }; outcome = ran_out }
  pub no_word_to_invalidate : for_message (asks (poll (codes "m4"))) (7 ∷ 9 ∷ 10 ∷ []) (1 ∷ 2 ∷ 3 ∷ []) (Batch [] (2 ∷ []) ∷ []) ≡ record { did = record { calls = (7, Poll 1) ∷ []; answers = [] }; outcome = ran_out }
  -- what is not taken is left
  pub left : for_message (asks publish) (7 ∷ 9 ∷ 11 ∷ []) (1 ∷ 2 ∷ 3 ∷ []) (Published 1 [] ∷ Bye ∷ []) ≡ record { did = record { calls = (7, Publish 1 chat_topic stored_bytes) ∷ []; answers = [] }; outcome = gave (acknowledge [] chat one (codes "m3") 9) (supply (11 ∷ []) (3 ∷ []) (Bye ∷ [])) }
