-- How an AsyncMessage and a CommandMessage are answered: which call of the desk each makes, and what is said of its reply.
use Rattle.std.specs.Prelude.{ℕ, ℤ, pos, negsuc, ◌==◌, if◌then◌else◌, Bool, true, List, [], ◌∷◌, codes, bytes_eq, decimal, Option, Some, None}
use Rattle.amf_graph.specs.Graph.{Value, leaf, null, text, Graph}
use Rattle.amf_broker.specs.declared.topic.Topic.{Topic}
use Rattle.amf_broker.specs.declared.call.Call.{Call}
use Rattle.amf_broker.specs.declared.call.Call.TheVariants.{Connect, Subscribe, Unsubscribe, Publish, Poll, PollNumbered, Disconnect}
use Rattle.amf_broker.specs.declared.reply.Reply.{Reply}
use Rattle.amf_broker.specs.declared.reply.Reply.TheVariants.{Client, Subscribed, Batch, Numbered, Again}
use Rattle.flex_msgs.specs.Asked.{Told}
use Rattle.flex_msgs.specs.Answers.{published_graph}
use Rattle.flex_msgs.specs.Lookup.{pairs_of, value_named}
use Rattle.flex_msgs.specs.declared.reply.FaultText.{FaultText}
use Rattle.amf_answer_plan.specs.Batches.{batch}
use Rattle.amf_answer_plan.specs.Causes.{refusal, not_served, no_form}
use Rattle.amf_answer_plan.specs.Numbers.{number_in}
use Rattle.amf_answer_plan.specs.Plan.{Plan, whole, ◌>>=◌, moment, reply_to, spelling_of}
use Rattle.amf_answer_plan.specs.Replies.{Context, context_of, with_client, nil, Answer, error, acknowledge_null}

-- What a request names.

abbrev pub client_of : Told → ℕ
client_of t = number_in t.ds_id

abbrev pub topic_of : Told → Topic
topic_of t = record { destination = t.destination; subtopic = t.subtopic }

-- the number of a numbered poll: what is no text is no number
abbrev pub poll_number : Value → ℕ
poll_number (leaf (text x)) = number_in x
poll_number _ = 0

-- The desk.

-- a call takes a moment before it
abbrev pub ask : Call → Plan Reply
ask call = do
  m ← moment
  reply_to m call

-- the error of a refusal, and an acknowledge of every other reply
abbrev pub acknowledge_or : Context → (client : List ℕ) → Option FaultText → Plan Answer
acknowledge_or k client None = acknowledge_null k client
acknowledge_or k client (Some f) = error k f

abbrev pub acknowledged : Context → (client : List ℕ) → Reply → Plan Answer
acknowledged k client r = acknowledge_or k client (refusal r)

-- AsyncMessage: a publish. Its moment is taken before its message is spelled, and is the message's timestamp; there is no call where the message has no spelling.

abbrev pub publish_spelled : Told → (moment : ℕ) → Option (List ℕ) → Plan Answer
publish_spelled t at None = error (context_of t) no_form
publish_spelled t at (Some message) = do
  r ← reply_to at (Publish (client_of t) (topic_of t) message)
  acknowledged (context_of t) [] r

abbrev pub publish : Graph → Told → (correlation : List ℕ) → Plan Answer
publish g t correlation = do
  m ← moment
  message ← spelling_of whole (published_graph g t correlation m)
  publish_spelled t m message

-- Operation 0: subscribe. The clientId of the answer is the subscription's number.

abbrev pub say_subscribed : Context → Reply → Plan Answer
say_subscribed k (Subscribed id) = acknowledge_null k (decimal id)
say_subscribed k r = acknowledged k [] r

abbrev pub subscribe : Told → Plan Answer
subscribe t = do
  r ← ask (Subscribe (client_of t) (topic_of t))
  say_subscribed (context_of t) r

-- Operation 1: unsubscribe. The clientId names the subscription, and comes back.

abbrev pub unsubscribe : Told → Plan Answer
unsubscribe t = do
  r ← ask (Unsubscribe (client_of t) (number_in t.client))
  acknowledged (context_of t) t.client r

-- Operation 2: a poll, which is numbered where the headers have an AMFPoll that is not null.

abbrev pub named_in : List ℕ → Option (List (List ℕ × Value)) → Value
named_in x None = leaf null
named_in x (Some pairs) = value_named x pairs

abbrev pub poll_call : (client : ℕ) → (poll : Value) → Call
poll_call client (leaf null) = Poll client
poll_call client v = PollNumbered client (poll_number v)

abbrev pub say_batch : Context → Reply → Plan Answer
say_batch k (Batch deliveries ended) = batch k deliveries ended
say_batch k (Numbered number deliveries ended) = batch k deliveries ended
say_batch k (Again number deliveries ended) = batch k deliveries ended
say_batch k r = acknowledged k [] r

abbrev pub poll : Graph → Told → Plan Answer
poll g t = do
  r ← ask (poll_call (client_of t) (named_in (codes "AMFPoll") (pairs_of g t.headers)))
  say_batch (context_of t) r

-- Operation 5: a ping. It connects a client where its DSId is absent, null, empty or `nil`, and else asks nothing of the desk.

abbrev pub is_new : List ℕ → Bool
is_new [] = true
is_new (b ∷ x) = bytes_eq nil (b ∷ x)

abbrev pub say_connected : Context → Reply → Plan Answer
say_connected k (Client id) = acknowledge_null (with_client (decimal id) k) []
say_connected k r = acknowledged k [] r

abbrev pub connect : Told → Plan Answer
connect t = do
  r ← ask Connect
  say_connected (context_of t) r

abbrev pub ping : Told → Plan Answer
ping t = if is_new t.ds_id then connect t else acknowledge_null (context_of t) []

-- Operation 12: disconnect.

abbrev pub disconnect : Told → Plan Answer
disconnect t = do
  r ← ask (Disconnect (client_of t))
  acknowledged (context_of t) [] r

-- Other operations are not served.

abbrev pub by_number : Graph → Told → ℕ → Plan Answer
by_number g t n =
    if n == 0 then subscribe t else (
    if n == 1 then unsubscribe t else (
    if n == 2 then poll g t else (
    if n == 5 then ping t else (
    if n == 12 then disconnect t else
    error (context_of t) not_served))))

abbrev pub command : Graph → Told → (operation : ℤ) → Plan Answer
command g t (pos n) = by_number g t n
command g t (negsuc n) = error (context_of t) not_served
