-- Replies to Flex requests: what they say of the request, and how a fresh one is written.
use Rattle.std.specs.Prelude.{ℕ, Bool, true, false, List, [], ◌∷◌, codes, Option, Some, None}
use Rattle.amf_graph.specs.declared.value.Value.TheVariants.{Null}
use Rattle.amf_graph.specs.Graph.{Value, Graph}
use Rattle.amf0_spelling.specs.declared.form.Form.TheVariants.{Amf3}
use Rattle.amf_packet.specs.Packet.{Body}
use Rattle.flex_msgs.specs.declared.reply.Reply.{Reply}
use Rattle.flex_msgs.specs.declared.reply.FaultText.{FaultText}
use Rattle.flex_msgs.specs.Asked.{Told}
use Rattle.flex_msgs.specs.Messages.{null_value}
use Rattle.flex_msgs.specs.Answers.{acknowledge_graph, error_graph}
use Rattle.amf_answer_plan.specs.Causes.{no_form}
use Rattle.amf_answer_plan.specs.Numbers.{identifier}
use Rattle.amf_answer_plan.specs.Plan.{Plan, whole, gives, ◌>>=◌, word, moment, spelling_of}

-- how a message of a packet is answered: with a result or a status, and a value
pub record Answer : Type 0 where
  pub well : Bool
  pub body : Body

abbrev pub in_amf3 : Bool → Graph → Answer
in_amf3 well g = record { well = well; body = record { form = Amf3; graph = g } }

-- What a reply says of its request.
pub record Context : Type 0 where
  pub destination : List ℕ
  pub ds_id : List ℕ
  pub correlation : List ℕ

-- where there is no number of a client
abbrev pub nil : List ℕ
nil = codes "nil"

abbrev pub or_nil : List ℕ → List ℕ
or_nil [] = nil
or_nil (b ∷ x) = b ∷ x

-- the request's destination, its DSId or `nil`, and its messageId
abbrev pub context_of : Told → Context
context_of t = record { destination = t.destination; ds_id = or_nil t.ds_id; correlation = t.message }

-- of what is no message, is of a class that is not served, or has a member of a wrong kind
abbrev pub no_context : Context
no_context = record { destination = []; ds_id = nil; correlation = [] }

-- a context with the number of a new client
abbrev pub with_client : List ℕ → Context → Context
with_client id k = record { destination = k.destination; ds_id = id; correlation = k.correlation }

-- the values of a reply, but for its body, which is given beside them; a client that is empty is written null
abbrev pub reply_with : Context → (client : List ℕ) → (high low moment : ℕ) → Reply
reply_with k client high low at = record { body = Null; client = client; destination = k.destination; ds_id = k.ds_id; message = identifier high low; moment = at; correlation = k.correlation }

-- a reply takes two words, which make its messageId, and then a moment, which is its timestamp
abbrev pub fresh : Context → (client : List ℕ) → Plan Reply
fresh k client = do
  high ← word
  low ← word
  m ← moment
  gives (reply_with k client high low m)

-- the error with this cause, with a reply's identifier and moment; its clientId is null
abbrev pub failed : Reply → FaultText → Answer
failed r f = in_amf3 false (error_graph (record r { client = [] }) f)

-- a result, or where it has no spelling the error that says so
abbrev pub if_spelled : Reply → Graph → Option (List ℕ) → Answer
if_spelled r g None = failed r no_form
if_spelled r g (Some b) = in_amf3 true g

abbrev pub answered : Reply → Graph → Plan Answer
answered r g = do
  b ← spelling_of whole g
  gives (if_spelled r g b)

-- an error
abbrev pub error : Context → FaultText → Plan Answer
error k f = do
  r ← fresh k []
  gives (failed r f)

-- an acknowledge whose body is a value of a graph
abbrev pub acknowledge : Context → (client : List ℕ) → Graph → Value → Plan Answer
acknowledge k client g body = do
  r ← fresh k client
  answered r (acknowledge_graph r g body)

-- an acknowledge whose body is null
abbrev pub no_nodes : Graph
no_nodes = record { nodes = []; root = null_value }

abbrev pub acknowledge_null : Context → (client : List ℕ) → Plan Answer
acknowledge_null k client = acknowledge k client no_nodes null_value
