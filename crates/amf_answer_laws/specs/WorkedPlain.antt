-- Worked facts of plain remoting: what is answered, and in which form. It makes no call, and takes nothing.
use Rattle.std.specs.Prelude.{◌≡◌, ℕ, true, false, List, [], ◌∷◌, codes, Option, Some, None}
use Rattle.amf_graph.specs.Graph.{Value, Graph, leaf, node, double}
use Rattle.amf0_spelling.specs.declared.form.Form.{Form}
use Rattle.amf0_spelling.specs.declared.form.Form.TheVariants.{Call, Amf3, Plain}
use Rattle.amf_packet.specs.Packet.{Message}
use Rattle.flex_msgs.specs.Messages.{text_of, null_value, number_value, items_node}
use Rattle.amf_service.specs.Shipped.{shipped}
use Rattle.amf_answer_plan.specs.Causes.{cause}
use Rattle.amf_answer_plan.specs.Packets.{answer_to, message_back}
use Rattle.amf_answer_plan.specs.Plan.{Spelling, lowered, whole}
use Rattle.amf_answer_plan.specs.PlainCalls.{answer_in, fault_graph}
use Rattle.amf_answer_plan.specs.Replies.{Answer}
use Rattle.amf_answer_laws.specs.Tried.{Answers, Tried, tried}
use Rattle.amf_answer_laws.specs.WorkedClient.{spelled_all, supply, does}

abbrev pub array_of : List Value → Graph
array_of vs = record { nodes = items_node vs ∷ []; root = node 0 }

abbrev pub hi : Value
hi = text_of (codes "hi")

-- the one item of the array above
abbrev pub item : List Value → Value → Graph
item vs v = record { nodes = items_node vs ∷ []; root = v }

abbrev pub calls : (target : List ℕ) → Form → Graph → Message
calls target form g = record { target = target; response = codes "/1"; body = record { form = form; graph = g } }

abbrev pub answer : Answers → Message → Tried Answer
answer a m = tried a (answer_to shipped m) (supply [] [] [])

-- nothing has a spelling in AMF 0, and nothing has one at all
abbrev pub spelled_whole : Spelling → Option (List ℕ)
spelled_whole lowered = None
spelled_whole whole = Some []

abbrev pub only_amf3 : Answers
only_amf3 = record spelled_all { spelled = λ how g. spelled_whole how }

abbrev pub unspellable : Answers
unspellable = record spelled_all { spelled = λ how g. None }

abbrev pub says : Answer → Tried Answer
says a = does [] a

abbrev pub fails : Form → (code text : List ℕ) → Tried Answer
fails form code text = says (answer_in false form (fault_graph (cause code text)))

pub record PlainRows : Type 0 where
  pub echoes : answer spelled_all (calls (codes "echo.echo") Plain (array_of (hi ∷ []))) ≡ says (answer_in true Plain (item (hi ∷ []) hi))
  -- a call's value is the one argument
  pub echoes_a_call : answer spelled_all (calls (codes "echo.echo") Call (record { nodes = []; root = hi })) ≡ says (answer_in true Amf3 (item (hi ∷ []) hi))
  pub echoes_in_amf3 : answer spelled_all (calls (codes "echo.echo") Amf3 (array_of (hi ∷ []))) ≡ says (answer_in true Amf3 (item (hi ∷ []) hi))
  pub adds : answer spelled_all (calls (codes "sum.sum") Plain (array_of (number_value 2 ∷ number_value 3 ∷ []))) ≡ says (answer_in true Plain (record { nodes = []; root = leaf (double 0x4014000000000000) }))
  -- what has no spelling in AMF 0 is answered in AMF 3, and what has none there either is a fault, which is plain again
  pub turns_to_amf3 : answer only_amf3 (calls (codes "echo.echo") Plain (array_of (hi ∷ []))) ≡ says (answer_in true Amf3 (item (hi ∷ []) hi))
  pub no_form : answer unspellable (calls (codes "echo.echo") Plain (array_of (hi ∷ []))) ≡ fails Plain (codes "Server.NoForm") (codes "no form")
  pub no_form_in_amf3 : answer unspellable (calls (codes "echo.echo") Call (record { nodes = []; root = hi })) ≡ fails Amf3 (codes "Server.NoForm") (codes "no form")
  pub no_service : answer spelled_all (calls (codes "nobody.op") Plain (array_of [])) ≡ fails Plain (codes "Client.NoService") (codes "no such service")
  pub no_operation : answer spelled_all (calls (codes "echo.other") Plain (array_of [])) ≡ fails Plain (codes "Client.NoOperation") (codes "no such operation")
  pub service_fault : answer spelled_all (calls (codes "sum.sum") Plain (array_of (null_value ∷ []))) ≡ fails Plain (codes "Service.Fault") (codes "wrong arguments")
  -- without a dot there is no service to ask; with one, the arguments go before its name
  pub no_dot : answer spelled_all (calls (codes "echo") Plain (record { nodes = []; root = hi })) ≡ fails Plain (codes "Client.NoService") (codes "no such service")
  pub no_arguments : answer spelled_all (calls (codes "nobody.op") Plain (record { nodes = []; root = hi })) ≡ fails Plain (codes "Client.BadMessage") (codes "not a message")
  -- the fault goes to the status of the response URI
  pub to_status : message_back (codes "/1") (answer_in false Plain (array_of [])) ≡ record { target = codes "/1/onStatus"; response = codes "null"; body = record { form = Plain; graph = array_of [] } }
  pub to_result : message_back (codes "/1") (answer_in true Plain (array_of [])) ≡ record { target = codes "/1/onResult"; response = codes "null"; body = record { form = Plain; graph = array_of [] } }
