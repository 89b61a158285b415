-- How plain remoting is answered: a message of a packet whose target names a service and an operation (AMF 0, section 4.3).
use Rattle.std.specs.Prelude.{ℕ, ◌==◌, Bool, true, false, if◌then◌else◌, List, [], ◌∷◌, codes, Option, Some, None}
use Rattle.amf_graph.specs.Graph.{Value, leaf, node, text, object, Node, Graph}
use Rattle.amf0_spelling.specs.declared.form.Form.{Form}
use Rattle.amf0_spelling.specs.declared.form.Form.TheVariants.{Call, Amf3, Plain}
use Rattle.amf_packet.specs.Packet.{Body}
use Rattle.flex_msgs.specs.declared.reply.FaultText.{FaultText}
use Rattle.flex_msgs.specs.Answers.{rooted_behind}
use Rattle.flex_msgs.specs.Classes.{plain_traits}
use Rattle.flex_msgs.specs.Messages.{items_node}
use Rattle.amf_service.specs.Meaning.{result, fault, Called, given}
use Rattle.amf_service.specs.Meaning as meaning
use Rattle.amf_service.specs.Registry.{Entry, called}
use Rattle.amf_service.specs.Shipped.{items_of}
use Rattle.amf_answer_plan.specs.Causes.{bad_message, no_service, no_operation, service_fault, no_form}
use Rattle.amf_answer_plan.specs.Plan.{Plan, lowered, whole, gives, ◌>>=◌, spelling_of}
use Rattle.amf_answer_plan.specs.Replies.{Answer}

-- The target: the service is what stands before the last dot, the operation what stands after it.

pub record Target : Type 0 where
  pub service : List ℕ
  pub operation : List ℕ

-- with a byte before what was found behind it
abbrev pub behind : ℕ → List ℕ → Option Target → Option Target
behind b x (Some t) = Some (record { service = b ∷ t.service; operation = t.operation })
behind b x None = if b == 46 then Some (record { service = []; operation = x }) else None

abbrev pub at_last_dot : List ℕ → Option Target
at_last_dot [] = None
at_last_dot (b ∷ x) = behind b x (at_last_dot x)

-- The arguments: of a call a new array whose one item is the root, and else the body's graph, where its root is an array without names.

abbrev pub in_array : Graph → Graph
in_array g = rooted_behind 0 g.nodes (λ n. items_node (g.root ∷ []) ∷ [])

abbrev pub if_array : {X : Type 0} → Graph → Option X → Option Graph
if_array g None = None
if_array g (Some items) = Some g

-- the graph itself, where its root is an array without names
abbrev pub as_items : Graph → Option Graph
as_items g = if_array g (items_of g)

abbrev pub arguments : Form → Graph → Option Graph
arguments Call g = Some (in_array g)
arguments _ g = as_items g

abbrev pub body_arguments : Body → Option Graph
body_arguments body = arguments body.form body.graph

-- The answer: plain where the request was plain and the value has a spelling in AMF 0, and else in AMF 3, if it has one there.

abbrev pub answer_in : Bool → Form → Graph → Answer
answer_in well form g = record { well = well; body = record { form = form; graph = g } }

-- the form in which a value is answered, if it has a spelling in one
abbrev pub if_amf3 : Option (List ℕ) → Option Form
if_amf3 None = None
if_amf3 (Some b) = Some Amf3

abbrev pub form_in_amf3 : Graph → Plan (Option Form)
form_in_amf3 g = do
  b ← spelling_of whole g
  gives (if_amf3 b)

abbrev pub if_plain : Graph → Option (List ℕ) → Plan (Option Form)
if_plain g None = form_in_amf3 g
if_plain g (Some b) = gives (Some Plain)

abbrev pub form_for : Form → Graph → Plan (Option Form)
form_for Plain g = do
  b ← spelling_of lowered g
  if_plain g b
form_for _ g = form_in_amf3 g

-- a fault, of texts alone, has a spelling in every form
abbrev pub text_value : List ℕ → Value
text_value x = leaf (text x)

abbrev pub fault_node : FaultText → Node
fault_node f = record { head = object plain_traits; names = (codes "code", text_value f.code) ∷ (codes "description", text_value f.text) ∷ (codes "level", text_value (codes "error")) ∷ []; values = [] }

abbrev pub fault_graph : FaultText → Graph
fault_graph f = record { nodes = fault_node f ∷ []; root = node 0 }

abbrev pub reply_form : Form → Form
reply_form Plain = Plain
reply_form _ = Amf3

abbrev pub failed : Form → FaultText → Answer
failed form f = answer_in false (reply_form form) (fault_graph f)

abbrev pub if_formed : Form → Graph → Option Form → Answer
if_formed form g None = failed form no_form
if_formed form g (Some found) = answer_in true found g

abbrev pub succeeded : Form → Graph → Plan Answer
succeeded form g = do
  found ← form_for form g
  gives (if_formed form g found)

abbrev pub outcome : Form → Called → Plan Answer
outcome form meaning.no_service = gives (failed form no_service)
outcome form meaning.no_operation = gives (failed form no_operation)
outcome form (given (fault x)) = gives (failed form (service_fault x))
outcome form (given (result g)) = succeeded form g

-- of two causes the target's goes first, and the arguments' goes before the service's
abbrev pub call : List Entry → Form → Target → Option Graph → Plan Answer
call services form t None = gives (failed form bad_message)
call services form t (Some args) = outcome form (called services t.service t.operation args)

abbrev pub plain_call : List Entry → Body → Option Target → Plan Answer
plain_call services body None = gives (failed body.form no_service)
plain_call services body (Some t) = call services body.form t (body_arguments body)
