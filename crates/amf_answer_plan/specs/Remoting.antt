-- How a RemotingMessage is answered: a call of the service that its destination names.
use Rattle.std.specs.Prelude.{ℕ, List, [], ◌∷◌, Option, Some, None}
use Rattle.amf_graph.specs.Graph.{Value, leaf, null, node, array, Graph}
use Rattle.flex_msgs.specs.Asked.{Told}
use Rattle.amf_service.specs.Meaning.{result, fault, Called, given}
use Rattle.amf_service.specs.Meaning as meaning
use Rattle.amf_service.specs.Registry.{Entry, called}
use Rattle.amf_service.specs.Shipped.{items_at}
use Rattle.amf_answer_plan.specs.Causes.{bad_message, no_service, no_operation, service_fault}
use Rattle.amf_answer_plan.specs.Plan.{Plan}
use Rattle.amf_answer_plan.specs.Replies.{Context, context_of, Answer, error, acknowledge}

abbrev pub empty_arguments : Graph
empty_arguments = record { nodes = record { head = array; names = []; values = [] } ∷ []; root = node 0 }

-- a value as arguments, where it is an array without names
abbrev pub if_items : {X : Type 0} → Graph → Value → Option X → Option Graph
if_items g v None = None
if_items g v (Some items) = Some (record { nodes = g.nodes; root = v })

-- the arguments that a body is: null is the empty array
abbrev pub arguments : Graph → Value → Option Graph
arguments g (leaf null) = Some empty_arguments
arguments g v = if_items g v (items_at g v)

abbrev pub outcome : Context → Called → Plan Answer
outcome k meaning.no_service = error k no_service
outcome k meaning.no_operation = error k no_operation
outcome k (given (fault x)) = error k (service_fault x)
outcome k (given (result g)) = acknowledge k [] g g.root

abbrev pub call : List Entry → Told → (operation : List ℕ) → Option Graph → Plan Answer
call services t operation None = error (context_of t) bad_message
call services t operation (Some args) = outcome (context_of t) (called services t.destination operation args)

-- the request, in its graph
abbrev pub remoting : List Entry → Graph → Told → (operation : List ℕ) → Plan Answer
remoting services g t operation = call services t operation (arguments g t.body)
