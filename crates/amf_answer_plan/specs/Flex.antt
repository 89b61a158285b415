-- How a Flex request is answered: a message of a packet whose target is `null`.
use Rattle.std.specs.Prelude.{List, Option, Some, None}
use Rattle.amf_graph.specs.Graph.{Value, Graph}
use Rattle.amf0_spelling.specs.declared.form.Form.{Form}
use Rattle.amf0_spelling.specs.declared.form.Form.TheVariants as form
use Rattle.amf_packet.specs.Packet.{Body}
use Rattle.flex_msgs.specs.Asked as asked
use Rattle.flex_msgs.specs.Asked.{Asked, Viewed, request}
use Rattle.flex_msgs.specs.Viewing.{value_view}
use Rattle.amf_service.specs.Registry.{Entry}
use Rattle.amf_service.specs.Shipped.{items_of, one_of}
use Rattle.amf_answer_plan.specs.Causes.{bad_message}
use Rattle.amf_answer_plan.specs.Commands.{command, publish}
use Rattle.amf_answer_plan.specs.Plan.{Plan}
use Rattle.amf_answer_plan.specs.Remoting.{remoting}
use Rattle.amf_answer_plan.specs.Replies.{no_context, Answer, error}

abbrev pub asked_answer : List Entry → Graph → Asked → Plan Answer
asked_answer services g (asked.remoting t operation) = remoting services g t operation
asked_answer services g (asked.command t operation) = command g t operation
asked_answer services g (asked.async t correlation) = publish g t correlation

-- what is no message, is of a class that is not served, or has a member of a wrong kind is answered without a context
abbrev pub viewed_answer : List Entry → Graph → Viewed → Plan Answer
viewed_answer services g (request r) = asked_answer services g r
viewed_answer services g _ = error no_context bad_message

abbrev pub message_in : List Entry → Graph → Option Value → Plan Answer
message_in services g None = error no_context bad_message
message_in services g (Some v) = viewed_answer services g (value_view g v)

-- the message of a call is its argument; of any other body it is the one item of an array without names
abbrev pub message_of : Form → Graph → Option Value
message_of form.Call g = Some g.root
message_of _ g = one_of (items_of g)

abbrev pub flex : List Entry → Body → Plan Answer
flex services body = message_in services body.graph (message_of body.form body.graph)
