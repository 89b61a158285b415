-- How a graph is viewed as a request: the first member in order that has another kind is named.
use Rattle.std.specs.Prelude.{◌≡◌, ℕ, ℤ, List, [], Option, Some, None}
use Rattle.amf_graph.specs.Graph.{Value, leaf, node, null, integer, double, text, Head, object, Node, Graph, node_at}
use Rattle.flex_msgs.specs.declared.request.Member.{Member}
use Rattle.flex_msgs.specs.declared.request.Member.TheVariants as member
use Rattle.flex_msgs.specs.declared.not_a_message.NotAMessage.{NotAMessage}
use Rattle.flex_msgs.specs.declared.not_a_message.NotAMessage.TheVariants.{NotObject, NotServed, WrongKind, Memory}
use Rattle.amf_wire.specs.WholeNumbers.{whole_of}
use Rattle.flex_msgs.specs.Lookup.{value_named, members_of, pairs_of}
use Rattle.flex_msgs.specs.declared.class.Served.{Served}
use Rattle.flex_msgs.specs.declared.class.Served.TheVariants as served
use Rattle.flex_msgs.specs.Classes.{served_class, body_name, client_name, destination_name, headers_name, message_name, correlation_name, operation_name, ds_id_name, subtopic_name}
use Rattle.flex_msgs.specs.Asked.{Told, Viewed, not_object, not_served, wrong_kind, request, remoting, command, async}

-- Kinds of members.

-- a text, or null for the empty one
abbrev pub text_or_null : Value → Option (List ℕ)
text_or_null (leaf (text x)) = Some x
text_or_null (leaf null) = Some []
text_or_null _ = None

abbrev pub text_alone : Value → Option (List ℕ)
text_alone (leaf (text x)) = Some x
text_alone _ = None

-- an integer, or a double that is a whole number
abbrev pub whole_number : Value → Option ℤ
whole_number (leaf (integer n)) = Some n
whole_number (leaf (double p)) = whole_of p
whole_number _ = None

-- the member is named where it has another kind, and else the view goes on with what it is
abbrev pub or_wrong : {X : Type 0} → Member → Option X → (X → Viewed) → Viewed
or_wrong m None next = wrong_kind m
or_wrong m (Some x) next = next x

-- what every message has, in the order in which its kinds are asked for
abbrev pub common_view : Graph → List (List ℕ × Value) → (Told → Viewed) → Viewed
common_view g ps next =
    let headers = value_named headers_name ps in
    or_wrong member.Headers (pairs_of g headers) (λ hs.
    or_wrong member.DsId (text_or_null (value_named ds_id_name hs)) (λ ds_id.
    or_wrong member.DsSubtopic (text_or_null (value_named subtopic_name hs)) (λ subtopic.
    or_wrong member.Destination (text_or_null (value_named destination_name ps)) (λ destination.
    or_wrong member.MessageId (text_or_null (value_named message_name ps)) (λ message.
    or_wrong member.ClientId (text_or_null (value_named client_name ps)) (λ client.
    next (record { message = message; destination = destination; client = client; ds_id = ds_id; subtopic = subtopic; body = value_named body_name ps; headers = headers })))))))

-- what every message has is this, and the view goes on with it
abbrev pub GoesOnWith : Graph → List (List ℕ × Value) → Told → Type 0
GoesOnWith g ps t = (next : Told → Viewed) → common_view g ps next ≡ next t

abbrev pub served_view : Graph → Option Served → List (List ℕ × Value) → Viewed
served_view g None ps = not_served
served_view g (Some served.Remoting) ps = common_view g ps (λ t. or_wrong member.Operation (text_alone (value_named operation_name ps)) (λ o. request (remoting t o)))
served_view g (Some served.Command) ps = common_view g ps (λ t. or_wrong member.Operation (whole_number (value_named operation_name ps)) (λ o. request (command t o)))
served_view g (Some served.Async) ps = common_view g ps (λ t. or_wrong member.CorrelationId (text_or_null (value_named correlation_name ps)) (λ c. request (async t c)))

abbrev pub kind_view : Graph → Head → Node → Viewed
kind_view g (object t) a = served_view g (served_class t.class) (members_of t a)
kind_view g _ a = not_object

abbrev pub value_view : Graph → Value → Viewed
value_view g (node i) = kind_view g (node_at g i).head (node_at g i)
value_view g (leaf x) = not_object

-- what the graph is as a request
abbrev pub view : Graph → Viewed
view g = value_view g g.root

-- an answer other than a request says what the graph is
abbrev pub Refuses : Viewed → NotAMessage → Type 0
Refuses v NotObject = v ≡ not_object
Refuses v NotServed = v ≡ not_served
Refuses v (WrongKind m) = v ≡ wrong_kind m
Refuses v Memory = Unit {0}
