-- What the graph of a reply says to a listener. Members are looked up by their names.
use Rattle.std.specs.Prelude.{ℕ, ℤ, pos, Bool, true, false, ◌&&◌, ◌==◌, if◌then◌else◌, List, [], ◌∷◌, Option, Some, None, map, flat_map, bytes_eq}
use Rattle.std.specs.List.{list_all}
use Rattle.amf_graph.specs.Graph.{Value, leaf, node, Head, array, object, Node, Graph, node_at}
use Rattle.flex_msgs.specs.Classes.{acknowledge_class, async_class, command_class, body_name, headers_name, correlation_name, operation_name, ds_id_name}
use Rattle.flex_msgs.specs.Lookup.{value_named, members_of, pairs_of, named_in}
use Rattle.flex_msgs.specs.Viewing.{text_alone, whole_number}
use Rattle.amf_poll_session.specs.Requests.{message_id}
use Rattle.amf_poll_session.specs.declared.kind.MessageKind.{MessageKind}
use Rattle.amf_poll_session.specs.declared.kind.MessageKind.TheVariants.{Acknowledge, Sync, Invalidate, Async, Foreign}
use Rattle.amf_poll_session.specs.declared.request.Request.{Request}
use Rattle.amf_poll_session.specs.declared.request.Request.TheVariants.{Ping}

-- an entry of a reply's body, with its own body
pub record Item (B : Type 0) : Type 0 where
  pub kind : MessageKind
  pub body : B

pub record Seen (B : Type 0) : Type 0 where
  pub kind : MessageKind
  pub correlation : Option (List ℕ)
  -- the DSId of the headers, where it is a text
  pub ds_id : Option (List ℕ)
  -- the entries of the body, where it is an array without names
  pub items : Option (List (Item B))

-- What a graph says.

-- an operation is a whole number, as in a request
abbrev pub command_kind : Option ℤ → MessageKind
command_kind (Some (pos n)) = if n == 4 then Sync else if n == 10 then Invalidate else Foreign
command_kind _ = Foreign

abbrev pub class_kind : List ℕ → Option ℤ → MessageKind
class_kind class operation =
    if bytes_eq acknowledge_class class then Acknowledge
    else if bytes_eq async_class class then Async
    else if bytes_eq command_class class then command_kind operation
    else Foreign

abbrev pub head_kind : Head → Node → MessageKind
head_kind (object t) a = class_kind t.class (whole_number (value_named operation_name (members_of t a)))
head_kind _ a = Foreign

abbrev pub kind_at : Graph → Value → MessageKind
kind_at g (node i) = head_kind (node_at g i).head (node_at g i)
kind_at g (leaf x) = Foreign

-- the member of this name
abbrev pub member_at : Graph → List ℕ → Value → Value
member_at g name v = named_in name (pairs_of g v)

-- an entry's body is the graph from there on
abbrev pub item_at : Graph → Value → Item Graph
item_at g v = record { kind = kind_at g v; body = record g { root = member_at g body_name v } }

abbrev pub unnamed_items : Graph → List (List ℕ × Value) → List Value → Option (List (Item Graph))
unnamed_items g [] values = Some (map (item_at g) values)
unnamed_items g (p ∷ ps) values = None

abbrev pub dense_items : Graph → Head → Node → Option (List (Item Graph))
dense_items g array a = unnamed_items g a.names a.values
dense_items g _ a = None

abbrev pub items_at : Graph → Value → Option (List (Item Graph))
items_at g (node i) = dense_items g (node_at g i).head (node_at g i)
items_at g (leaf x) = None

abbrev pub seen_of : Graph → Seen Graph
seen_of g = record {
  kind = kind_at g g.root;
  correlation = text_alone (member_at g correlation_name g.root);
  ds_id = text_alone (member_at g ds_id_name (member_at g headers_name g.root));
  items = items_at g (member_at g body_name g.root);
}

-- Whether it answers a request.

abbrev pub is_text : List ℕ → Option (List ℕ) → Bool
is_text text None = false
is_text text (Some other) = bytes_eq other text

-- an AcknowledgeMessage, or a CommandMessage with operation 4
abbrev pub is_reply : MessageKind → Bool
is_reply Acknowledge = true
is_reply Sync = true
is_reply Invalidate = false
is_reply Async = false
is_reply Foreign = false

-- a delivered message, or a CommandMessage with operation 10
abbrev pub is_item : MessageKind → Bool
is_item Acknowledge = false
is_item Sync = false
is_item Invalidate = true
is_item Async = true
is_item Foreign = false

-- a CommandMessage has an array of such entries
abbrev pub are_items : {B : Type 0} → MessageKind → Option (List (Item B)) → Bool
are_items Sync None = false
are_items Sync (Some items) = list_all (λ i. is_item i.kind) items
are_items _ items = true

abbrev pub is_answer : {B : Type 0} → Seen B → Bool
is_answer seen = is_reply seen.kind && are_items seen.kind seen.items

-- a ping's answer tells a DSId
abbrev pub has_id : Request → Option (List ℕ) → Bool
has_id r (Some id) = true
has_id Ping None = false
has_id _ None = true

-- the reply is one to the request; else it is number 6
abbrev pub answers : {B : Type 0} → Request → Seen B → Bool
answers r seen = is_text (message_id r) seen.correlation && is_answer seen && has_id r seen.ds_id

-- Its delivered bodies, in order.

abbrev pub body_of : {B : Type 0} → MessageKind → B → List B
body_of Async b = b ∷ []
body_of _ b = []

abbrev pub bodies_in : {B : Type 0} → MessageKind → Option (List (Item B)) → List B
bodies_in Sync (Some items) = flat_map (λ i. body_of i.kind i.body) items
bodies_in _ items = []
