-- Worked requests and replies, and sessions of one poll or two.
use Rattle.std.specs.Prelude.{◌≡◌, ℕ, List, [], ◌∷◌, ◌++◌, length, Some, codes}
use Rattle.amf_graph.specs.Graph.{Value, node, object, Node, Graph}
use Rattle.flex_msgs.specs.Classes.{acknowledge_traits, async_traits, command_traits, plain_traits, ds_id_name}
use Rattle.flex_msgs.specs.Messages.{text_of, null_value, number_value, message_node, headers_node, items_node}
use Rattle.amf_poll_session.specs.Requests.{operation, request_graph}
use Rattle.amf_poll_session.specs.declared.request.Request.TheVariants.{Ping, Subscribe, Poll, Disconnect}
use Rattle.amf_poll_session.specs.Replies.{seen_of}
use Rattle.amf_poll_session.specs.Sessions.{Turn, no_link, link_fault, bad, fault, reply, turn_of, done, by_fault, by_bad, by_link, Session, all_links, listen}

-- bodies by their spellings
abbrev pub hi : List ℕ
hi = 6 ∷ 5 ∷ codes "hi"

abbrev pub told : List (List ℕ) → Turn (List ℕ)
told bodies = reply (codes "1") bodies

-- a link that ends at the poll, and one that answers it
abbrev pub one_more : Session (List ℕ)
one_more = listen 1 (told [] ∷ told [] ∷ bad 7 ∷ told (hi ∷ []) ∷ told [] ∷ [])

-- three links in turn end at the poll
abbrev pub three_ends : Session (List ℕ)
three_ends = listen 1 (told [] ∷ told [] ∷ bad 7 ∷ bad 7 ∷ bad 7 ∷ [])

-- Replies.

abbrev pub values_of : (body headers : Value) → List ℕ → List Value
values_of body headers correlation = body ∷ null_value ∷ null_value ∷ headers ∷ text_of (codes "m") ∷ number_value 0 ∷ number_value 0 ∷ text_of correlation ∷ []

-- an answer with these headers
abbrev pub acknowledged : List ℕ → Node → Graph
acknowledged correlation headers = record { nodes = message_node acknowledge_traits (values_of null_value (node 1) correlation) ∷ headers ∷ []; root = node 0 }

abbrev pub no_headers : Node
no_headers = record { head = object plain_traits; names = []; values = [] }

abbrev pub number_header : Node
number_header = record { head = object plain_traits; names = (ds_id_name, number_value 1) ∷ []; values = [] }

-- a batch of this operation to the subscribe, with this body and these nodes behind
abbrev pub batch : ℕ → Value → List Node → Graph
batch n body more = record { nodes = message_node command_traits (values_of body (node 1) (codes "s") ++ number_value n ∷ []) ∷ headers_node (codes "1") ∷ more; root = node 0 }

abbrev pub delivered : List ℕ → Node
delivered x = message_node async_traits (values_of (text_of x) null_value (codes ""))

abbrev pub invalidated : ℕ → Node
invalidated n = message_node command_traits (values_of null_value null_value (codes "s") ++ number_value n ∷ [])

-- two messages and an end of a subscription between them
abbrev pub three_items : Graph
three_items = batch 4 (node 2) (items_node (node 3 ∷ node 4 ∷ node 5 ∷ []) ∷ delivered (codes "a") ∷ invalidated 10 ∷ delivered (codes "b") ∷ [])

pub record WorkedSessions : Type 0 where
  pub hi_end : one_more.end ≡ Some done
  pub hi_written : one_more.written ≡ hi ∷ []
  pub hi_dials : one_more.dials ≡ 2
  pub hi_links : length (all_links one_more) ≡ 2
  pub three_end : three_ends.end ≡ Some (by_bad 7)
  pub three_dials : three_ends.dials ≡ 3
  pub three_written : three_ends.written ≡ []
  -- the last failure decides, and failed dials are counted
  pub last_dial : (listen {B = List ℕ} 1 (told [] ∷ told [] ∷ bad 7 ∷ no_link ∷ no_link ∷ [])).end ≡ Some by_link
  pub last_bad : (listen {B = List ℕ} 1 (told [] ∷ told [] ∷ link_fault ∷ no_link ∷ bad 7 ∷ [])).end ≡ Some (by_bad 7)
  -- with an answer three dials begin anew, of which its link's is one
  pub anew : (listen {B = List ℕ} 2 (told [] ∷ told [] ∷ bad 7 ∷ bad 7 ∷ told [] ∷ bad 7 ∷ bad 7 ∷ told [] ∷ told [] ∷ [])).end ≡ Some done
  pub no_ping : (listen {B = List ℕ} 1 (bad 7 ∷ [])).end ≡ Some (by_bad 7)
  pub no_first_dial : (listen {B = List ℕ} 1 (no_link ∷ [])).end ≡ Some by_link
  pub no_subscribe : (listen {B = List ℕ} 1 (told [] ∷ link_fault ∷ [])).end ≡ Some by_link
  pub at_once : (listen {B = List ℕ} 1 (told [] ∷ told [] ∷ bad 6 ∷ [])).end ≡ Some (by_bad 6)
  pub is_fault : (listen {B = List ℕ} 1 (told [] ∷ told [] ∷ fault (codes "c") (codes "t") ∷ [])).end ≡ Some (by_fault (codes "c") (codes "t"))
  -- the disconnect is sent again too
  pub disconnects : (listen {B = List ℕ} 1 (told [] ∷ told [] ∷ told [] ∷ bad 7 ∷ told [] ∷ [])).end ≡ Some done
  -- requests
  pub pinged : request_graph (codes "chat") (codes "nil") Ping ≡ record {
    nodes = headers_node (codes "nil") ∷ message_node command_traits (null_value ∷ null_value ∷ null_value ∷ node 0 ∷ text_of (codes "p") ∷ number_value 0 ∷ number_value 0 ∷ null_value ∷ number_value 5 ∷ []) ∷ [];
    root = node 1;
  }
  pub subscribed : request_graph (codes "chat") (codes "1") Subscribe ≡ record {
    nodes = headers_node (codes "1") ∷ message_node command_traits (null_value ∷ null_value ∷ text_of (codes "chat") ∷ node 0 ∷ text_of (codes "s") ∷ number_value 0 ∷ number_value 0 ∷ null_value ∷ number_value 0 ∷ []) ∷ [];
    root = node 1;
  }
  pub polls : operation (Poll 7) ≡ 2
  pub disconnected : operation Disconnect ≡ 12
  -- replies
  pub ponged : turn_of Ping (seen_of (acknowledged (codes "p") (headers_node (codes "1")))) ≡ reply (codes "1") []
  pub no_id : turn_of Ping (seen_of (acknowledged (codes "p") no_headers)) ≡ bad 6
  pub number_id : turn_of Ping (seen_of (acknowledged (codes "p") number_header)) ≡ bad 6
  pub no_id_later : turn_of Subscribe (seen_of (acknowledged (codes "s") no_headers)) ≡ reply [] []
  pub other_id : turn_of Subscribe (seen_of (acknowledged (codes "p") (headers_node (codes "1")))) ≡ bad 6
  pub batched : turn_of Subscribe (seen_of three_items) ≡ reply (codes "1") (record three_items { root = text_of (codes "a") } ∷ record three_items { root = text_of (codes "b") } ∷ [])
  pub other_operation : turn_of Subscribe (seen_of (batch 5 (node 2) (items_node [] ∷ []))) ≡ bad 6
  pub no_items : turn_of Subscribe (seen_of (batch 4 null_value [])) ≡ bad 6
  pub named_items : turn_of Subscribe (seen_of (batch 4 (node 2) (record (items_node []) { names = (codes "a", null_value) ∷ [] } ∷ []))) ≡ bad 6
  pub other_item : turn_of Subscribe (seen_of (batch 4 (node 2) (items_node (node 3 ∷ []) ∷ invalidated 4 ∷ []))) ≡ bad 6
  pub leaf_item : turn_of Subscribe (seen_of (batch 4 (node 2) (items_node (null_value ∷ []) ∷ []))) ≡ bad 6
  pub delivery_alone : turn_of Subscribe (seen_of (record { nodes = delivered (codes "a") ∷ []; root = node 0 })) ≡ bad 6
