-- What the calls that write messages do to a builder, in each finished graph that completes it.
use Rattle.std.specs.Prelude.{◌≡◌, ℕ, suc, ◌+◌, ◌≤◌, false, List, [], ◌∷◌, ◌++◌, length, map}
use Rattle.std.specs.List.{AllByRecursion}
use Rattle.amf_wire.specs.Text.{IsText}
use Rattle.amf_graph.specs.declared.value.Value.{Value as Stored}
use Rattle.amf_graph.specs.Graph as graph
use Rattle.amf_graph.specs.Arena.{Arena, StoredTraits, StoredNode, Completes, value_content, node_content, traits_at, object}
use Rattle.amf_graph.specs.Building.{stored_at}
use Rattle.amf_graph.specs.Grafting.{Grafted, Cut, IsCut, node_value}
use Rattle.amf_graph.specs.Rooted.{RootedArena}
use Rattle.amf_graph.specs.declared.limits.TheConstants.{MAX_COUNT, MAX_TRAITS}
use Rattle.flex_msgs.specs.declared.request.Common.{Common}
use Rattle.flex_msgs.specs.declared.reply.Reply.{Reply}
use Rattle.flex_msgs.specs.declared.reply.FaultText.{FaultText}
use Rattle.flex_msgs.specs.Classes.{async_traits}
use Rattle.flex_msgs.specs.Messages.{acknowledge_nodes, error_nodes, sync_nodes, invalidate_nodes, published_node, delivered_node, other_values}

-- the value is the last of the new nodes; what was there stays, open nodes too; the new nodes are closed, and are these by content
pub record Adds (old new : Arena) (v : Stored) (written : Arena → List graph.Node) : Type 0 where
  pub more_texts : List (List ℕ)
  pub texts : new.texts ≡ old.texts ++ more_texts
  pub more_traits : List StoredTraits
  pub traits : new.traits ≡ old.traits ++ more_traits
  pub more_nodes : List StoredNode
  pub nodes : new.nodes ≡ old.nodes ++ more_nodes
  pub last : ℕ
  pub count : length more_nodes ≡ suc last
  pub value : v ≡ node_value (length old.nodes + last)
  pub closed : AllByRecursion (λ n. n.is_open ≡ false) more_nodes
  pub content : (h : Arena) → Completes new h → map (node_content h) more_nodes ≡ written h

-- so many more texts, traits and nodes
pub record GrewBy (old new : Arena) (t s n : ℕ) : Type 0 where
  pub texts : length new.texts ≡ length old.texts + t
  pub traits : length new.traits ≡ length old.traits + s
  pub nodes : length new.nodes ≡ length old.nodes + n

-- there is room for so many more
pub record HasRoomFor (a : Arena) (t s n : ℕ) : Type 0 where
  pub texts : length a.texts + t ≤ MAX_COUNT
  pub traits : length a.traits + s ≤ MAX_TRAITS
  pub nodes : length a.nodes + n ≤ MAX_COUNT

-- a text is as long as a builder takes
abbrev pub IsShort : List ℕ → Type 0
IsShort x = length x ≤ MAX_COUNT

-- the texts of a client, which is null where it is empty
abbrev pub client_texts : List ℕ → ℕ
client_texts [] = 0
client_texts (b ∷ x) = 1

abbrev pub Acknowledges : Reply → Arena → Arena → Stored → Type 0
Acknowledges r old new v = Adds old new v (λ h. acknowledge_nodes r (value_content h r.body) (length old.nodes))

abbrev pub Errors : Reply → FaultText → Arena → Arena → Stored → Type 0
Errors r f old new v = Adds old new v (λ h. error_nodes r f (length old.nodes))

abbrev pub Syncs : Reply → List Stored → Arena → Arena → Stored → Type 0
Syncs r batch old new v = Adds old new v (λ h. sync_nodes r (map (value_content h) batch) (length old.nodes))

abbrev pub Invalidates : Reply → Arena → Arena → Stored → Type 0
Invalidates r old new v = Adds old new v (λ h. invalidate_nodes r (length old.nodes))

-- one copy of the body and the headers, and then the message
pub record Publishes (a : Arena) (c : Common) (correlation : List ℕ) (moment : ℕ) (old new : Arena) (v : Stored) : Type 0 where
  pub between : Arena
  pub body : Stored
  pub headers : Stored
  pub grafted : Grafted a (c.body ∷ c.headers ∷ []) old between (body ∷ headers ∷ [])
  pub added : Adds between new v (λ h. published_node c.message c.destination correlation moment (value_content h body) (value_content h headers) ∷ [])
  pub grew : GrewBy between new 12 1 1

-- the stored message's node
abbrev pub IsStoredAt : Arena → ℕ → Type 0
IsStoredAt a i = (t : ℕ) × ((stored_at a i).head ≡ object t) × (traits_at a t ≡ async_traits)

-- the root is a stored message
abbrev pub IsStored : RootedArena → Type 0
IsStored g = (i : ℕ) × (g.root ≡ node_value i) × IsStoredAt g.arena i

-- one copy of its values but for the client, and then the message
pub record Delivers (a : Arena) (i : ℕ) (client : List ℕ) (old new : Arena) (v : Stored) : Type 0 where
  pub between : Arena
  pub others : List Stored
  pub grafted : Grafted a (other_values (stored_at a i).values) old between others
  pub added : Adds between new v (λ h. delivered_node client (map (value_content h) others) ∷ [])
  pub grew : GrewBy between new (9 + client_texts client) 1 1

-- there is no room for a copy of these values and so many texts more, a traits and a node
abbrev pub LacksRoomFor : Arena → List Stored → Arena → ℕ → Type 0
LacksRoomFor a vs old texts = (c : Cut) × IsCut a vs c × (HasRoomFor old (length c.texts + texts) (length c.traits + 1) (length c.nodes + 1) → ⊥)

-- so where the names of a message that is published, and what it is correlated to, are short
abbrev pub WhereShort : Common → List ℕ → Type 0 → Type 0
WhereShort c correlation P = IsShort c.message → IsShort c.destination → IsShort correlation → P

-- there is no room for what is stored of a message that is published
abbrev pub LacksRoomToStore : Arena → Common → Arena → Type 0
LacksRoomToStore a c old = LacksRoomFor a (c.body ∷ c.headers ∷ []) old 12

-- there is no room for a stored message as it is delivered to this client
abbrev pub LacksRoomToDeliver : Arena → ℕ → List ℕ → Arena → Type 0
LacksRoomToDeliver a i client old = LacksRoomFor a (other_values (stored_at a i).values) old (9 + client_texts client)

-- there is room for the error that answers this
abbrev pub HasRoomForError : Arena → Reply → Type 0
HasRoomForError a r = HasRoomFor a (23 + client_texts r.client) 2 2

-- The names of an answer are texts.

pub record IsReply (r : Reply) : Type 0 where
  pub client : IsText r.client
  pub destination : IsText r.destination
  pub ds_id : IsText r.ds_id
  pub message : IsText r.message
  pub correlation : IsText r.correlation

-- and as long as a builder takes
pub record IsShortReply (r : Reply) : Type 0 where
  pub client : IsShort r.client
  pub destination : IsShort r.destination
  pub ds_id : IsShort r.ds_id
  pub message : IsShort r.message
  pub correlation : IsShort r.correlation

pub record IsFaultText (f : FaultText) : Type 0 where
  pub code : IsText f.code
  pub text : IsText f.text
