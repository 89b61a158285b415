-- Isomorphic graphs are viewed alike and answered alike, and a graph that holds a message is isomorphic to the one that is said of what came.
use Rattle.std.specs.Prelude.{◌≡◌, ℕ, ◌<◌, ◌≤◌, ◌⊎◌, List, [], ◌∷◌, ◌++◌, length, map}
use Rattle.std.specs.List.{AllZip}
use Rattle.amf_graph.specs.declared.value.Value.{Value as Stored}
use Rattle.amf_graph.specs.Arena.{Arena, Names, IsBuilt, IsFinished, Completes, graph_of, node_content, value_content}
use Rattle.amf_graph.specs.Roots.{SameFrom}
use Rattle.amf_graph.specs.Grafting.{node_value}
use Rattle.flex_msgs.specs.declared.reply.Reply.{Reply}
use Rattle.flex_msgs.specs.declared.reply.FaultText.{FaultText}
use Rattle.flex_msgs.specs.declared.request.Common.{Common}
use Rattle.flex_msgs.specs.Built.{Acknowledges, Errors, Syncs, Invalidates, Publishes, Delivers}
use Rattle.flex_msgs.specs.Answers.{acknowledge_graph, error_graph, published_graph, delivered_graph, invalidate_graph, sync_graph, shifted_value, shifted_nodes}
use Rattle.amf_graph.specs.Graph.{Graph, Value, Node}
use Rattle.amf_graph.specs.Isomorphic.{ValuesMatch, StandIn, Isomorphic}
use Rattle.flex_msgs.specs.Asked.{Told, told, Asked, remoting, command, async, Viewed, not_object, not_served, wrong_kind, request}
use Rattle.flex_msgs.specs.Viewing.{value_view}

-- the same texts, and values that are paired
pub record ToldMatch (P : ℕ → ℕ → Type 0) (t u : Told) : Type 0 where
  pub message : t.message ≡ u.message
  pub destination : t.destination ≡ u.destination
  pub client : t.client ≡ u.client
  pub ds_id : t.ds_id ≡ u.ds_id
  pub subtopic : t.subtopic ≡ u.subtopic
  pub body : ValuesMatch P t.body u.body
  pub headers : ValuesMatch P t.headers u.headers

abbrev pub AskedMatch : (ℕ → ℕ → Type 0) → Asked → Asked → Type 0
AskedMatch P (remoting t o) (remoting u p) = ToldMatch P t u × (o ≡ p)
AskedMatch P (command t o) (command u p) = ToldMatch P t u × (o ≡ p)
AskedMatch P (async t c) (async u d) = ToldMatch P t u × (c ≡ d)
AskedMatch P _ _ = ⊥

abbrev pub ViewedMatch : (ℕ → ℕ → Type 0) → Viewed → Viewed → Type 0
ViewedMatch P not_object not_object = Unit {0}
ViewedMatch P not_served not_served = Unit {0}
ViewedMatch P (wrong_kind m) (wrong_kind n) = m ≡ n
ViewedMatch P (request r) (request s) = AskedMatch P r s
ViewedMatch P _ _ = ⊥

-- also of a value inside, as the one item of an array
abbrev pub ViewLaw : Type 0
ViewLaw = (g h : Graph) (i : Isomorphic g h) (v w : Value) → ValuesMatch (StandIn i.pairs) v w → ViewedMatch (StandIn i.pairs) (value_view g v) (value_view h w)

-- What a graph is that holds a message: the one that is said without a builder, with what came in the place of its copy.

-- the paired nodes stood before the message
abbrev pub AreBefore : List (ℕ × ℕ) → ℕ → Type 0
AreBefore pairs n = (i j : ℕ) → StandIn pairs i j → j < n

abbrev pub AcknowledgeLaw : Type 0
AcknowledgeLaw =
    (r : Reply) (old new : Arena) (u : Stored) → Acknowledges r old new u →
    (h : Arena) → Completes new h → (g : Graph) (v : Value) (s : SameFrom g (graph_of h u) (v ∷ []) (value_content h r.body ∷ [])) → AreBefore s.pairs (length old.nodes) →
    Isomorphic (acknowledge_graph r g v) (graph_of h u)

-- the stored message, of the request as it is kept
abbrev pub PublishedLaw : Type 0
PublishedLaw =
    (a : Arena) (root : Stored) (c : Common) (correlation : List ℕ) (moment : ℕ) (old new : Arena) (u : Stored) →
    IsFinished a → IsBuilt old → Names a c.body → Names a c.headers → Publishes a c correlation moment old new u →
    (h : Arena) → Completes new h → Isomorphic (published_graph (graph_of a root) (told a c) correlation moment) (graph_of h u)

abbrev pub ErrorLaw : Type 0
ErrorLaw =
    (r : Reply) (f : FaultText) (old new : Arena) (u : Stored) → Errors r f old new u →
    (h : Arena) → Completes new h → Isomorphic (error_graph r f) (graph_of h u)

-- isomorphic, and the paired nodes of the second have the numbers from one up to another
pub record IsAt (g h : Graph) (from to : ℕ) : Type 0 where
  pub order : from ≤ to
  pub same : Isomorphic g h
  pub within : (i j : ℕ) → StandIn same.pairs i j → (from ≤ j) × (j < to)

-- among the nodes that the call added
abbrev pub InvalidateLaw : Type 0
InvalidateLaw =
    (r : Reply) (old new : Arena) (u : Stored) → Invalidates r old new u →
    (h : Arena) → Completes new h → IsAt (invalidate_graph r) (graph_of h u) (length old.nodes) (length new.nodes)

-- likewise, of the stored message at a node
abbrev pub DeliveredLaw : Type 0
DeliveredLaw =
    (a : Arena) (i : ℕ) (client : List ℕ) (old new : Arena) (u : Stored) →
    IsFinished a → IsBuilt old → i < length a.nodes → Delivers a i client old new u →
    (h : Arena) → Completes new h → IsAt (delivered_graph client (graph_of a (node_value i))) (graph_of h u) (length old.nodes) (length new.nodes)

-- A batch: messages that are added one after another, and the sync that holds them.

-- these graphs stand one behind the other among the nodes, from one number up to another; the values are their roots
abbrev pub StandBehind : List Node → ℕ → List Graph → List Value → ℕ → Type 0
StandBehind ns from [] [] to = from ≤ to
StandBehind ns from (g ∷ gs) (w ∷ ws) to = (middle : ℕ) × IsAt g (record { nodes = ns; root = w }) from middle × StandBehind ns middle gs ws to
StandBehind ns from _ _ to = ⊥

-- a message of a batch: a delivered one
pub record AddsDelivered (g : Graph) (old new : Arena) (v : Stored) : Type 0 where
  pub stored : Arena
  pub place : ℕ
  pub client : List ℕ
  pub finished : IsFinished stored
  pub built : IsBuilt old
  pub there : place < length stored.nodes
  pub adds : Delivers stored place client old new v
  pub graph : g ≡ delivered_graph client (graph_of stored (node_value place))

-- or an invalidate
pub record AddsInvalidate (g : Graph) (old new : Arena) (v : Stored) : Type 0 where
  pub reply : Reply
  pub adds : Invalidates reply old new v
  pub graph : g ≡ invalidate_graph reply

-- one after another
abbrev pub AddsBatch : Arena → List Graph → List Stored → Arena → Type 0
AddsBatch old [] [] new = new ≡ old
AddsBatch old (g ∷ gs) (v ∷ vs) new = (between : Arena) × (AddsDelivered g old between v ⊎ AddsInvalidate g old between v) × AddsBatch between gs vs new
AddsBatch old _ _ new = ⊥

-- so they stand one behind the other
abbrev pub BatchLaw : Type 0
BatchLaw =
    (gs : List Graph) (batch : List Stored) (old new : Arena) → AddsBatch old gs batch new →
    (h : Arena) → Completes new h → StandBehind (map (node_content h) h.nodes) (length old.nodes) gs (map (value_content h) batch) (length new.nodes)

-- the messages of the batch stood before the answer
abbrev pub SyncLaw : Type 0
SyncLaw =
    (r : Reply) (batch : List Stored) (old new : Arena) (u : Stored) → Syncs r batch old new u →
    (h : Arena) → Completes new h → (gs : List Graph) (from : ℕ) → StandBehind (graph_of h u).nodes from gs (map (value_content h) batch) (length old.nodes) →
    Isomorphic (sync_graph r gs) (graph_of h u)

-- What is answered for isomorphic graphs is isomorphic.
pub record AnswersAlike : Type 0 where
  pub acknowledge : (r : Reply) (g h : Graph) (i : Isomorphic g h) (v w : Value) → ValuesMatch (StandIn i.pairs) v w → Isomorphic (acknowledge_graph r g v) (acknowledge_graph r h w)
  pub published : (g h : Graph) (i : Isomorphic g h) (t u : Told) → ToldMatch (StandIn i.pairs) t u → (correlation : List ℕ) (moment : ℕ) → Isomorphic (published_graph g t correlation moment) (published_graph h u correlation moment)
  pub delivered : (g h : Graph) → Isomorphic g h → (client : List ℕ) → Isomorphic (delivered_graph client g) (delivered_graph client h)
  pub sync : (r : Reply) (gs hs : List Graph) → AllZip Isomorphic gs hs → Isomorphic (sync_graph r gs) (sync_graph r hs)

-- Two graphs that stand apart in one: the second is said behind the first.

abbrev pub AreApart : List (ℕ × ℕ) → List (ℕ × ℕ) → Type 0
AreApart ps qs = (i j k : ℕ) → StandIn ps i j → StandIn qs k j → ⊥

abbrev pub joined : Graph → Graph → Graph
joined g k = record { nodes = g.nodes ++ shifted_nodes (length g.nodes) k.nodes; root = g.root }

abbrev pub JoinLaw : Type 0
JoinLaw =
    (g k h : Graph) (vs ws us xs : List Value) (s : SameFrom g h vs ws) (t : SameFrom k h us xs) → AreApart s.pairs t.pairs →
    SameFrom (joined g k) h (vs ++ map (shifted_value (length g.nodes)) us) (ws ++ xs)
