-- What our own gateway answers to a poll, as a listener reads it.
use Rattle.std.specs.Prelude.{◌≡◌, ℕ, ◌<◌, List, [], ◌∷◌, ◌++◌, length, map, decimal}
use Rattle.std.specs.List.{AllByRecursion, AllZip}
use Rattle.amf_graph.specs.Graph.{Value, Graph}
use Rattle.amf_graph.specs.Reached.{Reached}
use Rattle.amf_graph.specs.Isomorphic.{Isomorphic}
use Rattle.flex_msgs.specs.declared.reply.Reply.{Reply}
use Rattle.flex_msgs.specs.Messages.{null_value}
use Rattle.flex_msgs.specs.Answers.{values_at, delivered_graph, invalidate_graph, sync_graph, acknowledge_graph}
use Rattle.amf_poll_session.specs.declared.request.Request.{Request}
use Rattle.amf_poll_session.specs.declared.request.Request.TheVariants.{Poll}
use Rattle.amf_poll_session.specs.Replies.{seen_of}
use Rattle.amf_poll_session.specs.Sessions.{Turn, reply, turn_of}

-- a message as it is delivered: with the number of its subscription
pub record BatchMessage : Type 0 where
  pub subscription : List ℕ
  pub message : Graph

abbrev pub first_of : List Value → Value
first_of [] = null_value
first_of (v ∷ vs) = v

-- the body of a stored message is the first of its values
abbrev pub body_in : Graph → Graph
body_in s = record s { root = first_of (values_at s s.root) }

-- a stored message has its eight values, and each node to which its body leads
pub record IsStored (s : Graph) : Type 0 where
  pub eight : length (values_at s s.root) ≡ 8
  pub there : (i : ℕ) → Reached (body_in s) i → i < length s.nodes

-- the messages of a batch, and an invalidate for each subscription that ended
abbrev pub messages_of : List BatchMessage → List Reply → List Graph
messages_of deliveries ends = map (λ d. delivered_graph d.subscription d.message) deliveries ++ map invalidate_graph ends

-- one body for each message, in order, but for the numbers of its nodes
abbrev pub AreBodiesOf : List BatchMessage → List Graph → Type 0
AreBodiesOf [] [] = Unit {0}
AreBodiesOf (d ∷ ds) (b ∷ bodies) = Isomorphic (body_in d.message) b × AreBodiesOf ds bodies
AreBodiesOf _ _ = ⊥

-- the same turn, but for the numbers of the nodes of its bodies
abbrev pub TurnsAlike : Turn Graph → Turn Graph → Type 0
TurnsAlike (reply ds bodies) (reply es others) = (ds ≡ es) × AllZip Isomorphic bodies others
TurnsAlike turn other = turn ≡ other

-- A batch that answers poll n is read as a reply with the bodies of its messages, and so is the acknowledgement of an empty batch.
pub record BatchesAreRead : Type 0 where
  pub sync : (n : ℕ) (r : Reply) (deliveries : List BatchMessage) (ends : List Reply) → AllByRecursion (λ d. IsStored d.message) deliveries → r.correlation ≡ decimal n
      → (bodies : List Graph) × (turn_of (Poll n) (seen_of (sync_graph r (messages_of deliveries ends))) ≡ reply r.ds_id bodies) × AreBodiesOf deliveries bodies
  pub empty : (n : ℕ) (r : Reply) → r.correlation ≡ decimal n
      → turn_of (Poll n) (seen_of (acknowledge_graph r (record { nodes = []; root = null_value }) null_value)) ≡ reply r.ds_id []
  -- isomorphic answers are read alike
  pub alike : (r : Request) (g h : Graph) → Isomorphic g h → TurnsAlike (turn_of r (seen_of g)) (turn_of r (seen_of h))
