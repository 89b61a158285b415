-- Both ends of a subscription, over a network that loses, repeats and reorders: what a listener wrote, by what was published.
use Rattle.std.specs.Prelude.{◌≡◌, ℕ, ◌<◌, true, false, List, [], ◌∷◌, ◌++◌, Option, Some, None, slice_get, AllPairs}
use Rattle.std.specs.List.{AllByRecursion}
use Rattle.amf_graph.specs.Graph.{Graph}
use Rattle.amf_graph.specs.Isomorphic.{Isomorphic}
use Rattle.amf_broker.specs.declared.topic.Topic.{Topic}
use Rattle.amf_broker.specs.declared.reply.Delivery.{Delivery}
use Rattle.amf_broker.specs.declared.reply.Answer.{Answer as Told}
use Rattle.amf_broker.specs.History.{Entry}
use Rattle.amf_broker.specs.Delivery.{Message, messages_for, due, rest, has_left, Begins, IsPrefix}
use Rattle.amf_once.specs.declared.event.Event.{Event}
use Rattle.amf_once.specs.declared.event.Event.TheVariants.{Ask, Arrive, Answer, Other}
use Rattle.amf_once.specs.Taking.{Said, fresh, repeated, other, says}
use Rattle.amf_once.specs.Course.{Course, start, step, run, pending}
use Rattle.amf_poll_session.specs.declared.request.Request.{Request}
use Rattle.amf_poll_session.specs.declared.request.Request.TheVariants.{Ping, Subscribe, Poll, Disconnect}
use Rattle.amf_poll_session.specs.Sessions.{Turn, no_link, link_fault, starved, bad, fault, reply, End, Session, first_session, unless_ended, listen}

-- what a reply to a poll brought: the number of the poll, and the delivered bodies
pub record Brought : Type 0 where
  pub number : ℕ
  pub bodies : List Graph

-- a reply is brought to a poll alone
abbrev pub brought_to : Request → List Graph → List Brought
brought_to (Poll n) bodies = record { number = n; bodies = bodies } ∷ []
brought_to Ping bodies = []
brought_to Subscribe bodies = []
brought_to Disconnect bodies = []

abbrev pub brought_by : Turn Graph → Request → List Brought
brought_by (reply ds bodies) r = brought_to r bodies
brought_by no_link r = []
brought_by link_fault r = []
brought_by starved r = []
brought_by (bad n) r = []
brought_by (fault code text) r = []

-- nothing is brought after the end
abbrev pub brought_before : Option End → Turn Graph → Request → List Brought
brought_before None turn r = brought_by turn r
brought_before (Some e) turn r = []

-- the replies to the polls of a session, in the order in which they came
abbrev pub replies_from : ℕ → List (Turn Graph) → Session Graph → List Brought
replies_from most [] s = []
replies_from most (turn ∷ turns) s = brought_before s.end turn s.request ++ replies_from most turns (unless_ended most s.end turn s)

-- a batch of this number, new or again
pub record Batch : Type 0 where
  pub number : ℕ
  pub deliveries : List Delivery

abbrev pub batch_in : Said → List Batch
batch_in (fresh n ds) = record { number = n; deliveries = ds } ∷ []
batch_in (repeated n ds) = record { number = n; deliveries = ds } ∷ []
batch_in other = []

abbrev pub batch_of : Option Told → List Batch
batch_of None = []
batch_of (Some a) = batch_in (says a.reply)

abbrev pub batch_at : Event → Course → List Batch
batch_at (Answer k) w = batch_of (slice_get w.answers k)
batch_at Ask w = []
batch_at (Arrive moment k) w = []
batch_at (Other moment call) w = []

-- the batches that reach the taker in a course, in the order in which they come
abbrev pub batches_from : List Event → Course → List Batch
batches_from [] w = []
batches_from (e ∷ es) w = batch_at e w ++ batches_from es (step e w)

-- By what the bytes of a stored message mean as the body of a delivered one.
module _ (meant : List ℕ → Graph) where
  -- one body for each delivery, in order, but for the numbers of its nodes
  abbrev pub AreBodies : List Delivery → List Graph → Type 0
  AreBodies [] [] = Unit {0}
  AreBodies (d ∷ ds) (b ∷ bodies) = Isomorphic (meant d.message) b × AreBodies ds bodies
  AreBodies _ _ = ⊥

  -- one body for each message, in order, but for the numbers of its nodes
  abbrev pub AreWritten : List Message → List Graph → Type 0
  AreWritten [] [] = Unit {0}
  AreWritten (m ∷ ms) (b ∷ bodies) = Isomorphic (meant m.bytes) b × AreWritten ms bodies
  AreWritten _ _ = ⊥

  -- the replies are these batches, one for one
  abbrev pub AreBatches : List Batch → List Brought → Type 0
  AreBatches [] [] = Unit {0}
  AreBatches (b ∷ batches) (r ∷ replies) = (r.number ≡ b.number) × AreBodies b.deliveries r.bodies × AreBatches batches replies
  AreBatches _ _ = ⊥

  -- What a listener has written, by a course of the broker with the listener as its client 1, and by a subscription of it that began just
  -- before the entries `since`.
  pub record IsDelivered (sub : ℕ) (topic : Topic) (since : List Entry) (w : Course) (written : List Graph) : Type 0 where
    -- it has written the body of each delivery that was taken, in order
    pub bodies : AreBodies w.taken written
    -- where all of these are of the subscription, as for a client that has no other, it has written the bodies of its messages
    pub messages : AllByRecursion (λ d. d.sub ≡ sub) w.taken → AreWritten (messages_for sub w.taken) written
    -- each message of the subscription was taken once, and in order: the number of each is below that of every later one
    pub in_order : AllPairs (λ (m later : Message). m.number < later.number) (messages_for sub w.taken)
    -- what was taken, what was handed out and is on its way, and what rests at the broker is what was published while it was subscribed
    pub nothing_lost : has_left 1 since ≡ false → messages_for sub w.taken ++ (messages_for sub (pending w) ++ rest sub 1 w.state) ≡ due sub 1 topic since
    -- if the client is gone, what was taken is a beginning of that
    pub nothing_else : has_left 1 since ≡ true → IsPrefix (messages_for sub w.taken) (due sub 1 topic since)

-- Over all turns of a listener and all events at a broker: if the replies to its polls are the batches that reach it, it has written what was
-- published. Requests may be lost, repeated and late, and answers too.
abbrev pub AllDelivered : Type 0
AllDelivered = (meant : List ℕ → Graph) (most : ℕ) (turns : List (Turn Graph)) (destinations : List (List ℕ)) (events : List Event)
    → AreBatches meant (batches_from events (start destinations)) (replies_from most turns first_session)
    → (earlier since : List Entry) (e : Entry) (sub : ℕ) (topic : Topic)
    → Begins e sub 1 topic → (run events (start destinations)).calls ≡ earlier ++ (e ∷ since)
    → IsDelivered meant sub topic since (run events (start destinations)) (listen most turns).written
