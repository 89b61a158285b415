-- How the batch of a poll is answered: the messages that were delivered, and then an invalidate for each subscription that ended.
use Rattle.std.specs.Prelude.{ℕ, List, [], ◌∷◌, ◌++◌, decimal, Option, Some, None}
use Rattle.amf_graph.specs.Graph.{Graph}
use Rattle.amf_broker.specs.declared.reply.Delivery.{Delivery}
use Rattle.flex_msgs.specs.declared.reply.Reply.{Reply}
use Rattle.flex_msgs.specs.Answers.{delivered_graph, invalidate_graph, sync_graph}
use Rattle.amf_answer_plan.specs.Causes.{no_form}
use Rattle.amf_answer_plan.specs.Plan.{Plan, gives, ◌>>=◌, stored_in}
use Rattle.amf_answer_plan.specs.Replies.{Context, Answer, fresh, failed, answered, acknowledge_null}

-- of the poll an invalidate has the DSId and the messageId, and no destination
abbrev pub about_poll : Context → Context
about_poll k = record { destination = []; ds_id = k.ds_id; correlation = k.correlation }

-- an invalidate for each subscription that ended, in order; each takes two words and a moment
abbrev pub invalidates : Context → List ℕ → Plan (List Graph)
invalidates k [] = gives []
invalidates k (sub ∷ ended) = do
  r ← fresh (about_poll k) (decimal sub)
  gs ← invalidates k ended
  gives (invalidate_graph r ∷ gs)

-- the graph in front of others, where there are both
abbrev pub in_front : Option Graph → Option (List Graph) → Option (List Graph)
in_front (Some g) (Some gs) = Some (g ∷ gs)
in_front _ _ = None

-- a stored message with its subscription's number as client
abbrev pub delivered : ℕ → Option Graph → Option Graph
delivered sub None = None
delivered sub (Some g) = Some (delivered_graph (decimal sub) g)

-- the messages that were delivered, in order, unless one is no stored message
abbrev pub deliveries : List Delivery → Plan (Option (List Graph))
deliveries [] = gives (Some [])
deliveries (d ∷ ds) = do
  g ← stored_in d.message
  gs ← deliveries ds
  gives (in_front (delivered d.sub g) gs)

-- The sync with these messages and invalidates. Where it has no spelling, or a message is none, it turns into the error that says so, which keeps what the sync took.
abbrev pub synced : Reply → Option (List Graph) → List Graph → Plan Answer
synced r None ends = gives (failed r no_form)
synced r (Some gs) ends = answered r (sync_graph r (gs ++ ends))

abbrev pub sync : Context → List Delivery → List ℕ → Plan Answer
sync k ds ended = do
  r ← fresh k []
  ends ← invalidates k ended
  gs ← deliveries ds
  synced r gs ends

-- a batch with nothing in it is acknowledged
abbrev pub batch : Context → List Delivery → List ℕ → Plan Answer
batch k [] [] = acknowledge_null k []
batch k ds ended = sync k ds ended
