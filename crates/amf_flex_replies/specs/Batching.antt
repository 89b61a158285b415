-- A device of proofs: what the code of batches makes: messages that were read from their bytes, and messages that are added one after another.
use Rattle.std.specs.Prelude.{◌≡◌, ℕ, ◌+◌, ◌≤◌, Bool, true, false, List, ◌∷◌, [], ◌++◌, length, decimal, Option, Some, None, Result}
use Rattle.amf_wire.specs.Style.{free}
use Rattle.amf_io.specs.declared.ends.ReadEnd.{ReadEnd}
use Rattle.amf_io.specs.Stretch.{stretch, AnswersOf}
use Rattle.amf_graph.specs.declared.value.Value.{Value as Stored}
use Rattle.amf_graph.specs.Arena.{Arena}
use Rattle.amf_graph.specs.Building.{no_arena}
use Rattle.amf_graph.specs.Graph.{Graph}
use Rattle.amf_graph.specs.Isomorphic.{Isomorphic}
use Rattle.amf_graph.specs.Rooted.{RootedArena, content}
use Rattle.amf3_spelling.specs.Values3.{IsValue3}
use Rattle.amf3_spelling.specs.Spells3.{IsSpelling3}
use Rattle.amf_broker.specs.declared.limits.TheConstants.{MAX_MESSAGE}
use Rattle.amf_broker.specs.declared.reply.Delivery.{Delivery}
use Rattle.flex_msgs.specs.declared.reply.Reply.{Reply}
use Rattle.flex_msgs.specs.Answers.{delivered_graph, sync_graph}
use Rattle.flex_msgs.specs.FlexLaws.{AddsBatch}
use Rattle.amf_flex_replies.specs.declared.sync_messages.Batch.{Batch}
use Rattle.amf_answer_plan.specs.Batches.{deliveries, synced}
use Rattle.amf_answer_plan.specs.Plan.{Plan, ◌>>=◌}
use Rattle.amf_answer_plan.specs.Replies.{Answer}
use Rattle.amf_answer_plan.specs.Runs.{IsStored, nothing, gave, Runs}
use Rattle.amf_answer_plan.specs.Serving.{none_left}

-- how the reader of one value ends, within the most bytes of a message
abbrev pub AnswersValue : Type 0 → List ℕ → List ℕ → ℕ → ℕ → Result RootedArena ReadEnd → Type 0
AnswersValue told input rest at place result = AnswersOf (λ g. IsSpelling3 free (content g)) IsValue3 (stretch told input rest at place MAX_MESSAGE) result

-- these messages were added one after another, and the values are their roots
abbrev pub Holds : Arena → List Stored → List Graph → Type 0
Holds a values gs = AddsBatch no_arena gs values a

abbrev pub HoldsAll : Batch → List Graph → Type 0
HoldsAll b gs = Holds b.builder b.values.items gs

-- these messages came behind those that were there
abbrev pub Adds : Batch → Batch → List Graph → Type 0
Adds old new more = (gs : List Graph) → HoldsAll old gs → HoldsAll new (gs ++ more)

-- a delivery's message was added, or it is no stored one
abbrev pub AddsDelivery : Delivery → Bool → Batch → Batch → Type 0
AddsDelivery d true old new = (g : Graph) × IsStored g d.message × Adds old new (delivered_graph (decimal d.sub) g ∷ [])
AddsDelivery d false old new = ((g : Graph) → IsStored g d.message → ⊥) × (new ≡ old)

-- so many texts, traits and nodes more at most
pub record GrewWithin (old new : Arena) (t s n : ℕ) : Type 0 where
  pub texts : length new.texts ≤ length old.texts + t
  pub traits : length new.traits ≤ length old.traits + s
  pub nodes : length new.nodes ≤ length old.nodes + n

-- the messages of the deliveries are these graphs, or one of them is no stored one
abbrev pub Reads : List Delivery → Option (List Graph) → Type 0
Reads ds gs = Runs (deliveries ds) none_left nothing (gave gs none_left)

abbrev pub ReadsAll : List Delivery → Option Batch → Type 0
ReadsAll ds None = Reads ds None
ReadsAll ds (Some b) = (gs : List Graph) × Reads ds (Some gs) × HoldsAll b gs

-- the sync of these deliveries and these invalidates, if there is one
abbrev pub IsSync : Reply → List Delivery → List Graph → Option RootedArena → Type 0
IsSync r ds ends None = Reads ds None
IsSync r ds ends (Some x) = (gs : List Graph) × Reads ds (Some gs) × Isomorphic (sync_graph r (gs ++ ends)) (content x)

-- what is answered once the invalidates are there
abbrev pub say_sync : Reply → List Delivery → List Graph → Plan Answer
say_sync r ds ends = do
  gs ← deliveries ds
  synced r gs ends
