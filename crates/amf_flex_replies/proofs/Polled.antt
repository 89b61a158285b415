-- The call of a poll, and replies to it of which nothing else is said.
use Rattle.std.proofs.Common.{◌≡◌, ◌∙◌, ℕ, List, [], Option, Some, None, refl, ap}
use Rattle.amf_graph.specs.Graph.{Value}
use Rattle.amf_broker.specs.declared.call.Call.{Call}
use Rattle.amf_broker.specs.declared.reply.Delivery.{Delivery}
use Rattle.amf_broker.specs.declared.reply.Reply.{Reply}
use Rattle.amf_broker.specs.declared.reply.Reply.TheVariants.{Batch, Numbered, Again}
use Rattle.flex_msgs.specs.Lookup as flex
use Rattle.amf_answer_plan.specs.Commands.{named_in, poll_call, acknowledged, say_batch}
use Rattle.amf_answer_plan.specs.Replies.{Context}

named_same : (x : List ℕ) (pairs : Option (List (List ℕ × Value))) → flex.named_in x pairs ≡ named_in x pairs
named_same x None = refl
named_same x (Some ps) = refl

pub call_made : (made : Call) (number client : ℕ) (v : Value) (x : List ℕ) (pairs : Option (List (List ℕ × Value))) → made ≡ poll_call number v → number ≡ client → v ≡ flex.named_in x pairs → made ≡ poll_call client (named_in x pairs)
call_made made number client v x pairs e n h = e ∙ ap (λ (k : ℕ). poll_call k v) n ∙ ap (poll_call client) (h ∙ named_same x pairs)

pub other_polled : (k : Context) (r : Reply) → ((ds : List Delivery) (ended : List ℕ) → r ≡ Batch ds ended → ⊥) → ((number : ℕ) (ds : List Delivery) (ended : List ℕ) → r ≡ Numbered number ds ended → ⊥) → ((number : ℕ) (ds : List Delivery) (ended : List ℕ) → r ≡ Again number ds ended → ⊥) → acknowledged k [] r ≡ say_batch k r
other_polled k (Batch ds ended) a b c = absurd (a ds ended refl)
other_polled k (Numbered number ds ended) a b c = absurd (b number ds ended refl)
other_polled k (Again number ds ended) a b c = absurd (c number ds ended refl)
other_polled k r a b c = refl
