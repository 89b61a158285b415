-- The machine on short tables of calls.
use Rattle.std.proofs.Common.{◌≡◌, ℕ, List, [], ◌∷◌, refl}
use Rattle.amf_broker.specs.declared.topic.Topic.{Topic}
use Rattle.amf_broker.specs.declared.call.Call.{Call}
use Rattle.amf_broker.specs.declared.call.Call.TheVariants.{Connect, Subscribe, Unsubscribe, Publish, Poll, PollNumbered, Disconnect}
use Rattle.amf_broker.specs.declared.reply.Answer.{Answer}
use Rattle.amf_broker.specs.declared.reply.Delivery.{Delivery}
use Rattle.amf_broker.specs.declared.reply.Reply.{Reply}
use Rattle.amf_broker.specs.declared.reply.Reply.TheVariants.{Client, Subscribed, Unsubscribed, Published, Batch, Numbered, Again, Bye, NoClient, NoSub, BadNumber}
use Rattle.amf_broker.specs.State.{State, first}
use Rattle.amf_broker.specs.Machine.{answer_to, after}

-- the answers to calls at their moments, one after another
abbrev answers : State → List (ℕ × Call) → List Answer
answers s [] = []
answers s (c ∷ calls) = answer_to s c.0 c.1 ∷ answers (after s c.0 c.1) calls

abbrev chat : Topic
chat = record { destination = 99 ∷ []; subtopic = [] }

abbrev news : Topic
news = record { destination = 110 ∷ []; subtopic = [] }

abbrev says : Reply → List ℕ → Answer
says r gone = record { reply = r; expired = gone }

abbrev a-delivery : ℕ → ℕ → ℕ → Delivery
a-delivery s n byte = record { sub = s; number = n; message = byte ∷ [] }

pub queues-are-in-order : answers (first ((99 ∷ []) ∷ [])) (
    (0, Connect) ∷ (0, Connect) ∷ (0, Subscribe 1 chat) ∷ (0, Subscribe 1 chat) ∷ (0, Subscribe 2 chat) ∷ (0, Publish 2 chat (97 ∷ [])) ∷ (0, Poll 1) ∷ (0, Publish 2 chat (98 ∷ [])) ∷ (0, Unsubscribe 1 1) ∷ (0, Publish 2 chat (99 ∷ [])) ∷ (0, Poll 1) ∷ (0, Poll 1) ∷ (0, Poll 2) ∷ (0, Unsubscribe 1 1) ∷ (0, Disconnect 2) ∷ (0, Poll 2) ∷ []
    ) ≡ says (Client 1) [] ∷ says (Client 2) [] ∷ says (Subscribed 1) [] ∷ says (Subscribed 2) [] ∷ says (Subscribed 3) [] ∷ says (Published 1 []) []
    ∷ says (Batch (a-delivery 1 1 97 ∷ a-delivery 2 1 97 ∷ []) []) [] ∷ says (Published 2 []) [] ∷ says (Unsubscribed 1) [] ∷ says (Published 3 []) []
    ∷ says (Batch (a-delivery 1 2 98 ∷ a-delivery 2 2 98 ∷ a-delivery 2 3 99 ∷ []) []) [] ∷ says (Batch [] []) [] ∷ says (Batch (a-delivery 3 1 97 ∷ a-delivery 3 2 98 ∷ a-delivery 3 3 99 ∷ []) []) []
    ∷ says (NoSub 1) [] ∷ says Bye [] ∷ says (NoClient 2) [] ∷ []
unfolding first answer_to after
queues-are-in-order = refl

pub topics-merge : answers (first ((99 ∷ []) ∷ (110 ∷ []) ∷ [])) (
    (0, Connect) ∷ (0, Subscribe 1 chat) ∷ (0, Subscribe 1 news) ∷ (0, Publish 1 news (97 ∷ [])) ∷ (0, Publish 1 chat (98 ∷ [])) ∷ (0, Publish 1 news (99 ∷ [])) ∷ (0, Unsubscribe 1 2) ∷ (0, Poll 1) ∷ []
    ) ≡ says (Client 1) [] ∷ says (Subscribed 1) [] ∷ says (Subscribed 2) [] ∷ says (Published 1 []) [] ∷ says (Published 2 []) [] ∷ says (Published 3 []) [] ∷ says (Unsubscribed 2) [] ∷ says (Batch (a-delivery 2 1 97 ∷ a-delivery 1 2 98 ∷ a-delivery 2 3 99 ∷ []) []) [] ∷ []
unfolding first answer_to after
topics-merge = refl

pub clients-expire : answers (first ((99 ∷ []) ∷ [])) (
    (0, Connect) ∷ (0, Subscribe 1 chat) ∷ (1000, Connect) ∷ (600000, Publish 2 chat (97 ∷ [])) ∷ (600000, Poll 1) ∷ (599000, Poll 2) ∷ (1200000, Poll 2) ∷ []
    ) ≡ says (Client 1) [] ∷ says (Subscribed 1) [] ∷ says (Client 2) [] ∷ says (Published 1 []) (1 ∷ []) ∷ says (NoClient 1) [] ∷ says (Batch [] []) [] ∷ says (NoClient 2) (2 ∷ []) ∷ []
unfolding first answer_to after
clients-expire = refl

pub polls-are-numbered : answers (first ((99 ∷ []) ∷ [])) (
    (0, Connect) ∷ (0, Subscribe 1 chat) ∷ (0, Publish 1 chat (97 ∷ [])) ∷ (0, PollNumbered 1 1) ∷ (0, Publish 1 chat (98 ∷ [])) ∷ (0, PollNumbered 1 1) ∷ (0, PollNumbered 1 2) ∷ (0, PollNumbered 1 1) ∷ (0, PollNumbered 1 0) ∷ (0, Poll 1) ∷ []
    ) ≡ says (Client 1) [] ∷ says (Subscribed 1) [] ∷ says (Published 1 []) [] ∷ says (Numbered 1 (a-delivery 1 1 97 ∷ []) []) [] ∷ says (Published 2 []) [] ∷ says (Again 1 (a-delivery 1 1 97 ∷ []) []) [] ∷ says (Numbered 2 (a-delivery 1 2 98 ∷ []) []) [] ∷ says (BadNumber 2) [] ∷ says (BadNumber 2) [] ∷ says (Batch [] []) [] ∷ []
unfolding first answer_to after
polls-are-numbered = refl
