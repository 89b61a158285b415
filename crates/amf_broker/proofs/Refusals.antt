-- A refusal publishes nothing, hands out nothing and ends nothing.
use Rattle.std.proofs.Common.{◌≡◌, ℕ, Bool, true, false, [], refl}
use Rattle.std.specs.Prelude.{◌+◌, ◌==◌, ◌||◌, ◌&&◌, Option, Some, None, if◌then◌else◌, not, nat_lt, nat_le, bytes_eq, length}
use Rattle.std.specs.List.{list_any}
use Rattle.amf_broker.specs.declared.topic.Topic.{Topic}
use Rattle.amf_broker.specs.declared.call.Call.{Call}
use Rattle.amf_broker.specs.declared.call.Call.TheVariants.{Connect, Subscribe, Unsubscribe, Publish, Poll, PollNumbered, Disconnect}
use Rattle.amf_broker.specs.declared.reply.Reply.{Reply}
use Rattle.amf_broker.specs.declared.reply.Reply.TheVariants.{Subscribed, Full, NoClient, NoTopic, TooLong, TooManySubs, NoSub, BadNumber}
use Rattle.amf_broker.specs.declared.limits.TheConstants.{MAX_CLIENTS, MAX_SUBS, MAX_SUBTOPIC, MAX_MESSAGE}
use Rattle.amf_broker.specs.State.{Board}
use Rattle.amf_broker.specs.Machine.{refusal, or_then, topic_refusal, client_refusal, is_connected, places_of, last_of}
use Rattle.amf_broker.specs.Delivery.{handed_to, published_to, ends, says_bye}

-- the reply tells of no event
pub record Quiet (r : Reply) : Type 0 where
  pub hands : (n : ℕ) → handed_to n r ≡ []
  pub publishes : (t : Topic) (c : Call) → published_to t c r ≡ None
  pub ends : (n k : ℕ) (c : Call) → ends n k c r ≡ false
  pub leaves : (k : ℕ) (c : Call) → says_bye k c r ≡ false
  pub begins : (n : ℕ) → r ≡ Subscribed n → ⊥

abbrev pub AllQuiet : Option Reply → Type 0
AllQuiet None = Unit {0}
AllQuiet (Some r) = Quiet r

quiet-or_then : (a b : Option Reply) → AllQuiet a → AllQuiet b → AllQuiet (or_then a b)
quiet-or_then None b p q = q
quiet-or_then (Some r) b p q = p

quiet-if : (b : Bool) (x y : Option Reply) → AllQuiet x → AllQuiet y → AllQuiet (if b then x else y)
quiet-if true x y p q = p
quiet-if false x y p q = q

quiet-topic : (s : Board) (t : Topic) → AllQuiet (topic_refusal s t)
quiet-topic s t = quiet-if (not (list_any (bytes_eq t.destination) s.destinations)) (Some (NoTopic t.destination)) _
    (record { hands = λ n. refl; publishes = λ t c. refl; ends = λ n k c. refl; leaves = λ k c. refl; begins = λ n e. cc })
    (quiet-if (nat_lt MAX_SUBTOPIC (length t.subtopic)) (Some (TooLong MAX_SUBTOPIC)) None
    (record { hands = λ n. refl; publishes = λ t c. refl; ends = λ n k c. refl; leaves = λ k c. refl; begins = λ n e. cc }) tt)

quiet-client : (s : Board) (k : ℕ) → AllQuiet (client_refusal s k)
quiet-client s k = quiet-if (is_connected k s.clients) None (Some (NoClient k)) tt
    (record { hands = λ n. refl; publishes = λ t c. refl; ends = λ n k c. refl; leaves = λ k c. refl; begins = λ n e. cc })

pub quiet-refusal : (s : Board) (c : Call) → AllQuiet (refusal s c)
quiet-refusal s Connect = quiet-if (nat_le MAX_CLIENTS (length s.clients)) (Some (Full MAX_CLIENTS)) None
    (record { hands = λ n. refl; publishes = λ t c. refl; ends = λ n k c. refl; leaves = λ k c. refl; begins = λ n e. cc }) tt
quiet-refusal s (Subscribe k t) = quiet-or_then (client_refusal s k) _ (quiet-client s k) (quiet-or_then (topic_refusal s t) _ (quiet-topic s t)
    (quiet-if (nat_le MAX_SUBS (places_of k s)) (Some (TooManySubs MAX_SUBS)) None
    (record { hands = λ n. refl; publishes = λ t c. refl; ends = λ n k c. refl; leaves = λ k c. refl; begins = λ n e. cc }) tt))
quiet-refusal s (Unsubscribe k sub) = quiet-or_then (client_refusal s k) _ (quiet-client s k)
    (quiet-if _ None (Some (NoSub sub)) tt
    (record { hands = λ n. refl; publishes = λ t c. refl; ends = λ n k c. refl; leaves = λ k c. refl; begins = λ n e. cc }))
quiet-refusal s (Publish k t message) = quiet-or_then (client_refusal s k) _ (quiet-client s k) (quiet-or_then (topic_refusal s t) _ (quiet-topic s t)
    (quiet-if (nat_lt MAX_MESSAGE (length message)) (Some (TooLong MAX_MESSAGE)) None
    (record { hands = λ n. refl; publishes = λ t c. refl; ends = λ n k c. refl; leaves = λ k c. refl; begins = λ n e. cc }) tt))
quiet-refusal s (Poll k) = quiet-client s k
quiet-refusal s (PollNumbered k number) = quiet-or_then (client_refusal s k) _ (quiet-client s k)
    (quiet-if (number == last_of k s.clients + 1 || (number == last_of k s.clients && nat_le 1 (last_of k s.clients))) None (Some (BadNumber (last_of k s.clients))) tt
    (record { hands = λ n. refl; publishes = λ t c. refl; ends = λ n k c. refl; leaves = λ k c. refl; begins = λ n e. cc }))
quiet-refusal s (Disconnect k) = quiet-client s k

-- the client of a call that is served is connected
pub connected-served : (s : Board) (k : ℕ) (rest : Option Reply) → or_then (client_refusal s k) rest ≡ None → is_connected k s.clients ≡ true
connected-served s k rest e = at (is_connected k s.clients) refl e
  where
    at : (b : Bool) → is_connected k s.clients ≡ b → or_then (if b then None else Some (NoClient k)) rest ≡ None → is_connected k s.clients ≡ true
    at true is e = is
    at false is e = cc
