-- The board at the moment of a call, once those that expire have left. A device of proofs.
use Rattle.std.specs.Prelude.{ℕ, Bool, not, ◌==◌, ◌&&◌, List, filter}
use Rattle.std.specs.List.{list_any}
use Rattle.amf_broker.specs.declared.moment.Moment.{Moment}
use Rattle.amf_broker.specs.declared.topic.Topic.{Topic}
use Rattle.amf_broker.specs.State.{Board, Connection, Subscription}
use Rattle.amf_broker.specs.Machine.{advanced, is_same_topic}

abbrev pub stays : List ℕ → ℕ → Bool
stays expired client = not (list_any (λ id. id == client) expired)

abbrev pub clients_left : List ℕ → List Connection → List Connection
clients_left expired clients = filter (λ c. stays expired c.id) clients

abbrev pub subs_left : List ℕ → List Subscription → List Subscription
subs_left expired subs = filter (λ u. stays expired u.client) subs

-- the subscription is of the topic, and its client stays
abbrev pub is_reached : List ℕ → Topic → Subscription → Bool
is_reached expired topic u = stays expired u.client && is_same_topic u.topic topic

abbrev pub board_at : Moment → Board → Board
board_at m b = advanced m.present m.expired.items b
