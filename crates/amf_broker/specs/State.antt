-- The state of a broker: its destinations, the present moment, its clients with what waits for each, its live subscriptions, and the next numbers.
use Rattle.std.specs.Prelude.{ℕ, List, []}
use Rattle.amf_broker.specs.declared.topic.Topic.{Topic}
use Rattle.amf_broker.specs.declared.reply.Delivery.{Delivery}

-- a connected client, with the deliveries that wait for it and its subscriptions that a full queue ended since its last poll
pub record Connection : Type 0 where
  pub id : ℕ
  pub queue : List Delivery
  pub ended : List ℕ
  -- the moment at which a call last named it
  pub seen : ℕ
  -- the number of its last numbered poll, or 0, and the batch that was handed out then
  pub last : ℕ
  pub kept : List Delivery
  pub kept_ended : List ℕ

-- a live subscription
pub record Subscription : Type 0 where
  pub id : ℕ
  pub client : ℕ
  pub topic : Topic

-- all but the count of calls
pub record Board : Type 0 where
  pub destinations : List (List ℕ)
  -- the present moment, in milliseconds
  pub moment : ℕ
  -- in order of their numbers
  pub clients : List Connection
  -- in order of their numbers
  pub subs : List Subscription
  pub next_client : ℕ
  pub next_sub : ℕ
  pub next_message : ℕ

pub record State : Type 0 where
  pub board : Board
  -- how many calls were answered
  pub calls : ℕ

abbrev pub first_board : List (List ℕ) → Board
first_board names = record { destinations = names; moment = 0; clients = []; subs = []; next_client = 1; next_sub = 1; next_message = 1 }

-- a new broker of these destinations
unfoldable pub first : List (List ℕ) → State
first names = record { board = first_board names; calls = 0 }
