-- What is true of every board: the clients and the subscriptions stand in order of their numbers, no client has more than it may, and numbers that were not given yet are nowhere. A device of proofs.
use Rattle.std.specs.Prelude.{◌≡◌, ℕ, ◌+◌, ◌≤◌, ◌==◌, ◌&&◌, nat_le, Bool, true, false, List, [], ◌∷◌, length, filter}
use Rattle.amf_broker.specs.declared.limits.TheConstants.{MAX_CLIENTS, MAX_SUBS}
use Rattle.amf_broker.specs.State.{Board, Connection}
use Rattle.amf_broker.specs.Machine.{is_connected, places_of, queue_of}
use Rattle.amf_broker.specs.Delivery.{messages_for}

-- no subscription of this number is live, and nothing is queued for it
pub record IsNowhere (sub : ℕ) (b : Board) : Type 0 where
  pub not_live : filter (λ u. u.id == sub) b.subs ≡ []
  pub not_queued : (client : ℕ) → messages_for sub (queue_of client b.clients) ≡ []

-- the numbers of these rise, from n on
abbrev pub rises_by : {X : Type 0} → (X → ℕ) → ℕ → List X → Bool
rises_by number n [] = true
rises_by number n (x ∷ xs) = nat_le n (number x) && rises_by number (number x + 1) xs

-- the clients stand in order of their numbers, from n on
abbrev pub rises : ℕ → List Connection → Bool
rises n clients = rises_by (λ c. c.id) n clients

-- the numbers rise
abbrev pub are_in_order : List ℕ → Bool
are_in_order ids = rises_by (λ id. id) 0 ids

pub record IsSound (b : Board) : Type 0 where
  pub ordered : rises 0 b.clients ≡ true
  pub subs_ordered : rises_by (λ u. u.id) 0 b.subs ≡ true
  pub few : length b.clients ≤ MAX_CLIENTS
  pub places : (client : ℕ) → places_of client b ≤ MAX_SUBS
  pub new_clients : (id : ℕ) → b.next_client ≤ id → is_connected id b.clients ≡ false
  pub new_subs : (sub : ℕ) → b.next_sub ≤ sub → IsNowhere sub b
  pub new_messages : (number : ℕ) → b.next_message ≤ number → (client : ℕ) → filter (λ d. d.number == number) (queue_of client b.clients) ≡ []
