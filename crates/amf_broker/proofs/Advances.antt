-- Boards at the moment of a call.
use Rattle.std.proofs.Common.{◌≡◌, ℕ, ◌+◌, ◌<◌, true, false, List, [], ◌∷◌, ◌++◌, length, refl, sym, ◌∙◌, ap, arith}
use Rattle.std.specs.Prelude.{filter, map, Some, None, is_some}
use Rattle.std.specs.List.{list_any}
use Rattle.amf_broker.specs.declared.limits.TheConstants.{MAX_CLIENTS, MAX_SUBS}
use Rattle.amf_broker.specs.declared.topic.Topic.{Topic}
use Rattle.amf_broker.specs.State.{Board, Connection, Subscription}
use Rattle.amf_broker.specs.Machine.{client_at, is_connected, at_client, queue_of, queue_in, ended_of, ended_in, last_of, last_in, kept_of, kept_in, kept_ended_of, kept_ended_in, places_of, next_batch, connected, subscribed, new_client, advanced, sighted, seen_at, is_idle}
use Rattle.amf_broker.specs.Memory.{nobody}
use Rattle.amf_broker.specs.Moments.{clients_left, subs_left}
use Rattle.amf_broker.specs.Sound.{IsSound}
use Rattle.amf_broker.proofs.Sounds.{sound-advanced, sound-connected, sound-subscribed}
use Rattle.amf_broker.proofs.Leavers.{advanced-is, client-left, stays-connected}

module _ (m : ℕ) (ks : List ℕ) (b : Board) (cs : List Connection) (us : List Subscription) (clients : cs ≡ clients_left ks b.clients) (subs : us ≡ subs_left ks b.subs) where
  pub advance-state : record b { moment = m; clients = cs; subs = us } ≡ advanced m ks b
  advance-state = rw (clients, subs) (sym (advanced-is m ks b))

  pub advance-sound : IsSound b → IsSound (record b { moment = m; clients = cs; subs = us })
  advance-sound s = rw advance-state (sound-advanced m ks b s)

  pub connect-state : (ds : List Connection) → ds ≡ cs ++ (new_client b.next_client m ∷ []) → record b { moment = m; clients = ds; subs = us; next_client = b.next_client + 1 } ≡ (connected (advanced m ks b)).1
  connect-state ds pushed = rw (pushed, clients, subs, advanced-is m ks b) refl

  pub connect-sound : (ds : List Connection) → ds ≡ cs ++ (new_client b.next_client m ∷ []) → IsSound b → length (advanced m ks b).clients < MAX_CLIENTS → IsSound (record b { moment = m; clients = ds; subs = us; next_client = b.next_client + 1 })
  connect-sound ds pushed s few = rw (connect-state ds pushed) (sound-connected (advanced m ks b) (sound-advanced m ks b s) few)

  pub subscribe-state : (client : ℕ) (topic : Topic) (vs : List Subscription) → vs ≡ us ++ (record { id = b.next_sub; client = client; topic = topic } ∷ []) → record b { moment = m; clients = cs; subs = vs; next_sub = b.next_sub + 1 } ≡ (subscribed (advanced m ks b) client topic).1
  subscribe-state client topic vs pushed = rw (pushed, clients, subs, advanced-is m ks b) refl

  pub subscribe-sound : (client : ℕ) (topic : Topic) (vs : List Subscription) → vs ≡ us ++ (record { id = b.next_sub; client = client; topic = topic } ∷ []) → IsSound b → places_of client (advanced m ks b) < MAX_SUBS → IsSound (record b { moment = m; clients = cs; subs = vs; next_sub = b.next_sub + 1 })
  subscribe-sound client topic vs pushed s few = rw (subscribe-state client topic vs pushed) (sound-subscribed (advanced m ks b) client topic (sound-advanced m ks b s) few)

module _ (m : ℕ) (ks : List ℕ) (b : Board) where
  pub next-client : (advanced m ks b).next_client ≡ b.next_client
  next-client = rw (advanced-is m ks b) refl

  pub next-sub : (advanced m ks b).next_sub ≡ b.next_sub
  next-sub = rw (advanced-is m ks b) refl

  pub next-message : (advanced m ks b).next_message ≡ b.next_message
  next-message = rw (advanced-is m ks b) refl

  pub destinations-at : (advanced m ks b).destinations ≡ b.destinations
  destinations-at = rw (advanced-is m ks b) refl

  pub subs-at : (advanced m ks b).subs ≡ subs_left ks b.subs
  subs-at = rw (advanced-is m ks b) refl

  pub clients-at : (advanced m ks b).clients ≡ clients_left ks b.clients
  clients-at = rw (advanced-is m ks b) refl

  -- a client that is connected at that moment was there before, and is as it was
  pub client-here : (j : ℕ) → is_connected j (advanced m ks b).clients ≡ true → client_at j (advanced m ks b).clients ≡ client_at j b.clients
  client-here j here = ap (client_at j) clients-at ∙ client-left j ks b.clients (stays-connected j ks b.clients (rw clients-at at here))

  pub connected-before : (j : ℕ) → is_connected j (advanced m ks b).clients ≡ true → is_connected j b.clients ≡ true
  connected-before j here = ap is_some (sym (client-here j here)) ∙ here

  pub last-here : (j : ℕ) → is_connected j (advanced m ks b).clients ≡ true → last_of j b.clients ≡ last_of j (advanced m ks b).clients
  last-here j here = ap last_in (sym (client-here j here))

  pub queue-here : (j : ℕ) → is_connected j (advanced m ks b).clients ≡ true → queue_of j b.clients ≡ queue_of j (advanced m ks b).clients
  queue-here j here = ap queue_in (sym (client-here j here))

  pub ended-here : (j : ℕ) → is_connected j (advanced m ks b).clients ≡ true → ended_of j b.clients ≡ ended_of j (advanced m ks b).clients
  ended-here j here = ap ended_in (sym (client-here j here))

  pub reply-here : (j : ℕ) → is_connected j (advanced m ks b).clients ≡ true → (number : ℕ) → (next_batch b j number).0 ≡ (next_batch (advanced m ks b) j number).0
  reply-here j here number = rw (queue-here j here, ended-here j here) refl

  pub kept-here : (j : ℕ) → is_connected j (advanced m ks b).clients ≡ true → kept_of j b.clients ≡ kept_of j (advanced m ks b).clients
  kept-here j here = ap kept_in (sym (client-here j here))

  pub kept_ended-here : (j : ℕ) → is_connected j (advanced m ks b).clients ≡ true → kept_ended_of j b.clients ≡ kept_ended_of j (advanced m ks b).clients
  kept_ended-here j here = ap kept_ended_in (sym (client-here j here))

-- Who expires.

pub none-idle : (m : ℕ) (cs : List Connection) → list_any (is_idle m) cs ≡ false → map (λ c. c.id) (filter (is_idle m) cs) ≡ []
none-idle m [] none = refl
none-idle m (c ∷ cs) none = let ih = none-idle m cs in grind (arith, ih)

pub some-idle : (m : ℕ) (cs : List Connection) → list_any (is_idle m) cs ≡ true → nobody (map (λ c. c.id) (filter (is_idle m) cs)) ≡ false
some-idle m [] some = cc
some-idle m (c ∷ cs) some = let ih = some-idle m cs in grind (arith, ih)

-- Who is seen.

pub sighted-at : (k : ℕ) (b : Board) (cs : List Connection) → cs ≡ at_client k (seen_at b.moment) b.clients → record b { clients = cs } ≡ sighted (Some k) b
sighted-at k b cs is = rw is refl

at-none : (k : ℕ) (f : Connection → Connection) (cs : List Connection) → client_at k cs ≡ None → at_client k f cs ≡ cs
at-none k f [] none = refl
at-none k f (c ∷ cs) none = let ih = at-none k f cs in grind (arith, ih)

pub sighted-none : (k : ℕ) (b : Board) → client_at k b.clients ≡ None → b ≡ sighted (Some k) b
sighted-none k b none = rw (at-none k (seen_at b.moment) b.clients none) refl
