-- What a change of one client's connection does to what waits for each client.
use Rattle.std.proofs.Common.{◌≡◌, ℕ, ◌+◌, true, not, List, [], ◌∷◌, ◌++◌, length, refl, sym, ap, ◌∙◌, arith}
use Rattle.std.specs.Prelude.{◌==◌, filter, ◌≢◌}
use Rattle.std.proofs.lemmas.Bool.Decides.{nat_tests}
use Rattle.amf_broker.specs.declared.reply.Delivery.{Delivery}
use Rattle.amf_broker.specs.State.{Connection}
use Rattle.amf_broker.specs.Machine.{client_at, is_connected, at_client, queue_of, ended_of, with_delivery, emptied, kept_as, seen_at, new_client}
use Rattle.amf_broker.specs.Delivery.{Message, messages_for}
use Rattle.amf_broker.specs.Sound.{rises}

-- the messages for a subscription that wait for a client
abbrev pub waiting : ℕ → ℕ → List Connection → List Message
waiting sub client clients = messages_for sub (queue_of client clients)

pub connected-at : (j k : ℕ) (f : Connection → Connection) (cs : List Connection) → ((c : Connection) → (f c).id ≡ c.id) → is_connected j (at_client k f cs) ≡ is_connected j cs
connected-at j k f [] keeps = refl
connected-at j k f (c ∷ cs) keeps = let ih = connected-at j k f cs keeps in let e = keeps c in grind (arith, nat_tests, ih, e)

-- a change that leaves the queue leaves what waits
pub queue_of-at : (j k : ℕ) (f : Connection → Connection) (cs : List Connection) → ((c : Connection) → ((f c).id ≡ c.id) × ((f c).queue ≡ c.queue)) → queue_of j (at_client k f cs) ≡ queue_of j cs
queue_of-at j k f [] keeps = refl
queue_of-at j k f (c ∷ cs) keeps = let ih = queue_of-at j k f cs keeps in let e = keeps c in grind (arith, nat_tests, ih, e)

-- a delivery comes to the queue of its client
pub queue_of-delivery : (k : ℕ) (d : Delivery) (cs : List Connection) → is_connected k cs ≡ true → queue_of k (at_client k (with_delivery d) cs) ≡ queue_of k cs ++ (d ∷ [])
queue_of-delivery k d [] connected = cc
queue_of-delivery k d (c ∷ cs) connected = let ih = queue_of-delivery k d cs in grind (arith, nat_tests, ih)

-- another client's queue stays
pub queue_of-other : (j k : ℕ) (f : Connection → Connection) (cs : List Connection) → j ≢ k → ((c : Connection) → (f c).id ≡ c.id) → queue_of j (at_client k f cs) ≡ queue_of j cs
queue_of-other j k f [] other keeps = refl
queue_of-other j k f (c ∷ cs) other keeps = let ih = queue_of-other j k f cs other keeps in let e = keeps c in grind (arith, nat_tests, ih, e)

-- an emptied queue is empty
pub queue_of-emptied : (k : ℕ) (cs : List Connection) → queue_of k (at_client k emptied cs) ≡ []
queue_of-emptied k [] = refl
queue_of-emptied k (c ∷ cs) = let ih = queue_of-emptied k cs in grind (arith, nat_tests, ih)

-- a new client's queue is empty
pub queue_of-new : (j k m : ℕ) (cs : List Connection) → queue_of j (cs ++ (new_client k m ∷ [])) ≡ queue_of j cs
queue_of-new j k m [] = grind (arith, nat_tests)
queue_of-new j k m (c ∷ cs) = let ih = queue_of-new j k m cs in grind (arith, nat_tests, ih)

pub connected-new : (j : ℕ) (n : Connection) (cs : List Connection) → is_connected j cs ≡ true → is_connected j (cs ++ (n ∷ [])) ≡ true
connected-new j n [] connected = cc
connected-new j n (c ∷ cs) connected = let ih = connected-new j n cs in grind (arith, nat_tests, ih)

-- a client that left has no queue
pub queue_of-gone : (k : ℕ) (cs : List Connection) → queue_of k (filter (λ c. not (c.id == k)) cs) ≡ []
queue_of-gone k [] = refl
queue_of-gone k (c ∷ cs) = let ih = queue_of-gone k cs in grind (arith, nat_tests, ih)

pub client_at-stays : (j k : ℕ) (cs : List Connection) → j ≢ k → client_at j (filter (λ c. not (c.id == k)) cs) ≡ client_at j cs
client_at-stays j k [] other = refl
client_at-stays j k (c ∷ cs) other = let ih = client_at-stays j k cs other in grind (arith, nat_tests, ih)

-- one message more, of this subscription or of another
pub messages_for-own : (n : ℕ) (d : Delivery) (q : List Delivery) → d.sub ≡ n → messages_for n (q ++ (d ∷ [])) ≡ messages_for n q ++ ((record { number = d.number; bytes = d.message }) ∷ [])
messages_for-own n d [] own = grind (arith, nat_tests)
messages_for-own n d (x ∷ q) own = let ih = messages_for-own n d q own in grind (arith, nat_tests, ih)

pub messages_for-other : (n : ℕ) (d : Delivery) (q : List Delivery) → d.sub ≢ n → messages_for n (q ++ (d ∷ [])) ≡ messages_for n q
messages_for-other n d [] other = grind (arith, nat_tests)
messages_for-other n d (x ∷ q) other = let ih = messages_for-other n d q other in grind (arith, nat_tests, ih)

-- a delivery of another subscription changes nothing of what waits for this one
pub waiting-other : (n j k : ℕ) (d : Delivery) (cs : List Connection) → d.sub ≢ n → waiting n j (at_client k (with_delivery d) cs) ≡ waiting n j cs
waiting-other n j k d [] other = refl
waiting-other n j k d (c ∷ cs) other = let ih = waiting-other n j k d cs other in let e = messages_for-other n d c.queue other in grind (arith, nat_tests, ih, e)

pub length-at : (k : ℕ) (f : Connection → Connection) (cs : List Connection) → length (at_client k f cs) ≡ length cs
length-at k f [] = refl
length-at k f (c ∷ cs) = let ih = length-at k f cs in grind (arith, nat_tests, ih)

-- the order stays where the numbers do
pub rises-at : (n k : ℕ) (f : Connection → Connection) (cs : List Connection) → ((c : Connection) → (f c).id ≡ c.id) → rises n (at_client k f cs) ≡ rises n cs
rises-at n k f [] keeps = refl
rises-at n k f (c ∷ cs) keeps = let ih = rises-at (c.id + 1) k f cs keeps in let e = keeps c in grind (arith, nat_tests, ih, e)

-- Two lists of clients that differ in no number, no queue and no list of ended subscriptions.
pub record Same (cs ds : List Connection) : Type 0 where
  pub many : length ds ≡ length cs
  pub here : (j : ℕ) → is_connected j ds ≡ is_connected j cs
  pub queues : (j : ℕ) → queue_of j ds ≡ queue_of j cs
  pub ends : (j : ℕ) → ended_of j ds ≡ ended_of j cs
  pub order : (n : ℕ) → rises n ds ≡ rises n cs

ended_of-seen : (j k m : ℕ) (cs : List Connection) → ended_of j (at_client k (seen_at m) cs) ≡ ended_of j cs
ended_of-seen j k m [] = refl
ended_of-seen j k m (c ∷ cs) = let ih = ended_of-seen j k m cs in grind (arith, nat_tests, ih)

pub same-seen : (k m : ℕ) (cs : List Connection) → Same cs (at_client k (seen_at m) cs)
same-seen k m cs = record {
  many = length-at k (seen_at m) cs;
  here = λ j. connected-at j k (seen_at m) cs (λ c. refl);
  queues = λ j. queue_of-at j k (seen_at m) cs (λ c. (refl, refl));
  ends = λ j. ended_of-seen j k m cs;
  order = λ n. rises-at n k (seen_at m) cs (λ c. refl);
}

queue_of-kept : (j k n : ℕ) (cs : List Connection) → queue_of j (at_client k (kept_as n) cs) ≡ queue_of j (at_client k emptied cs)
queue_of-kept j k n [] = refl
queue_of-kept j k n (c ∷ cs) = let ih = queue_of-kept j k n cs in grind (arith, nat_tests, ih)

ended_of-kept : (j k n : ℕ) (cs : List Connection) → ended_of j (at_client k (kept_as n) cs) ≡ ended_of j (at_client k emptied cs)
ended_of-kept j k n [] = refl
ended_of-kept j k n (c ∷ cs) = let ih = ended_of-kept j k n cs in grind (arith, nat_tests, ih)

-- keeping a batch does to what waits what a poll does
pub same-kept : (k n : ℕ) (cs : List Connection) → Same (at_client k emptied cs) (at_client k (kept_as n) cs)
same-kept k n cs = record {
  many = length-at k (kept_as n) cs ∙ sym (length-at k emptied cs);
  here = λ j. connected-at j k (kept_as n) cs (λ c. refl) ∙ sym (connected-at j k emptied cs (λ c. refl));
  queues = λ j. queue_of-kept j k n cs;
  ends = λ j. ended_of-kept j k n cs;
  order = λ m. rises-at m k (kept_as n) cs (λ c. refl) ∙ sym (rises-at m k emptied cs (λ c. refl));
}

pub waiting-same : (n j : ℕ) (cs ds : List Connection) → Same cs ds → waiting n j ds ≡ waiting n j cs
waiting-same n j cs ds s = ap (messages_for n) (s.queues j)
