-- Every board stays sound: what is served leaves no client with more than it may have, and no number that was not given.
use Rattle.std.proofs.Common.{◌≡◌, ℕ, ◌+◌, ◌<◌, ◌≤◌, Bool, true, false, not, List, [], ◌∷◌, ◌++◌, length, refl, ◌∙◌, ap, subst, arith, inl, inr, length-append}
use Rattle.std.specs.Prelude.{◌==◌, filter, ◌≢◌, if◌then◌else◌, Option, Some, None}
use Rattle.std.specs.List.{list_any}
use Rattle.std.proofs.lemmas.Bool.Decides.{nat_tests, eqb_tells}
use Rattle.std.proofs.Math.Bool.{or-true}
use Rattle.amf_broker.specs.declared.limits.TheConstants.{MAX_CLIENTS, MAX_SUBS}
use Rattle.amf_broker.specs.declared.topic.Topic.{Topic}
use Rattle.amf_broker.specs.declared.call.Call.{Call}
use Rattle.amf_broker.specs.declared.call.Call.TheVariants.{Connect, Subscribe, Unsubscribe, Publish, Poll, Disconnect}
use Rattle.amf_broker.specs.declared.reply.Delivery.{Delivery}
use Rattle.amf_broker.specs.State.{Board, Connection, Subscription, first_board}
use Rattle.amf_broker.specs.Machine.{is_connected, at_client, queue_of, queue_in, ended_of, ended_in, subs_of, places_of, with_delivery, with_ended, emptied, spread, ended_first, is_full, subscribers, is_same_topic, served, connected, subscribed, unsubscribed, published, polled, next_batch, disconnected, new_client, advanced, without_all, without, sighted}
use Rattle.amf_broker.specs.Sound.{IsSound, IsNowhere}
use Rattle.amf_broker.specs.Delivery.{messages_for}
use Rattle.amf_broker.proofs.Clients.{rises-at, Same, same-seen, same-kept, length-at, connected-at, client_at-stays, queue_of-at, queue_of-new, queue_of-emptied, queue_of-gone, queue_of-other}
use Rattle.amf_broker.proofs.Orders.{any-connected, none-named, rises-new, rises-part, rises-spread}
use Rattle.amf_broker.proofs.Spreads.{is_among, filter-swap, connected-spread}
use Rattle.amf_broker.proofs.Steps.{Idle, idle-served, next-served}

-- What a change does to the list of a client's ended subscriptions.

ended-new : (j k m : ℕ) (cs : List Connection) → ended_of j (cs ++ (new_client k m ∷ [])) ≡ ended_of j cs
ended-new j k m [] = grind (arith, nat_tests)
ended-new j k m (c ∷ cs) = let ih = ended-new j k m cs in grind (arith, nat_tests, ih)

pub ended-delivery : (j k : ℕ) (d : Delivery) (cs : List Connection) → ended_of j (at_client k (with_delivery d) cs) ≡ ended_of j cs
ended-delivery j k d [] = refl
ended-delivery j k d (c ∷ cs) = let ih = ended-delivery j k d cs in grind (arith, nat_tests, ih)

ended-emptied : (j k : ℕ) (cs : List Connection) → length (ended_of j (at_client k emptied cs)) ≤ length (ended_of j cs)
ended-emptied j k [] = omega arith
ended-emptied j k (c ∷ cs) = let ih = ended-emptied j k cs in grind (arith, nat_tests, ih)

none-left : (k : ℕ) (cs : List Connection) → ended_of k (filter (λ c. not (c.id == k)) cs) ≡ []
none-left k [] = refl
none-left k (c ∷ cs) = let ih = none-left k cs in grind (arith, nat_tests, ih)

ended-gone : (j k : ℕ) (cs : List Connection) → length (ended_of j (filter (λ c. not (c.id == k)) cs)) ≤ length (ended_of j cs)
ended-gone j k cs = elim (eqb_tells j k) [
  | inl same ↦ let none : ended_of j (filter (λ (c : Connection). not (c.id == k)) cs) ≡ [] = rw same.1 (none-left k cs) in let n = ap length none in omega arith
  | inr other ↦ let stays = ap (λ o. length (ended_in o)) (client_at-stays j k cs other.1) in omega arith
]

-- one ended subscription more, at most, and at its client alone
pub ended-more : (j k sub : ℕ) (cs : List Connection) → length (ended_of j (at_client k (with_ended sub) cs)) ≤ length (ended_of j cs) + (if k == j then 1 else 0)
ended-more j k sub [] = omega arith
ended-more j k sub (c ∷ cs) = let ih = ended-more j k sub cs in let e = length-append c.ended (sub ∷ []) in grind (arith, nat_tests, ih, e)

-- Parts of the live subscriptions.

part-length : (p : Subscription → Bool) (us : List Subscription) → length (filter p us) ≤ length us
part-length p [] = omega arith
part-length p (u ∷ us) = let ih = part-length p us in grind (arith, ih)

pub part-places : (j : ℕ) (p : Subscription → Bool) (us : List Subscription) → length (subs_of j (filter p us)) ≤ length (subs_of j us)
part-places j p us = rw (filter-swap (λ u. u.client == j) p us) (part-length p (subs_of j us))

-- those that ended and those that did not
two-parts : (j : ℕ) (p : Subscription → Bool) (us : List Subscription) → length (subs_of j (filter (λ u. not (p u)) us)) + length (subs_of j (filter p us)) ≡ length (subs_of j us)
two-parts j p [] = refl
two-parts j p (u ∷ us) = let ih = two-parts j p us in grind (arith, nat_tests, ih)

new-places : (j : ℕ) (u : Subscription) (us : List Subscription) → length (subs_of j (us ++ (u ∷ []))) ≡ length (subs_of j us) + (if u.client == j then 1 else 0)
new-places j u [] = grind (arith, nat_tests)
new-places j u (v ∷ us) = let ih = new-places j u us in grind (arith, nat_tests, ih)

-- The numbers.

pub nowhere-idle : (n : ℕ) (b : Board) → IsNowhere n b → Idle n (λ j. Unit {0}) b.clients b.subs
nowhere-idle n b h = record { none = h.not_live; quiet = λ j _. h.not_queued j }

-- a number that is new after an answer was new before, and is nowhere
pub new-subs-served : (b : Board) (c : Call) → IsSound b → (n : ℕ) → (served b c).1.next_sub ≤ n → IsNowhere n (served b c).1
new-subs-served b c s n new =
    let grows = next-served b c in
    let i = idle-served n (λ j. Unit {0}) b c (inl new) (nowhere-idle n b (s.new_subs n (omega arith))) in
    record { not_live = i.none; not_queued = λ j. i.quiet j tt }

absent-new : (j : ℕ) (n : Connection) (cs : List Connection) → n.id ≢ j → is_connected j (cs ++ (n ∷ [])) ≡ is_connected j cs
absent-new j n [] other = grind (arith, nat_tests)
absent-new j n (c ∷ cs) other = let ih = absent-new j n cs other in grind (arith, nat_tests, ih)

absent-gone : (j k : ℕ) (cs : List Connection) → is_connected j cs ≡ false → is_connected j (filter (λ c. not (c.id == k)) cs) ≡ false
absent-gone j k [] absent = refl
absent-gone j k (c ∷ cs) absent = let ih = absent-gone j k cs in grind (arith, nat_tests, ih)

length-gone : (k : ℕ) (cs : List Connection) → length (filter (λ c. not (c.id == k)) cs) ≤ length cs
length-gone k [] = omega arith
length-gone k (c ∷ cs) = let ih = length-gone k cs in grind (arith, nat_tests, ih)

-- Message numbers.

abbrev pub numbered : ℕ → ℕ → List Connection → List Delivery
numbered n j cs = filter (λ d. d.number == n) (queue_of j cs)

number-other : (n : ℕ) (d : Delivery) (q : List Delivery) → d.number ≢ n → filter (λ x. x.number == n) (q ++ (d ∷ [])) ≡ filter (λ x. x.number == n) q
number-other n d [] other = grind (arith, nat_tests)
number-other n d (x ∷ q) other = let ih = number-other n d q other in grind (arith, nat_tests, ih)

numbered-other : (n j k : ℕ) (d : Delivery) (cs : List Connection) → d.number ≢ n → numbered n j (at_client k (with_delivery d) cs) ≡ numbered n j cs
numbered-other n j k d [] other = refl
numbered-other n j k d (c ∷ cs) other = let ih = numbered-other n j k d cs other in let e = number-other n d c.queue other in grind (arith, nat_tests, ih, e)

numbered-ended : (n j k sub : ℕ) (cs : List Connection) → numbered n j (at_client k (with_ended sub) cs) ≡ numbered n j cs
numbered-ended n j k sub cs = ap (filter (λ (d : Delivery). d.number == n)) (queue_of-at j k (with_ended sub) cs (λ c. (refl, refl)))

numbered-emptied : (n j k : ℕ) (cs : List Connection) → numbered n j cs ≡ [] → numbered n j (at_client k emptied cs) ≡ []
numbered-emptied n j k cs none = elim (eqb_tells j k) [
  | inl same ↦ rw same.1 (ap (filter (λ (d : Delivery). d.number == n)) (queue_of-emptied k cs))
  | inr other ↦ ap (filter (λ (d : Delivery). d.number == n)) (queue_of-other j k emptied cs other.1 (λ c. refl)) ∙ none
]

numbered-gone : (n j k : ℕ) (cs : List Connection) → numbered n j cs ≡ [] → numbered n j (filter (λ c. not (c.id == k)) cs) ≡ []
numbered-gone n j k cs none = elim (eqb_tells j k) [
  | inl same ↦ rw same.1 (ap (filter (λ (d : Delivery). d.number == n)) (queue_of-gone k cs))
  | inr other ↦ ap (λ c. filter (λ (d : Delivery). d.number == n) (queue_in c)) (client_at-stays j k cs other.1) ∙ none
]

numbered-spread : (n j number : ℕ) (message : List ℕ) (us : List Subscription) (cs : List Connection) → number ≢ n → numbered n j (spread number message us cs).clients ≡ numbered n j cs
numbered-spread n j number message [] cs other = refl
numbered-spread n j number message (u ∷ us) cs other = elim (is_full u.client cs)
    as (λ full. numbered n j (if full then ended_first u.id (spread number message us (at_client u.client (with_ended u.id) cs)) else spread number message us (at_client u.client (with_delivery (record { sub = u.id; number = number; message = message })) cs)).clients ≡ numbered n j cs) [
      | true ↦ numbered-spread n j number message us (at_client u.client (with_ended u.id) cs) other ∙ numbered-ended n j u.client u.id cs
      | false ↦ numbered-spread n j number message us (at_client u.client (with_delivery (record { sub = u.id; number = number; message = message })) cs) other ∙ numbered-other n j u.client (record { sub = u.id; number = number; message = message }) cs other
    ]

pub sound-first : (names : List (List ℕ)) → IsSound (first_board names)
sound-first names = record {
  ordered = refl;
  subs_ordered = refl;
  few = omega arith;
  places = λ j. omega arith;
  new_clients = λ j new. refl;
  new_subs = λ n new. record { not_live = refl; not_queued = λ j. refl };
  new_messages = λ n new j. refl;
}

pub sound-connected : (b : Board) → IsSound b → length b.clients < MAX_CLIENTS → IsSound (connected b).1
sound-connected b s few = record {
  ordered = rises-new (λ (c : Connection). c.id) 0 (new_client b.next_client b.moment) b.clients (omega arith) (λ id new. any-connected id b.clients ∙ s.new_clients id new) s.ordered;
  subs_ordered = s.subs_ordered;
  few = let e = length-append b.clients (new_client b.next_client b.moment ∷ []) in omega arith;
  places = λ j. let same = ap length (ended-new j b.next_client b.moment b.clients) in let old = s.places j in omega arith;
  new_clients = λ j new. let other : b.next_client ≢ j = omega arith in absent-new j _ b.clients other ∙ s.new_clients j (omega arith);
  new_subs = new-subs-served b Connect s;
  new_messages = λ n new j. ap (filter (λ (d : Delivery). d.number == n)) (queue_of-new j b.next_client b.moment b.clients) ∙ s.new_messages n new j;
}

pub sound-subscribed : (b : Board) (client : ℕ) (topic : Topic) → IsSound b → places_of client b < MAX_SUBS → IsSound (subscribed b client topic).1
sound-subscribed b client topic s few = record {
  ordered = s.ordered;
  subs_ordered = rises-new (λ (u : Subscription). u.id) 0 (record { id = b.next_sub; client = client; topic = topic }) b.subs (omega arith) (λ id new. none-named id b.subs (s.new_subs id new).not_live) s.subs_ordered;
  few = s.few;
  places = λ j.
      let more = new-places j (record { id = b.next_sub; client = client; topic = topic }) b.subs in
      let old = s.places j in
      elim (eqb_tells client j) [
        | inl same ↦
            let own : places_of j b < MAX_SUBS = subst (λ (i : ℕ). places_of i b < MAX_SUBS) same.1 few in
            let one = rw same.0 at more in
            omega arith
        | inr other ↦ let none = rw other.0 at more in omega arith
      ];
  new_clients = s.new_clients;
  new_subs = new-subs-served b (Subscribe client topic) s;
  new_messages = s.new_messages;
}

pub sound-unsubscribed : (b : Board) (sub : ℕ) → IsSound b → IsSound (unsubscribed b sub).1
sound-unsubscribed b sub s = record {
  ordered = s.ordered;
  subs_ordered = rises-part (λ (u : Subscription). u.id) 0 (λ u. not (u.id == sub)) b.subs s.subs_ordered;
  few = s.few;
  places = λ j. let less = part-places j (λ u. not (u.id == sub)) b.subs in let old = s.places j in omega arith;
  new_clients = s.new_clients;
  new_subs = new-subs-served b (Unsubscribe 0 sub) s;
  new_messages = s.new_messages;
}

pub sound-polled : (b : Board) (client : ℕ) → IsSound b → IsSound (polled b client).1
sound-polled b client s = record {
  ordered = rises-at 0 client emptied b.clients (λ c. refl) ∙ s.ordered;
  subs_ordered = s.subs_ordered;
  few = let same = length-at client emptied b.clients in let old = s.few in omega arith;
  places = λ j. let less = ended-emptied j client b.clients in let old = s.places j in omega arith;
  new_clients = λ j new. connected-at j client emptied b.clients (λ c. refl) ∙ s.new_clients j new;
  new_subs = new-subs-served b (Poll client) s;
  new_messages = λ n new j. numbered-emptied n j client b.clients (s.new_messages n new j);
}

pub sound-disconnected : (b : Board) (client : ℕ) → IsSound b → IsSound (disconnected b client).1
sound-disconnected b client s = record {
  ordered = rises-part (λ (c : Connection). c.id) 0 (λ c. not (c.id == client)) b.clients s.ordered;
  subs_ordered = rises-part (λ (u : Subscription). u.id) 0 (λ u. not (u.client == client)) b.subs s.subs_ordered;
  few = let less = length-gone client b.clients in let old = s.few in omega arith;
  places = λ j.
      let less = part-places j (λ u. not (u.client == client)) b.subs in
      let fewer = ended-gone j client b.clients in
      let old = s.places j in omega arith;
  new_clients = λ j new. absent-gone j client b.clients (s.new_clients j new);
  new_subs = new-subs-served b (Disconnect client) s;
  new_messages = λ n new j. numbered-gone n j client b.clients (s.new_messages n new j);
}

-- what is sound speaks of the clients' numbers, queues and ended subscriptions alone
pub sound-same : (b : Board) (ds : List Connection) → IsSound b → Same b.clients ds → IsSound (record b { clients = ds })
sound-same b ds s same = record {
  ordered = same.order 0 ∙ s.ordered;
  subs_ordered = s.subs_ordered;
  few = let e = same.many in let old = s.few in omega arith;
  places = λ j. let e = ap length (same.ends j) in let old = s.places j in omega arith;
  new_clients = λ j new. same.here j ∙ s.new_clients j new;
  new_subs = λ n new. let old = s.new_subs n new in record { not_live = old.not_live; not_queued = λ j. ap (messages_for n) (same.queues j) ∙ old.not_queued j };
  new_messages = λ n new j. ap (filter (λ (d : Delivery). d.number == n)) (same.queues j) ∙ s.new_messages n new j;
}

pub sound-kept : (b : Board) (client number : ℕ) → IsSound b → IsSound (next_batch b client number).1
sound-kept b client number s = sound-same (polled b client).1 _ (sound-polled b client s) (same-kept client number b.clients)

pub sound-sighted : (b : Board) (client : Option ℕ) → IsSound b → IsSound (sighted client b)
sound-sighted b None s = s
sound-sighted b (Some client) s = sound-same b _ s (same-seen client b.moment b.clients)

pub sound-without_all : (ks : List ℕ) (b : Board) → IsSound b → IsSound (without_all ks b)
sound-without_all [] b s = s
sound-without_all (k ∷ ks) b s = sound-without_all ks (without k b) (sound-disconnected b k s)

pub sound-advanced : (present : ℕ) (ks : List ℕ) (b : Board) → IsSound b → IsSound (advanced present ks b)
sound-advanced present ks b s = sound-without_all ks (record b { moment = present }) (record {
  ordered = s.ordered;
  subs_ordered = s.subs_ordered;
  few = s.few;
  places = s.places;
  new_clients = s.new_clients;
  new_subs = λ n new. let old = s.new_subs n new in record { not_live = old.not_live; not_queued = old.not_queued };
  new_messages = s.new_messages;
})

-- A publish.

-- the places that a publish takes are those of the subscriptions that it ends
ended-spread : (j number : ℕ) (message : List ℕ) (all : List ℕ) (us : List Subscription) (cs : List Connection)
    → ((id : ℕ) → is_among id (spread number message us cs).ended ≡ true → list_any (λ s. s == id) all ≡ true)
    → length (ended_of j (spread number message us cs).clients) ≤ length (ended_of j cs) + length (subs_of j (filter (λ u. list_any (λ s. s == u.id) all) us))
ended-spread j number message all [] cs within = omega arith
ended-spread j number message all (u ∷ us) cs within =
    let told = at_client u.client (with_ended u.id) cs in
    let given = at_client u.client (with_delivery (record { sub = u.id; number = number; message = message })) cs in
    (elim (is_full u.client cs)
    as (λ full. ((id : ℕ) → is_among id (if full then ended_first u.id (spread number message us (at_client u.client (with_ended u.id) cs)) else spread number message us (at_client u.client (with_delivery (record { sub = u.id; number = number; message = message })) cs)).ended ≡ true → list_any (λ s. s == id) all ≡ true)
    → length (ended_of j (if full then ended_first u.id (spread number message us (at_client u.client (with_ended u.id) cs)) else spread number message us (at_client u.client (with_delivery (record { sub = u.id; number = number; message = message })) cs)).clients)
    ≤ length (ended_of j cs) + length (subs_of j (filter (λ u. list_any (λ s. s == u.id) all) (u ∷ us)))) [
      | true ↦ λ w.
          let own : list_any (λ s. s == u.id) all ≡ true = w u.id (grind (arith, nat_tests)) in
          let ih = ended-spread j number message all us told (λ id h. w id (rw h (or-true (u.id == id)))) in
          let more = ended-more j u.client u.id cs in
          grind (arith, nat_tests, ih, more, own)
      | false ↦ λ w.
          let ih = ended-spread j number message all us given w in
          let same = ended-delivery j u.client (record { sub = u.id; number = number; message = message }) cs in
          grind (arith, nat_tests, ih, same)
    ]) within

pub length-spread : (number : ℕ) (message : List ℕ) (us : List Subscription) (cs : List Connection) → length (spread number message us cs).clients ≡ length cs
length-spread number message [] cs = refl
length-spread number message (u ∷ us) cs = elim (is_full u.client cs)
    as (λ full. length (if full then ended_first u.id (spread number message us (at_client u.client (with_ended u.id) cs)) else spread number message us (at_client u.client (with_delivery (record { sub = u.id; number = number; message = message })) cs)).clients ≡ length cs) [
      | true ↦ length-spread number message us _ ∙ length-at u.client (with_ended u.id) cs
      | false ↦ length-spread number message us _ ∙ length-at u.client (with_delivery (record { sub = u.id; number = number; message = message })) cs
    ]

pub sound-published : (b : Board) (topic : Topic) (message : List ℕ) → IsSound b → IsSound (published b topic message).1
sound-published b topic message s =
    let us = subscribers topic b.subs in
    let to = spread b.next_message message us b.clients in
    record {
      ordered = rises-spread 0 b.next_message message us b.clients ∙ s.ordered;
      subs_ordered = rises-part (λ (u : Subscription). u.id) 0 _ b.subs s.subs_ordered;
      few = let same = length-spread b.next_message message us b.clients in let old = s.few in omega arith;
      places = λ j.
          let over : Subscription → Bool = λ u. list_any (λ (id : ℕ). id == u.id) to.ended in
          let ends = ended-spread j b.next_message message to.ended us b.clients (λ id h. h) in
          let swapped = filter-swap over (λ u. is_same_topic u.topic topic) b.subs in
          let fewer = part-places j (λ u. is_same_topic u.topic topic) (filter over b.subs) in
          let parts = two-parts j over b.subs in
          let old = s.places j in
          let same = ap (λ (us : List Subscription). length (subs_of j us)) swapped in
          omega arith;
      new_clients = λ j new. connected-spread j b.next_message message us b.clients ∙ s.new_clients j new;
      new_subs = new-subs-served b (Publish 0 topic message) s;
      new_messages = λ n new j. let other : b.next_message ≢ n = omega arith in numbered-spread n j b.next_message message us b.clients other ∙ s.new_messages n (omega arith) j;
    }
