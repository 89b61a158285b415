-- Every reply of a legal history is small.
use Rattle.std.proofs.Common.{◌≡◌, ◌∙◌, ℕ, ◌+◌, ◌<◌, ◌≤◌, Bool, true, false, not, List, [], ◌∷◌, ◌++◌, length, refl, sym, ap, subst, arith, inl, inr, length-append}
use Rattle.std.specs.Prelude.{◌==◌, ◌&&◌, ◌||◌, nat_le, nat_lt, filter, ◌≢◌, if◌then◌else◌, Option, Some, None, bytes_eq}
use Rattle.std.specs.List.{AllByRecursion, list_any}
use Rattle.std.proofs.lemmas.Bool.Decides.{nat_tests, eqb_tells}
use Rattle.std.proofs.lemmas.Option.{same_Some}
use Rattle.std.proofs.Math.Bool.{or-true}
use Rattle.amf_broker.specs.declared.limits.TheConstants.{MAX_CLIENTS, MAX_SUBS, MAX_QUEUED, MAX_SUBTOPIC, MAX_MESSAGE}
use Rattle.amf_broker.specs.declared.topic.Topic.{Topic}
use Rattle.amf_broker.specs.declared.call.Call.{Call}
use Rattle.amf_broker.specs.declared.call.Call.TheVariants.{Connect, Subscribe, Unsubscribe, Publish, Poll, PollNumbered, Disconnect}
use Rattle.amf_broker.specs.declared.reply.Delivery.{Delivery}
use Rattle.amf_broker.specs.declared.reply.Answer.{Answer}
use Rattle.amf_broker.specs.declared.reply.Reply.{Reply}
use Rattle.amf_broker.specs.declared.reply.Reply.TheVariants.{Full, NoClient, NoTopic, TooLong, TooManySubs, NoSub, BadNumber}
use Rattle.amf_broker.specs.State.{State, Board, Connection, Subscription, first}
use Rattle.amf_broker.specs.Machine.{client_at, is_connected, at_client, queue_of, queue_in, ended_of, ended_in, kept_of, kept_ended_of, subs_of, places_of, is_same_topic, topic_refusal, or_then, client_refusal, last_of, refusal, new_client, connected, subscribed, unsubscribed, published, polled, with_delivery, with_ended, emptied, kept_as, seen_at, spread, ended_first, is_full, subscribers, served, same_batch, next_batch, found, without, without_all, sighted, named_by, unless, reply_on, answer_to, after, later, expired_at}
use Rattle.amf_broker.specs.History.{Entry, IsLegal, IsAnsweredFrom}
use Rattle.amf_answer_plan.specs.Small.{IsSmallBatch, IsSmall}

abbrev IsShortMessage : Delivery → Type 0
IsShortMessage d = length d.message ≤ MAX_MESSAGE

-- what waits for a client and what is kept of its last batch
record SmallClient (c : Connection) : Type 0 where
  queue : length c.queue ≤ MAX_QUEUED
  short : AllByRecursion IsShortMessage c.queue
  kept : IsSmallBatch c.kept c.kept_ended

record SmallBoard (b : Board) : Type 0 where
  each : AllByRecursion SmallClient b.clients
  places : (client : ℕ) → places_of client b ≤ MAX_SUBS

-- Lists.

all_filter : {X : Type 0} (P : X → Type 0) (test : X → Bool) (xs : List X) → AllByRecursion P xs → AllByRecursion P (filter test xs)
all_filter P test [] h = tt
all_filter P test (x ∷ xs) h = elim (test x) as (λ b. AllByRecursion P (if b then x ∷ filter test xs else filter test xs)) [ true ↦ (h.0, all_filter P test xs h.1) | false ↦ all_filter P test xs h.1 ]

all_behind : {X : Type 0} (P : X → Type 0) (xs ys : List X) → AllByRecursion P xs → AllByRecursion P ys → AllByRecursion P (xs ++ ys)
all_behind P [] ys h k = k
all_behind P (x ∷ xs) ys h k = (h.0, all_behind P xs ys h.1 k)

all_last : {X : Type 0} (P : X → Type 0) (xs : List X) (x : X) → AllByRecursion P (xs ++ (x ∷ [])) → P x
all_last P [] x h = h.0
all_last P (y ∷ xs) x h = all_last P xs x h.1

-- Clients.

found_small : (k : ℕ) (cs : List Connection) → AllByRecursion SmallClient cs → (c : Connection) → client_at k cs ≡ Some c → SmallClient c
found_small k [] h c e = cc
found_small k (d ∷ cs) h c e = elim (d.id == k) as (λ b. (if b then Some d else client_at k cs) ≡ Some c → SmallClient c) [ true ↦ λ s. subst SmallClient (same_Some d c s) h.0 | false ↦ λ s. found_small k cs h.1 c s ] e

-- a change of one client keeps all small, where it keeps that one so
changed_small : (k : ℕ) (f : Connection → Connection) (cs : List Connection) → AllByRecursion SmallClient cs → ((c : Connection) → client_at k cs ≡ Some c → SmallClient c → SmallClient (f c)) → AllByRecursion SmallClient (at_client k f cs)
changed_small k f [] h next = tt
changed_small k f (c ∷ cs) h next = elim (c.id == k)
    as (λ b. ((d : Connection) → (if b then Some c else client_at k cs) ≡ Some d → SmallClient d → SmallClient (f d)) → AllByRecursion SmallClient (if b then f c ∷ cs else c ∷ at_client k f cs)) [
      | true ↦ λ n. (n c refl h.0, h.1)
      | false ↦ λ n. (h.0, changed_small k f cs h.1 n)
    ] next

queue_found : (k : ℕ) (cs : List Connection) (c : Connection) → client_at k cs ≡ Some c → queue_of k cs ≡ c.queue
queue_found k cs c e = ap queue_in e

ended_found : (k : ℕ) (cs : List Connection) (c : Connection) → client_at k cs ≡ Some c → ended_of k cs ≡ c.ended
ended_found k cs c e = ap ended_in e

no_batch : IsSmallBatch [] []
no_batch = record { few = omega arith; short = tt; few_ended = omega arith }

-- the batch that is handed out, and the one that is kept
queue_small : (k : ℕ) (cs : List Connection) → AllByRecursion SmallClient cs → length (ended_of k cs) ≤ MAX_SUBS → IsSmallBatch (queue_of k cs) (ended_of k cs)
queue_small k cs h few = at (client_at k cs) refl
  where
    at : (o : Option Connection) → client_at k cs ≡ o → IsSmallBatch (queue_of k cs) (ended_of k cs)
    at None e = subst (λ (o : Option Connection). IsSmallBatch (queue_in o) (ended_in o)) (sym e) no_batch
    at (Some c) e =
        let s = found_small k cs h c e in
        record {
          few = rw (queue_found k cs c e) s.queue;
          short = subst (AllByRecursion IsShortMessage) (sym (queue_found k cs c e)) s.short;
          few_ended = few;
        }

kept_small : (k : ℕ) (cs : List Connection) → AllByRecursion SmallClient cs → IsSmallBatch (kept_of k cs) (kept_ended_of k cs)
kept_small k cs h = at (client_at k cs) refl
  where
    at : (o : Option Connection) → client_at k cs ≡ o → IsSmallBatch (kept_of k cs) (kept_ended_of k cs)
    at None e = rw e no_batch
    at (Some c) e = rw e (found_small k cs h c e).kept

emptied_small : (c : Connection) → SmallClient c → SmallClient (emptied c)
emptied_small c s = record { queue = omega arith; short = tt; kept = s.kept }

kept_as_small : (n : ℕ) (c : Connection) → length c.ended ≤ MAX_SUBS → SmallClient c → SmallClient (kept_as n c)
kept_as_small n c few s = record { queue = omega arith; short = tt; kept = record { few = s.queue; short = s.short; few_ended = few } }

ended_small : (sub : ℕ) (c : Connection) → SmallClient c → SmallClient (with_ended sub c)
ended_small sub c s = record { queue = s.queue; short = s.short; kept = s.kept }

seen_small : (m : ℕ) (c : Connection) → SmallClient c → SmallClient (seen_at m c)
seen_small m c s = record { queue = s.queue; short = s.short; kept = s.kept }

delivered_small : (d : Delivery) (c : Connection) → IsShortMessage d → nat_le MAX_QUEUED (length c.queue) ≡ false → SmallClient c → SmallClient (with_delivery d c)
delivered_small d c short room s = record {
  queue = let e = length-append c.queue (d ∷ []) in grind (arith, nat_tests, e, room);
  short = all_behind IsShortMessage c.queue (d ∷ []) s.short (short, tt);
  kept = s.kept;
}

-- a message that reaches subscriptions
spread_small : (number : ℕ) (message : List ℕ) (us : List Subscription) (cs : List Connection) → length message ≤ MAX_MESSAGE → AllByRecursion SmallClient cs → AllByRecursion SmallClient (spread number message us cs).clients
spread_small number message [] cs short h = h
spread_small number message (u ∷ us) cs short h = (elim (is_full u.client cs)
    as (λ full. is_full u.client cs ≡ full → AllByRecursion SmallClient (if full then ended_first u.id (spread number message us (at_client u.client (with_ended u.id) cs)) else spread number message us (at_client u.client (with_delivery (record { sub = u.id; number = number; message = message })) cs)).clients) [
      | true ↦ λ e. spread_small number message us (at_client u.client (with_ended u.id) cs) short (changed_small u.client (with_ended u.id) cs h (λ c f s. ended_small u.id c s))
      | false ↦ λ e. spread_small number message us (at_client u.client (with_delivery (record { sub = u.id; number = number; message = message })) cs) short
          (changed_small u.client (with_delivery (record { sub = u.id; number = number; message = message })) cs h (λ c f s.
          delivered_small (record { sub = u.id; number = number; message = message }) c short (ap (λ (q : List Delivery). nat_le MAX_QUEUED (length q)) (sym (queue_found u.client cs c f)) ∙ e) s))
    ]) refl

-- Places: how many of a client's subscriptions are live, or ended untold.

filter_twice : {X : Type 0} (p q : X → Bool) (xs : List X) → filter p (filter q xs) ≡ filter q (filter p xs)
filter_twice p q [] = refl
filter_twice p q (x ∷ xs) = let ih = filter_twice p q xs in grind (arith, ih)

ended_new : (j k m : ℕ) (cs : List Connection) → ended_of j (cs ++ (new_client k m ∷ [])) ≡ ended_of j cs
ended_new j k m [] = grind (arith, nat_tests)
ended_new j k m (c ∷ cs) = let ih = ended_new j k m cs in grind (arith, nat_tests, ih)

ended_delivery : (j k : ℕ) (d : Delivery) (cs : List Connection) → ended_of j (at_client k (with_delivery d) cs) ≡ ended_of j cs
ended_delivery j k d [] = refl
ended_delivery j k d (c ∷ cs) = let ih = ended_delivery j k d cs in grind (arith, nat_tests, ih)

ended_seen : (j k m : ℕ) (cs : List Connection) → ended_of j (at_client k (seen_at m) cs) ≡ ended_of j cs
ended_seen j k m [] = refl
ended_seen j k m (c ∷ cs) = let ih = ended_seen j k m cs in grind (arith, nat_tests, ih)

ended_emptied : (j k : ℕ) (cs : List Connection) → length (ended_of j (at_client k emptied cs)) ≤ length (ended_of j cs)
ended_emptied j k [] = omega arith
ended_emptied j k (c ∷ cs) = let ih = ended_emptied j k cs in grind (arith, nat_tests, ih)

ended_stays : (j k n : ℕ) (cs : List Connection) → length (ended_of j (at_client k (kept_as n) cs)) ≤ length (ended_of j cs)
ended_stays j k n [] = omega arith
ended_stays j k n (c ∷ cs) = let ih = ended_stays j k n cs in grind (arith, nat_tests, ih)

none_left : (k : ℕ) (cs : List Connection) → ended_of k (filter (λ c. not (c.id == k)) cs) ≡ []
none_left k [] = refl
none_left k (c ∷ cs) = let ih = none_left k cs in grind (arith, nat_tests, ih)

client_stays : (j k : ℕ) (cs : List Connection) → j ≢ k → client_at j (filter (λ c. not (c.id == k)) cs) ≡ client_at j cs
client_stays j k [] other = refl
client_stays j k (c ∷ cs) other = let ih = client_stays j k cs other in grind (arith, nat_tests, ih)

ended_gone : (j k : ℕ) (cs : List Connection) → length (ended_of j (filter (λ c. not (c.id == k)) cs)) ≤ length (ended_of j cs)
ended_gone j k cs = elim (eqb_tells j k) [
  | inl same ↦ let none : ended_of j (filter (λ (c : Connection). not (c.id == k)) cs) ≡ [] = rw same.1 (none_left k cs) in let n = ap length none in omega arith
  | inr other ↦ let stays = ap (λ o. length (ended_in o)) (client_stays j k cs other.1) in omega arith
]

ended_more : (j k sub : ℕ) (cs : List Connection) → length (ended_of j (at_client k (with_ended sub) cs)) ≤ length (ended_of j cs) + (if k == j then 1 else 0)
ended_more j k sub [] = omega arith
ended_more j k sub (c ∷ cs) = let ih = ended_more j k sub cs in let e = length-append c.ended (sub ∷ []) in grind (arith, nat_tests, ih, e)

part_length : (p : Subscription → Bool) (us : List Subscription) → length (filter p us) ≤ length us
part_length p [] = omega arith
part_length p (u ∷ us) = let ih = part_length p us in grind (arith, ih)

part_places : (j : ℕ) (p : Subscription → Bool) (us : List Subscription) → length (subs_of j (filter p us)) ≤ length (subs_of j us)
part_places j p us = rw (filter_twice (λ u. u.client == j) p us) (part_length p (subs_of j us))

two_parts : (j : ℕ) (p : Subscription → Bool) (us : List Subscription) → length (subs_of j (filter (λ u. not (p u)) us)) + length (subs_of j (filter p us)) ≡ length (subs_of j us)
two_parts j p [] = refl
two_parts j p (u ∷ us) = let ih = two_parts j p us in grind (arith, nat_tests, ih)

new_places : (j : ℕ) (u : Subscription) (us : List Subscription) → length (subs_of j (us ++ (u ∷ []))) ≡ length (subs_of j us) + (if u.client == j then 1 else 0)
new_places j u [] = grind (arith, nat_tests)
new_places j u (v ∷ us) = let ih = new_places j u us in grind (arith, nat_tests, ih)

-- the places that a publish takes are those of the subscriptions that it ends
ended_spread : (j number : ℕ) (message : List ℕ) (all : List ℕ) (us : List Subscription) (cs : List Connection)
    → ((id : ℕ) → list_any (λ s. s == id) (spread number message us cs).ended ≡ true → list_any (λ s. s == id) all ≡ true)
    → length (ended_of j (spread number message us cs).clients) ≤ length (ended_of j cs) + length (subs_of j (filter (λ u. list_any (λ s. s == u.id) all) us))
ended_spread j number message all [] cs within = omega arith
ended_spread j number message all (u ∷ us) cs within =
    let told = at_client u.client (with_ended u.id) cs in
    let given = at_client u.client (with_delivery (record { sub = u.id; number = number; message = message })) cs in
    (elim (is_full u.client cs)
    as (λ full. ((id : ℕ) → list_any (λ s. s == id) (if full then ended_first u.id (spread number message us (at_client u.client (with_ended u.id) cs)) else spread number message us (at_client u.client (with_delivery (record { sub = u.id; number = number; message = message })) cs)).ended ≡ true → list_any (λ s. s == id) all ≡ true)
    → length (ended_of j (if full then ended_first u.id (spread number message us (at_client u.client (with_ended u.id) cs)) else spread number message us (at_client u.client (with_delivery (record { sub = u.id; number = number; message = message })) cs)).clients)
    ≤ length (ended_of j cs) + length (subs_of j (filter (λ u. list_any (λ s. s == u.id) all) (u ∷ us)))) [
      | true ↦ λ w.
          let own : list_any (λ s. s == u.id) all ≡ true = w u.id (grind (arith, nat_tests)) in
          let ih = ended_spread j number message all us told (λ id h. w id (rw h (or-true (u.id == id)))) in
          let more = ended_more j u.client u.id cs in
          grind (arith, nat_tests, ih, more, own)
      | false ↦ λ w.
          let ih = ended_spread j number message all us given w in
          let same = ended_delivery j u.client (record { sub = u.id; number = number; message = message }) cs in
          grind (arith, nat_tests, ih, same)
    ]) within

-- What is served.

small_connected : (b : Board) → SmallBoard b → SmallBoard (connected b).1
small_connected b s = record {
  each = all_behind SmallClient b.clients (new_client b.next_client b.moment ∷ []) s.each (record { queue = omega arith; short = tt; kept = no_batch }, tt);
  places = λ j. let same = ap length (ended_new j b.next_client b.moment b.clients) in let old = s.places j in omega arith;
}

small_subscribed : (b : Board) (client : ℕ) (topic : Topic) → places_of client b < MAX_SUBS → SmallBoard b → SmallBoard (subscribed b client topic).1
small_subscribed b client topic few s = record {
  each = s.each;
  places = λ j.
      let more = new_places j (record { id = b.next_sub; client = client; topic = topic }) b.subs in
      let old = s.places j in
      elim (eqb_tells client j) [
        | inl same ↦
            let own : places_of j b < MAX_SUBS = subst (λ (i : ℕ). places_of i b < MAX_SUBS) same.1 few in
            let one = rw same.0 at more in
            omega arith
        | inr other ↦ let none = rw other.0 at more in omega arith
      ];
}

small_unsubscribed : (b : Board) (sub : ℕ) → SmallBoard b → SmallBoard (unsubscribed b sub).1
small_unsubscribed b sub s = record {
  each = s.each;
  places = λ j. let less = part_places j (λ u. not (u.id == sub)) b.subs in let old = s.places j in omega arith;
}

small_published : (b : Board) (topic : Topic) (message : List ℕ) → length message ≤ MAX_MESSAGE → SmallBoard b → SmallBoard (published b topic message).1
small_published b topic message short s =
    let us = subscribers topic b.subs in
    let to = spread b.next_message message us b.clients in
    record {
      each = spread_small b.next_message message us b.clients short s.each;
      places = λ j.
          let over : Subscription → Bool = λ u. list_any (λ (id : ℕ). id == u.id) to.ended in
          let ends = ended_spread j b.next_message message to.ended us b.clients (λ id h. h) in
          let swapped = filter_twice over (λ u. is_same_topic u.topic topic) b.subs in
          let fewer = part_places j (λ u. is_same_topic u.topic topic) (filter over b.subs) in
          let parts = two_parts j over b.subs in
          let old = s.places j in
          let same = ap (λ (us : List Subscription). length (subs_of j us)) swapped in
          omega arith;
    }

few_ended : (b : Board) (client : ℕ) → SmallBoard b → length (ended_of client b.clients) ≤ MAX_SUBS
few_ended b client s = let few = s.places client in omega arith

small_polled : (b : Board) (client : ℕ) → SmallBoard b → SmallBoard (polled b client).1
small_polled b client s = record {
  each = changed_small client emptied b.clients s.each (λ c f d. emptied_small c d);
  places = λ j. let less = ended_emptied j client b.clients in let old = s.places j in omega arith;
}

small_next : (b : Board) (client number : ℕ) → SmallBoard b → SmallBoard (next_batch b client number).1
small_next b client number s = record {
  each = changed_small client (kept_as number) b.clients s.each (λ c f d. kept_as_small number c (subst (λ (e : List ℕ). length e ≤ MAX_SUBS) (ended_found client b.clients c f) (few_ended b client s)) d);
  places = λ j. let less = ended_stays j client number b.clients in let old = s.places j in omega arith;
}

small_without : (b : Board) (client : ℕ) → SmallBoard b → SmallBoard (without client b)
small_without b client s = record {
  each = all_filter SmallClient (λ c. not (c.id == client)) b.clients s.each;
  places = λ j.
      let less = part_places j (λ u. not (u.client == client)) b.subs in
      let fewer = ended_gone j client b.clients in
      let old = s.places j in omega arith;
}

small_without_all : (ks : List ℕ) (b : Board) → SmallBoard b → SmallBoard (without_all ks b)
small_without_all [] b s = s
small_without_all (k ∷ ks) b s = small_without_all ks (without k b) (small_without b k s)

small_found : (moment : ℕ) (b : Board) → SmallBoard b → SmallBoard (found moment b)
small_found moment b s = small_without_all (expired_at moment b) (record b { moment = later b.moment moment }) (record { each = s.each; places = s.places })

small_sighted : (who : Option ℕ) (b : Board) → SmallBoard b → SmallBoard (sighted who b)
small_sighted None b s = s
small_sighted (Some client) b s = record {
  each = changed_small client (seen_at b.moment) b.clients s.each (λ c f d. seen_small b.moment c d);
  places = λ j. let same = ap length (ended_seen j client b.moment b.clients) in let old = s.places j in omega arith;
}

-- What is refused.

abbrev Refuses : Option Reply → Type 0
Refuses None = Unit {0}
Refuses (Some r) = IsSmall r

either_refuses : (b : Bool) (o p : Option Reply) → Refuses o → Refuses p → Refuses (if b then o else p)
either_refuses true o p h k = h
either_refuses false o p h k = k

then_refuses : (o p : Option Reply) → Refuses o → Refuses p → Refuses (or_then o p)
then_refuses None p h k = k
then_refuses (Some r) p h k = h

if_refuses : (b : Bool) (r : Reply) → IsSmall r → Refuses (if b then Some r else None)
if_refuses true r h = h
if_refuses false r h = tt

unless_refuses : (b : Bool) (r : Reply) → IsSmall r → Refuses (if b then None else Some r)
unless_refuses true r h = tt
unless_refuses false r h = h

client_refuses : (b : Board) (k : ℕ) → Refuses (client_refusal b k)
client_refuses b k = unless_refuses (is_connected k b.clients) (NoClient k) tt

topic_refuses : (b : Board) (topic : Topic) → Refuses (topic_refusal b topic)
topic_refuses b topic =
    let long : Bool = nat_lt MAX_SUBTOPIC (length topic.subtopic) in
    either_refuses (not (list_any (bytes_eq topic.destination) b.destinations)) (Some (NoTopic topic.destination)) (if long then Some (TooLong MAX_SUBTOPIC) else None) tt (if_refuses long (TooLong MAX_SUBTOPIC) tt)

-- a refusal of the client, of the topic, and then of a test
behind_topic : (b : Board) (k : ℕ) (topic : Topic) (test : Bool) (r : Reply) → IsSmall r → Refuses (or_then (client_refusal b k) (or_then (topic_refusal b topic) (if test then Some r else None)))
behind_topic b k topic test r h =
    let last : Option Reply = if test then Some r else None in
    then_refuses (client_refusal b k) (or_then (topic_refusal b topic) last) (client_refuses b k) (then_refuses (topic_refusal b topic) last (topic_refuses b topic) (if_refuses test r h))

behind_client : (b : Board) (k : ℕ) (test : Bool) (r : Reply) → IsSmall r → Refuses (or_then (client_refusal b k) (if test then None else Some r))
behind_client b k test r h = then_refuses (client_refusal b k) (if test then None else Some r) (client_refuses b k) (unless_refuses test r h)

refuses : (b : Board) (call : Call) → Refuses (refusal b call)
refuses b Connect = if_refuses (nat_le MAX_CLIENTS (length b.clients)) (Full MAX_CLIENTS) tt
refuses b (Subscribe k topic) = behind_topic b k topic (nat_le MAX_SUBS (places_of k b)) (TooManySubs MAX_SUBS) tt
refuses b (Unsubscribe k sub) = behind_client b k (list_any (λ u. u.id == sub && u.client == k) b.subs) (NoSub sub) tt
refuses b (Publish k topic message) = behind_topic b k topic (nat_lt MAX_MESSAGE (length message)) (TooLong MAX_MESSAGE) tt
refuses b (Poll k) = client_refuses b k
refuses b (PollNumbered k number) = let last = last_of k b.clients in behind_client b k (number == last + 1 || (number == last && nat_le 1 last)) (BadNumber last) tt
refuses b (Disconnect k) = client_refuses b k

-- what is not refused passed each test
passed : (o p : Option Reply) → or_then o p ≡ None → p ≡ None
passed None p e = e
passed (Some r) p e = absurd cc

under : (b : Bool) (r : Reply) → (if b then Some r else None) ≡ None → b ≡ false
under true r e = absurd cc
under false r e = refl

-- The reply, and the board after it.

record Served (a : Reply × Board) : Type 0 where
  reply : IsSmall a.0
  board : SmallBoard a.1

serves : (b : Board) (call : Call) → refusal b call ≡ None → SmallBoard b → Served (served b call)
serves b Connect e s = record { reply = tt; board = small_connected b s }
serves b (Subscribe k topic) e s =
    let room = under (nat_le MAX_SUBS (places_of k b)) (TooManySubs MAX_SUBS) (passed (topic_refusal b topic) _ (passed (client_refusal b k) _ e)) in
    record { reply = tt; board = small_subscribed b k topic (grind (arith, nat_tests, room)) s }
serves b (Unsubscribe k sub) e s = record { reply = tt; board = small_unsubscribed b sub s }
serves b (Publish k topic message) e s =
    let short = under (nat_lt MAX_MESSAGE (length message)) (TooLong MAX_MESSAGE) (passed (topic_refusal b topic) _ (passed (client_refusal b k) _ e)) in
    record { reply = tt; board = small_published b topic message (grind (arith, nat_tests, short)) s }
serves b (Poll k) e s = record { reply = queue_small k b.clients s.each (few_ended b k s); board = small_polled b k s }
serves b (PollNumbered k number) e s = elim (number == last_of k b.clients)
    as (λ again. Served (if again then same_batch b k number else next_batch b k number)) [
      | true ↦ record { reply = kept_small k b.clients s.each; board = s }
      | false ↦ record { reply = queue_small k b.clients s.each (few_ended b k s); board = small_next b k number s }
    ]
serves b (Disconnect k) e s = record { reply = tt; board = small_without b k s }

answers : (b : Board) (call : Call) (o : Option Reply) → refusal b call ≡ o → Refuses o → SmallBoard b → Served (unless o b (served b call))
answers b call None e r s = serves b call e s
answers b call (Some refused) e r s = record { reply = r; board = s }

replies : (b : Board) (call : Call) → SmallBoard b → Served (reply_on b call)
replies b call s = answers b call (refusal b call) refl (refuses b call) s

small_reply : (s : State) (moment : ℕ) (call : Call) → SmallBoard s.board → IsSmall (answer_to s moment call).reply
unfolding answer_to
small_reply s moment call small = (replies (found moment s.board) call (small_found moment s.board small)).reply

small_after : (s : State) (moment : ℕ) (call : Call) → SmallBoard s.board → SmallBoard (after s moment call).board
unfolding after
small_after s moment call small = small_sighted (named_by call) _ (replies (found moment s.board) call (small_found moment s.board small)).board

small_first : (names : List (List ℕ)) → SmallBoard (first names).board
unfolding first
small_first names = record { each = tt; places = λ j. omega arith }

-- Histories.

answered_small : (s : State) (history : List Entry) → SmallBoard s.board → IsAnsweredFrom s history → AllByRecursion (λ e. IsSmall e.answer.reply) history
answered_small s [] small legal = tt
answered_small s (e ∷ later) small legal = (
  subst (λ (a : Answer). IsSmall a.reply) (sym legal.0) (small_reply s e.moment e.call small),
  answered_small (after s e.moment e.call) later (small_after s e.moment e.call small) legal.1,
)

pub last_small : (names : List (List ℕ)) (earlier : List Entry) (e : Entry) → IsLegal names (earlier ++ (e ∷ [])) → IsSmall e.answer.reply
last_small names earlier e legal = all_last (λ (d : Entry). IsSmall d.answer.reply) earlier e (answered_small (first names) (earlier ++ (e ∷ [])) (small_first names) legal)
