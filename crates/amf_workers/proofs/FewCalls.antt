-- How many calls of the desk a plan makes at most: one for each message, and so no more than 65,535 for each request and 65,535,000 for each link.
use Rattle.std.proofs.Common.{◌≡◌, ℕ, zero, suc, ◌+◌, ◌-◌, ◌*◌, ◌^◌, ◌<◌, ◌≤◌, ◌⊎◌, inl, inr, Bool, true, false, if◌then◌else◌, List, [], ◌∷◌, ◌++◌, length, Option, Some, None, refl, sym, ap, ◌∙◌, subst, arith, ℤ, pos, negsuc}
use Rattle.std.specs.Prelude.{map, ⊤, ◌==◌, ◌||◌, bytes_eq, decimal}
use Rattle.std.proofs.lemmas.List.{length-map}
use Rattle.amf_wire.specs.Style.{free}
use Rattle.amf_broker.specs.declared.call.Call.{Call}
use Rattle.amf_broker.specs.declared.reply.Delivery.{Delivery}
use Rattle.amf_broker.specs.declared.reply.Reply.{Reply}
use Rattle.amf_broker.specs.declared.reply.Reply.TheVariants.{Client, Subscribed, Batch, Numbered, Again}
use Rattle.amf_broker.specs.History.{Entry as Event}
use Rattle.amf_graph.specs.Graph.{Graph, Value}
use Rattle.amf0_spelling.specs.declared.form.Form.{Form}
use Rattle.amf0_spelling.specs.declared.form.Form.TheVariants as form
use Rattle.amf_packet.specs.Packet.{Body, Message, Packet, SpelledPacket}
use Rattle.flex_msgs.specs.Asked as asked
use Rattle.flex_msgs.specs.Asked.{Told, Asked, Viewed}
use Rattle.flex_msgs.specs.declared.reply.Reply.{Reply as Values}
use Rattle.flex_msgs.specs.Viewing.{value_view}
use Rattle.flex_msgs.specs.declared.reply.FaultText.{FaultText}
use Rattle.amf_service.specs.Meaning as meaning
use Rattle.amf_service.specs.Meaning.{Called, given, fault, result}
use Rattle.amf_service.specs.Registry.{Entry, called}
use Rattle.amf_service.specs.Shipped.{one_of, items_of}
use Rattle.amf_answer_plan.specs.Batches.{about_poll, invalidates, deliveries, synced, sync, batch}
use Rattle.amf_answer_plan.specs.Begun.{Begun}
use Rattle.amf_answer_plan.specs.Causes.{refusal, not_served, no_form, no_service, no_operation, service_fault, bad_message}
use Rattle.amf_answer_plan.specs.Commands.{acknowledge_or, acknowledged, publish_spelled, publish, say_subscribed, subscribe, unsubscribe, say_batch, poll, is_new, say_connected, connect, ping, disconnect, by_number, command}
use Rattle.amf_answer_plan.specs.Flex.{asked_answer, viewed_answer, message_in, message_of, flex}
use Rattle.amf_answer_plan.specs.Links.{LinkEnd, closed, answer_packet, answer_body, answer_request, link_of, link}
use Rattle.amf_answer_plan.specs.Packets.{null_uri, message_back, answer_to, messages_back, answers_to, has_long}
use Rattle.amf_answer_plan.specs.Plan.{Cut, at_end, cut_short, turned_away, request, Plan, gives, takes_moment, takes_word, calls, spells, reads, cuts, unpacks, packs, writes, ◌>>=◌}
use Rattle.amf_answer_plan.specs.PlainCalls as plain
use Rattle.amf_answer_plan.specs.Remoting as remote
use Rattle.amf_answer_plan.specs.Replies.{context_of, with_client, no_context, Context, Answer, error, acknowledge, acknowledge_null, reply_with}
use Rattle.amf_answer_plan.specs.Serving.{ServeEnd, ended, read_fault, write_fault, no_memory, spent, LinkBytes, Taken, supply_of, did, Partly, ServesBy, Serves}
use Rattle.amf_answer_plan.proofs.Composed.{runs_begun}
use Rattle.amf_answer_plan.specs.Runs.{Finds, IsUnpacked, Supply, Done, nothing, Takes}

no_calls : (d : Done) (n : ℕ) → d ≡ nothing → length d.calls ≤ n
no_calls d n e = omega (arith, ap (λ (x : Done). length x.calls) e)

-- nothing was done, or this
either : {B : Type 0} (d : Done) (n : ℕ) → (d ≡ nothing) ⊎ B → (B → length d.calls ≤ n) → length d.calls ≤ n
either d n (inl e) f = no_calls d n e
either d n (inr c) f = f c

took : {A : Type 0} (xs : List A) (next : A → List A → Type 0) (P : Type 0) → Takes xs ⊥ next → ((x : A) (ys : List A) → next x ys → P) → P
took [] next P t f = absurd t
took (x ∷ xs) next P t f = f x xs t

module _ {X : Type 0} where
  -- so many calls at the most, whatever is taken, asked and found
  abbrev pub AtMost : ℕ → Plan X → Type 0
  AtMost n (gives x) = ⊤
  AtMost n (takes_moment next) = (m : ℕ) → AtMost n (next m)
  AtMost n (takes_word next) = (w : ℕ) → AtMost n (next w)
  AtMost n (calls at call next) = (k : ℕ) × (n ≡ suc k) × ((r : Reply) → AtMost k (next r))
  AtMost n (spells how g next) = (b : Option (List ℕ)) → AtMost n (next b)
  AtMost n (reads message next) = (g : Option Graph) → AtMost n (next g)
  AtMost n (cuts bytes next) = (c : Cut) → AtMost n (next c)
  AtMost n (unpacks bytes next) = (p : Option Packet) → Finds (λ q. IsUnpacked q bytes) p → AtMost n (next p)
  AtMost n (packs p next) = (b : List ℕ) → AtMost n (next b)
  AtMost n (writes answer next) = AtMost n next

  weaker : (n m : ℕ) (p : Plan X) → n ≤ m → AtMost n p → AtMost m p
  weaker n m (gives x) le h = tt
  weaker n m (takes_moment next) le h = λ t. weaker n m (next t) le (h t)
  weaker n m (takes_word next) le h = λ w. weaker n m (next w) le (h w)
  weaker n m (calls at call next) le h = let e = h.1 in (m - 1, omega arith, λ r. weaker h.0 (m - 1) (next r) (omega arith) (h.2 r))
  weaker n m (spells how g next) le h = λ b. weaker n m (next b) le (h b)
  weaker n m (reads message next) le h = λ g. weaker n m (next g) le (h g)
  weaker n m (cuts bytes next) le h = λ c. weaker n m (next c) le (h c)
  weaker n m (unpacks bytes next) le h = λ p f. weaker n m (next p) le (h p f)
  weaker n m (packs p next) le h = λ b. weaker n m (next b) le (h b)
  weaker n m (writes answer next) le h = weaker n m next le h

  if_most : (n : ℕ) (b : Bool) (p q : Plan X) → AtMost n p → AtMost n q → AtMost n (if b then p else q)
  if_most n true p q h k = h
  if_most n false p q h k = k

  pub begun_few : (n : ℕ) (p : Plan X) (s : Supply) (d : Done) → AtMost n p → Begun p s d → length d.calls ≤ n
  begun_few n (gives x) s d h b = no_calls d n b
  begun_few n (takes_moment next) s d h b = either d n b (λ t. took s.moments _ (length d.calls ≤ n) t (λ m ms c. begun_few n (next m) (record s { moments = ms }) d (h m) c))
  begun_few n (takes_word next) s d h b = either d n b (λ t. took s.words _ (length d.calls ≤ n) t (λ w ws c. begun_few n (next w) (record s { words = ws }) d (h w) c))
  begun_few n (calls at call next) s d h b =
      let more = h.1 in
      either d n b (λ t. took s.replies _ (length d.calls ≤ n) t (λ r rs c. let few = begun_few h.0 (next r) (record s { replies = rs }) c.0 (h.2 r) c.1 in omega (arith, ap (λ (x : Done). length x.calls) c.2)))
  begun_few n (spells how g next) s d h b = either d n b (λ c. begun_few n (next c.0) s d (h c.0) c.2)
  begun_few n (reads message next) s d h b = either d n b (λ c. begun_few n (next c.0) s d (h c.0) c.2)
  begun_few n (cuts bytes next) s d h b = either d n b (λ c. begun_few n (next c.0) s d (h c.0) c.2)
  begun_few n (unpacks bytes next) s d h b = either d n b (λ c. begun_few n (next c.0) s d (h c.0 c.1) c.2)
  begun_few n (packs p next) s d h b = either d n b (λ c. begun_few n (next c.0) s d (h c.0) c.2)
  begun_few n (writes answer next) s d h b = either d n b (λ c. let few = begun_few n next s c.0 h c.1 in omega (arith, ap (λ (x : Done). length x.calls) c.2))

module _ {X Y : Type 0} where
  then_most : (n m : ℕ) (p : Plan X) (f : X → Plan Y) → AtMost n p → ((x : X) → AtMost m (f x)) → AtMost (n + m) (◌>>=◌ p f)
  then_most n m (gives x) f h k = weaker m (n + m) (f x) (omega arith) (k x)
  then_most n m (takes_moment next) f h k = λ t. then_most n m (next t) f (h t) k
  then_most n m (takes_word next) f h k = λ w. then_most n m (next w) f (h w) k
  then_most n m (calls at call next) f h k = let e = h.1 in (h.0 + m, omega arith, λ r. then_most h.0 m (next r) f (h.2 r) k)
  then_most n m (spells how g next) f h k = λ b. then_most n m (next b) f (h b) k
  then_most n m (reads message next) f h k = λ g. then_most n m (next g) f (h g) k
  then_most n m (cuts bytes next) f h k = λ c. then_most n m (next c) f (h c) k
  then_most n m (unpacks bytes next) f h k = λ p found. then_most n m (next p) f (h p found) k
  then_most n m (packs p next) f h k = λ b. then_most n m (next b) f (h b) k
  then_most n m (writes answer next) f h k = then_most n m next f h k

-- Answers that ask nothing of the desk.

error_none : (k : Context) (f : FaultText) → AtMost 0 (error k f)
error_none k f = λ a b c. tt

acknowledge_none : (k : Context) (client : List ℕ) (g : Graph) (v : Value) → AtMost 0 (acknowledge k client g v)
acknowledge_none k client g v = λ a b c d. tt

nulls_none : (k : Context) (client : List ℕ) → AtMost 0 (acknowledge_null k client)
nulls_none k client = λ a b c d. tt

invalidates_none : (k : Context) (subs : List ℕ) → AtMost 0 (invalidates k subs)
invalidates_none k [] = tt
invalidates_none k (sub ∷ subs) = λ a b c. then_most 0 0 (invalidates k subs) _ (invalidates_none k subs) (λ gs. tt)

deliveries_none : (ds : List Delivery) → AtMost 0 (deliveries ds)
deliveries_none [] = tt
deliveries_none (d ∷ ds) = λ g. then_most 0 0 (deliveries ds) _ (deliveries_none ds) (λ gs. tt)

synced_none : (r : Values) (gs : Option (List Graph)) (ends : List Graph) → AtMost 0 (synced r gs ends)
synced_none r None ends = tt
synced_none r (Some gs) ends = λ b. tt

sync_none : (k : Context) (ds : List Delivery) (subs : List ℕ) → AtMost 0 (sync k ds subs)
sync_none k ds subs = λ a b c. then_most 0 0 (invalidates k subs) _ (invalidates_none k subs) (λ ends. then_most 0 0 (deliveries ds) _ (deliveries_none ds) (λ gs. synced_none (reply_with k [] a b c) gs ends))

batch_none : (k : Context) (ds : List Delivery) (subs : List ℕ) → AtMost 0 (batch k ds subs)
batch_none k [] [] = nulls_none k []
batch_none k [] (sub ∷ subs) = sync_none k [] (sub ∷ subs)
batch_none k (d ∷ ds) subs = sync_none k (d ∷ ds) subs

or_none : (k : Context) (client : List ℕ) (f : Option FaultText) → AtMost 0 (acknowledge_or k client f)
or_none k client None = nulls_none k client
or_none k client (Some f) = error_none k f

acknowledged_none : (k : Context) (client : List ℕ) (r : Reply) → AtMost 0 (acknowledged k client r)
acknowledged_none k client r = or_none k client (refusal r)

subscribed_none : (k : Context) (r : Reply) → AtMost 0 (say_subscribed k r)
subscribed_none k (Subscribed id) = nulls_none k (decimal id)
subscribed_none k r = acknowledged_none k [] r

connected_none : (k : Context) (r : Reply) → AtMost 0 (say_connected k r)
connected_none k (Client id) = nulls_none (with_client (decimal id) k) []
connected_none k r = acknowledged_none k [] r

said_none : (k : Context) (r : Reply) → AtMost 0 (say_batch k r)
said_none k (Batch ds subs) = batch_none k ds subs
said_none k (Numbered number ds subs) = batch_none k ds subs
said_none k (Again number ds subs) = batch_none k ds subs
said_none k r = acknowledged_none k [] r

outcome_none : (k : Context) (c : Called) → AtMost 0 (remote.outcome k c)
outcome_none k meaning.no_service = error_none k no_service
outcome_none k meaning.no_operation = error_none k no_operation
outcome_none k (given (fault x)) = error_none k (service_fault x)
outcome_none k (given (result g)) = acknowledge_none k [] g g.root

remoting_none : (services : List Entry) (t : Told) (operation : List ℕ) (args : Option Graph) → AtMost 0 (remote.call services t operation args)
remoting_none services t operation None = error_none (context_of t) bad_message
remoting_none services t operation (Some args) = outcome_none (context_of t) (called services t.destination operation args)

formed_none : (g : Graph) (b : Option (List ℕ)) → AtMost 0 (plain.if_plain g b)
formed_none g None = λ b. tt
formed_none g (Some b) = tt

form_none : (f : Form) (g : Graph) → AtMost 0 (plain.form_for f g)
form_none form.Plain g = λ b. formed_none g b
form_none form.Amf3 g = λ b. tt
form_none form.Call g = λ b. tt

succeeded_none : (f : Form) (g : Graph) → AtMost 0 (plain.succeeded f g)
succeeded_none f g = then_most 0 0 (plain.form_for f g) _ (form_none f g) (λ found. tt)

plain_outcome_none : (f : Form) (c : Called) → AtMost 0 (plain.outcome f c)
plain_outcome_none f meaning.no_service = tt
plain_outcome_none f meaning.no_operation = tt
plain_outcome_none f (given (fault x)) = tt
plain_outcome_none f (given (result g)) = succeeded_none f g

called_none : (services : List Entry) (f : Form) (t : plain.Target) (args : Option Graph) → AtMost 0 (plain.call services f t args)
called_none services f t None = tt
called_none services f t (Some args) = plain_outcome_none f (called services t.service t.operation args)

plain_none : (services : List Entry) (body : Body) (t : Option plain.Target) → AtMost 0 (plain.plain_call services body t)
plain_none services body None = tt
plain_none services body (Some t) = called_none services body.form t (plain.arguments body.form body.graph)

-- A Flex request asks the desk once at the most.

one : {X : Type 0} (p : Plan X) → AtMost 0 p → AtMost 1 p
one p h = weaker 0 1 p (omega arith) h

subscribe_one : (t : Told) → AtMost 1 (subscribe t)
subscribe_one t = λ m. (0, refl, λ r. subscribed_none (context_of t) r)

unsubscribe_one : (t : Told) → AtMost 1 (unsubscribe t)
unsubscribe_one t = λ m. (0, refl, λ r. acknowledged_none (context_of t) t.client r)

poll_one : (g : Graph) (t : Told) → AtMost 1 (poll g t)
poll_one g t = λ m. (0, refl, λ r. said_none (context_of t) r)

ping_one : (t : Told) → AtMost 1 (ping t)
ping_one t = if_most 1 (is_new t.ds_id) (connect t) (acknowledge_null (context_of t) []) (λ m. (0, refl, λ r. connected_none (context_of t) r)) (one (acknowledge_null (context_of t) []) (nulls_none (context_of t) []))

disconnect_one : (t : Told) → AtMost 1 (disconnect t)
disconnect_one t = λ m. (0, refl, λ r. acknowledged_none (context_of t) [] r)

number_one : (g : Graph) (t : Told) (n : ℕ) → AtMost 1 (by_number g t n)
number_one g t n =
    if_most 1 (n == 0) _ _ (subscribe_one t) (if_most 1 (n == 1) _ _ (unsubscribe_one t) (if_most 1 (n == 2) _ _ (poll_one g t) (if_most 1 (n == 5) _ _ (ping_one t) (if_most 1 (n == 12) _ _ (disconnect_one t)
    (one (error (context_of t) not_served) (error_none (context_of t) not_served))))))

command_one : (g : Graph) (t : Told) (operation : ℤ) → AtMost 1 (command g t operation)
command_one g t (pos n) = number_one g t n
command_one g t (negsuc n) = one (error (context_of t) not_served) (error_none (context_of t) not_served)

spelled_one : (t : Told) (at : ℕ) (message : Option (List ℕ)) → AtMost 1 (publish_spelled t at message)
spelled_one t at None = one (error (context_of t) no_form) (error_none (context_of t) no_form)
spelled_one t at (Some message) = (0, refl, λ r. acknowledged_none (context_of t) [] r)

asked_one : (services : List Entry) (g : Graph) (a : Asked) → AtMost 1 (asked_answer services g a)
asked_one services g (asked.remoting t operation) = one (remote.remoting services g t operation) (remoting_none services t operation (remote.arguments g t.body))
asked_one services g (asked.command t operation) = command_one g t operation
asked_one services g (asked.async t correlation) = λ m b. spelled_one t m b

viewed_one : (services : List Entry) (g : Graph) (v : Viewed) → AtMost 1 (viewed_answer services g v)
viewed_one services g (asked.request r) = asked_one services g r
viewed_one services g v = one (error no_context bad_message) (error_none no_context bad_message)

message_one : (services : List Entry) (g : Graph) (v : Option Value) → AtMost 1 (message_in services g v)
message_one services g None = one (error no_context bad_message) (error_none no_context bad_message)
message_one services g (Some v) = viewed_one services g (value_view g v)

answer_one : (services : List Entry) (m : Message) → AtMost 1 (answer_to services m)
answer_one services m = if_most 1 (bytes_eq m.target null_uri) (flex services m.body) (plain.plain_call services m.body (plain.at_last_dot m.target))
    (message_one services m.body.graph (message_of m.body.form m.body.graph))
    (one (plain.plain_call services m.body (plain.at_last_dot m.target)) (plain_none services m.body (plain.at_last_dot m.target)))

-- A packet has less than 2^16 messages.

back_most : (services : List Entry) (ms : List Message) → AtMost (length ms) (messages_back services ms)
back_most services [] = tt
back_most services (m ∷ ms) =
    subst (λ (n : ℕ). AtMost n (messages_back services (m ∷ ms))) (let e : 1 + length ms ≡ length (m ∷ ms) = omega arith in e)
    (then_most 1 (length ms) (answer_to services m) _ (answer_one services m) (λ a. subst (λ (n : ℕ). AtMost n (◌>>=◌ (messages_back services ms) (λ back. gives (message_back m.response a ∷ back)))) (let e : length ms + 0 ≡ length ms = omega arith in e) (then_most (length ms) 0 (messages_back services ms) _ (back_most services ms) (λ back. tt))))

few_messages : (p : Packet) (b : List ℕ) → IsUnpacked p b → length p.messages < 2 ^ 16
few_messages p b u = u.0.1.4.4.3.0

answers_most : (services : List Entry) (p : Packet) (b : List ℕ) → IsUnpacked p b → AtMost 65535 (answers_to services p)
answers_most services p b u =
    let few = few_messages p b u in
    weaker (length p.messages + 0) 65535 (answers_to services p) (omega arith) (then_most (length p.messages) 0 (messages_back services p.messages) _ (back_most services p.messages) (λ back. tt))

body_most : (n : ℕ) (services : List Entry) (close : Bool) (rest : Plan LinkEnd) (body : List ℕ) (p : Option Packet) → AtMost n rest → Finds (λ q. IsUnpacked q body) p → AtMost (65535 + n) (answer_body services close rest p)
body_most n services close rest body None h u = tt
body_most n services close rest body (Some p) h u = if_most (65535 + n) (has_long p) _ (answer_packet services close rest p) tt
    (then_most 65535 n (answers_to services p) _ (answers_most services p body u) (λ back bytes. if_most n close (gives closed) rest tt h))

request_most : (n : ℕ) (services : List Entry) (last : Bool) (after : List ℕ → Plan LinkEnd) (c : Cut) → ((rest : List ℕ) → AtMost n (after rest)) → AtMost (65535 + n) (answer_request services last after c)
request_most n services last after at_end h = tt
request_most n services last after cut_short h = tt
request_most n services last after (turned_away status) h = tt
request_most n services last after (request body close rest) h = λ p found. body_most n services (close || last) (after rest) body p (h rest) found

link_most : (n : ℕ) (services : List Entry) (bytes : List ℕ) → AtMost (n * 65535) (link_of n services bytes)
link_most zero services bytes = tt
link_most (suc n) services bytes = subst (λ (k : ℕ). AtMost k (link_of (suc n) services bytes)) (let e : 65535 + n * 65535 ≡ suc n * 65535 = omega arith in e) (λ c. request_most (n * 65535) services (n == 0) (link_of n services) c (link_most n services))

module _ (n : ℕ) (plan : List ℕ → Plan LinkEnd) (most : (bytes : List ℕ) → AtMost n (plan bytes)) (b : LinkBytes) (k : Taken) where
  part_few : (answers : List (List ℕ)) → Partly (plan b.left) k answers → length k.entries ≤ n
  part_few answers p = let few = begun_few n (plan b.left) (supply_of k) (did k answers) (most b.left) p in omega (arith, length-map {B = ℕ × Call} k.entries (λ (e : Event). (e.moment, e.call)))

  few_of : (end : ServeEnd) → ServesBy plan b k end → length k.entries ≤ n
  few_of (ended end) s = part_few s.0 (runs_begun (plan b.left) (supply_of k) (did k s.0) _ s.1)
  few_of read_fault s = part_few s.0 s.5
  few_of write_fault s = part_few (s.0 ++ (s.1 ++ s.2) ∷ []) s.3
  few_of no_memory s = part_few s.0 s.1
  few_of spent s = part_few s.0 s.1

-- what serving a link took
pub few_entries : (services : List Entry) (b : LinkBytes) (k : Taken) (end : ServeEnd) → Serves services b k end → length k.entries ≤ 65535000
few_entries services b k end s = few_of 65535000 (link services) (λ bytes. link_most 1000 services bytes) b k end s
