-- What a listener wrote and what its taker took, by what came.
use Rattle.std.proofs.Common.{◌≡◌, ◌∙◌, ℕ, ◌+◌, Bool, true, false, List, [], ◌∷◌, ◌++◌, append-nil, append_assoc, Option, Some, None, refl, sym, ap, subst}
use Rattle.std.specs.Prelude.{slice_get}
use Rattle.std.specs.List.{AllByRecursion}
use Rattle.std.proofs.lemmas.Bool.{eq-eqb}
use Rattle.amf_graph.specs.Graph.{Graph}
use Rattle.amf_broker.specs.declared.call.Call.{Call}
use Rattle.amf_broker.specs.declared.reply.Delivery.{Delivery}
use Rattle.amf_broker.specs.declared.reply.Answer.{Answer as Told}
use Rattle.amf_broker.specs.Delivery.{Message, messages_for, rest, DeliveryHolds}
use Rattle.amf_once.specs.declared.taker.Taken.{Taken}
use Rattle.amf_once.specs.declared.taker.Taken.TheVariants.{New, Old, Ahead}
use Rattle.amf_once.specs.declared.event.Event.{Event}
use Rattle.amf_once.specs.declared.event.Event.TheVariants.{Ask, Arrive, Answer, Other}
use Rattle.amf_once.specs.Taking.{judged, Said, fresh, repeated, other, says}
use Rattle.amf_once.specs.Course.{Course, start, step, run, pending, asked, arrived, answered, heard, took as took_batch, called, is_barred}
use Rattle.amf_once.specs.Once.{AllOnce}
use Rattle.amf_poll_session.specs.declared.request.Request.{Request}
use Rattle.amf_poll_session.specs.declared.request.Request.TheVariants.{Ping, Subscribe, Poll, Disconnect}
use Rattle.amf_poll_session.specs.Sessions.{Turn, no_link, link_fault, starved, bad, fault, reply, End, Session, Sent, first_session, linked_by, carried, missed, turned, replied, took, unless_ended, listen_from, listen}
use Rattle.amf_poll_session.specs.Delivered.{Brought, brought_to, brought_by, brought_before, replies_from, Batch, batch_in, batch_of, batch_at, batches_from, AreBodies, AreWritten, AreBatches, AllDelivered}

-- what is kept of a batch, and the number that is asked then
abbrev kept : {X : Type 0} → Taken → List X → List X
kept New xs = xs
kept Old xs = []
kept Ahead xs = []

abbrev asks_then : Taken → ℕ → ℕ
asks_then New n = n + 1
asks_then Old n = n
asks_then Ahead n = n

abbrev all_kept : ℕ → List Batch → List Delivery
all_kept n [] = []
all_kept n (b ∷ batches) = kept (judged n b.number) b.deliveries ++ all_kept (asks_then (judged n b.number) n) batches

abbrev asks_behind : ℕ → List Batch → ℕ
asks_behind n [] = n
asks_behind n (b ∷ batches) = asks_behind (asks_then (judged n b.number) n) batches

abbrev all_written : ℕ → List Brought → List Graph
all_written n [] = []
all_written n (r ∷ replies) = kept (judged n r.number) r.bodies ++ all_written (asks_then (judged n r.number) n) replies

abbrev asks_written : ℕ → List Brought → ℕ
asks_written n [] = n
asks_written n (r ∷ replies) = asks_written (asks_then (judged n r.number) n) replies

-- The course.

-- what a step takes of a batch, if one comes
record Takes (w v : Course) (batches : List Batch) : Type 0 where
  asks : v.asks ≡ asks_behind w.asks batches
  taken : v.taken ≡ w.taken ++ all_kept w.asks batches

nothing_taken : (w v : Course) → v.asks ≡ w.asks → v.taken ≡ w.taken → Takes w v []
nothing_taken w v a t = record { asks = a; taken = t ∙ sym (append-nil w.taken) }

took_asks : (w : Course) (ds : List Delivery) (t : Taken) → (took_batch t ds w).asks ≡ asks_then t w.asks
took_asks w ds New = refl
took_asks w ds Old = refl
took_asks w ds Ahead = refl

took_taken : (w : Course) (ds : List Delivery) (t : Taken) → (took_batch t ds w).taken ≡ w.taken ++ (kept t ds ++ [])
took_taken w ds New = ap (λ (l : List Delivery). w.taken ++ l) (sym (append-nil ds))
took_taken w ds Old = sym (append-nil w.taken)
took_taken w ds Ahead = sym (append-nil w.taken)

batch_taken : (w : Course) (n : ℕ) (ds : List Delivery) → Takes w (took_batch (judged w.asks n) ds w) (record { number = n; deliveries = ds } ∷ [])
batch_taken w n ds = record { asks = took_asks w ds (judged w.asks n); taken = took_taken w ds (judged w.asks n) }

said_taken : (w : Course) (x : Said) → Takes w (heard x w) (batch_in x)
said_taken w (fresh n ds) = batch_taken w n ds
said_taken w (repeated n ds) = batch_taken w n ds
said_taken w other = nothing_taken w w refl refl

answer_taken : (w : Course) (a : Option Told) → Takes w (answered a w) (batch_of a)
answer_taken w None = nothing_taken w w refl refl
answer_taken w (Some a) = said_taken w (says a.reply)

arrival_taken : (w : Course) (moment : ℕ) (n : Option ℕ) → Takes w (arrived moment n w) []
arrival_taken w moment None = nothing_taken w w refl refl
arrival_taken w moment (Some n) = nothing_taken w (arrived moment (Some n) w) refl refl

call_taken : (w : Course) (moment : ℕ) (c : Call) (b : Bool) → Takes w (called moment c b w) []
call_taken w moment c true = nothing_taken w w refl refl
call_taken w moment c false = nothing_taken w (called moment c false w) refl refl

step_taken : (e : Event) (w : Course) → Takes w (step e w) (batch_at e w)
step_taken Ask w = nothing_taken w (asked w) refl refl
step_taken (Arrive moment k) w = arrival_taken w moment (slice_get w.requests k)
step_taken (Answer k) w = answer_taken w (slice_get w.answers k)
step_taken (Other moment c) w = call_taken w moment c (is_barred 1 c)

kept_more : (n : ℕ) (front batches : List Batch) → all_kept n (front ++ batches) ≡ all_kept n front ++ all_kept (asks_behind n front) batches
kept_more n [] batches = refl
kept_more n (b ∷ front) batches =
    ap (λ (l : List Delivery). kept (judged n b.number) b.deliveries ++ l) (kept_more (asks_then (judged n b.number) n) front batches)
    ∙ sym (append_assoc (kept (judged n b.number) b.deliveries) (all_kept (asks_then (judged n b.number) n) front) (all_kept (asks_behind (asks_then (judged n b.number) n) front) batches))

run_taken : (es : List Event) (w : Course) → (run es w).taken ≡ w.taken ++ all_kept w.asks (batches_from es w)
run_taken [] w = sym (append-nil w.taken)
run_taken (e ∷ es) w =
    let t = step_taken e w in
    let v = step e w in
    let now = batch_at e w in
    let more = batches_from es v in
    run_taken es v ∙ (ap (λ (l : List Delivery). l ++ all_kept v.asks more) t.taken
    ∙ (ap (λ (n : ℕ). (w.taken ++ all_kept w.asks now) ++ all_kept n more) t.asks
    ∙ (append_assoc w.taken (all_kept w.asks now) (all_kept (asks_behind w.asks now) more) ∙ ap (λ (l : List Delivery). w.taken ++ l) (sym (kept_more w.asks now more)))))

-- The session.

-- what a turn writes of the reply that it brings, if it brings one
record Writes (s t : Session Graph) (replies : List Brought) : Type 0 where
  asks : t.asks ≡ asks_written s.asks replies
  written : t.written ≡ s.written ++ all_written s.asks replies

nothing_written : (s t : Session Graph) → t.asks ≡ s.asks → t.written ≡ s.written → Writes s t []
nothing_written s t a w = record { asks = a; written = w ∙ sym (append-nil s.written) }

-- a link that is opened or used changes neither
linked_asks : (l : Option (List (Sent Graph))) (s : Session Graph) → (linked_by l s).asks ≡ s.asks
linked_asks None s = refl
linked_asks (Some sent) s = refl

linked_written : (l : Option (List (Sent Graph))) (s : Session Graph) → (linked_by l s).written ≡ s.written
linked_written None s = refl
linked_written (Some sent) s = refl

missed_written : (l : Option (List (Sent Graph))) (s : Session Graph) → Writes s (missed l s) []
missed_written None s = nothing_written s (missed None s) refl refl
missed_written (Some sent) s = nothing_written s s refl refl

session_asks : (bodies : List Graph) (t : Taken) (s : Session Graph) → (took t bodies s).asks ≡ asks_then t s.asks
session_asks bodies New s = refl
session_asks bodies Old s = refl
session_asks bodies Ahead s = refl

session_written : (bodies : List Graph) (t : Taken) (s : Session Graph) → (took t bodies s).written ≡ s.written ++ (kept t bodies ++ [])
session_written bodies New s = ap (λ (l : List Graph). s.written ++ l) (sym (append-nil bodies))
session_written bodies Old s = sym (append-nil s.written)
session_written bodies Ahead s = sym (append-nil s.written)

replied_written : (most : ℕ) (ds : List ℕ) (bodies : List Graph) (r : Request) (s : Session Graph) → Writes s (replied most ds bodies r s) (brought_to r bodies)
replied_written most ds bodies Ping s = nothing_written s (replied most ds bodies Ping s) refl refl
replied_written most ds bodies Subscribe s = nothing_written s (replied most ds bodies Subscribe s) refl refl
replied_written most ds bodies (Poll n) s = record { asks = session_asks bodies (judged s.asks n) s; written = session_written bodies (judged s.asks n) s }
replied_written most ds bodies Disconnect s = nothing_written s (replied most ds bodies Disconnect s) refl refl

-- and so does a turn that its link has carried
behind_link : (s c t : Session Graph) (replies : List Brought) → c.asks ≡ s.asks → c.written ≡ s.written → Writes c t replies → Writes s t replies
behind_link s c t replies a w x = record { asks = x.asks ∙ ap (λ (n : ℕ). asks_written n replies) a; written = x.written ∙ (ap (λ (l : List Graph). l ++ all_written c.asks replies) w ∙ ap (λ (n : ℕ). s.written ++ all_written n replies) a) }

turned_written : (most : ℕ) (turn : Turn Graph) (s : Session Graph) → Writes s (turned most turn s) (brought_by turn s.request)
turned_written most no_link s = missed_written s.link s
turned_written most link_fault s = nothing_written s (turned most link_fault s) (linked_asks s.link s) (linked_written s.link s)
turned_written most starved s = nothing_written s (turned most starved s) (linked_asks s.link s) (linked_written s.link s)
turned_written most (bad n) s = nothing_written s (turned most (bad n) s) (linked_asks s.link s) (linked_written s.link s)
turned_written most (fault code text) s = nothing_written s (turned most (fault code text) s) (linked_asks s.link s) (linked_written s.link s)
turned_written most (reply ds bodies) s =
    let c = carried (reply ds bodies) s in
    behind_link s c (replied most ds bodies s.request c) (brought_to s.request bodies) (linked_asks s.link s) (linked_written s.link s) (replied_written most ds bodies s.request c)

unless_written : (most : ℕ) (e : Option End) (turn : Turn Graph) (s : Session Graph) → Writes s (unless_ended most e turn s) (brought_before e turn s.request)
unless_written most None turn s = turned_written most turn s
unless_written most (Some e) turn s = nothing_written s s refl refl

written_more : (n : ℕ) (front replies : List Brought) → all_written n (front ++ replies) ≡ all_written n front ++ all_written (asks_written n front) replies
written_more n [] replies = refl
written_more n (r ∷ front) replies =
    ap (λ (l : List Graph). kept (judged n r.number) r.bodies ++ l) (written_more (asks_then (judged n r.number) n) front replies)
    ∙ sym (append_assoc (kept (judged n r.number) r.bodies) (all_written (asks_then (judged n r.number) n) front) (all_written (asks_written (asks_then (judged n r.number) n) front) replies))

session_wrote : (most : ℕ) (turns : List (Turn Graph)) (s : Session Graph) → (listen_from most turns s).written ≡ s.written ++ all_written s.asks (replies_from most turns s)
session_wrote most [] s = sym (append-nil s.written)
session_wrote most (turn ∷ turns) s =
    let t = unless_ended most s.end turn s in
    let now = brought_before s.end turn s.request in
    let more = replies_from most turns t in
    let x = unless_written most s.end turn s in
    session_wrote most turns t ∙ (ap (λ (l : List Graph). l ++ all_written t.asks more) x.written
    ∙ (ap (λ (n : ℕ). (s.written ++ all_written s.asks now) ++ all_written n more) x.asks
    ∙ (append_assoc s.written (all_written s.asks now) (all_written (asks_written s.asks now) more) ∙ ap (λ (l : List Graph). s.written ++ l) (sym (written_more s.asks now more)))))

-- Both.

module _ (meant : List ℕ → Graph) where
  bodies_more : (ds es : List Delivery) (bs cs : List Graph) → AreBodies meant ds bs → AreBodies meant es cs → AreBodies meant (ds ++ es) (bs ++ cs)
  bodies_more [] es [] cs a b = b
  bodies_more [] es (x ∷ bs) cs a b = absurd a
  bodies_more (d ∷ ds) es [] cs a b = absurd a
  bodies_more (d ∷ ds) es (x ∷ bs) cs a b = (a.0, bodies_more ds es bs cs a.1 b)

  kept_bodies : (t : Taken) (ds : List Delivery) (bs : List Graph) → AreBodies meant ds bs → AreBodies meant (kept t ds) (kept t bs)
  kept_bodies New ds bs a = a
  kept_bodies Old ds bs a = tt
  kept_bodies Ahead ds bs a = tt

  all_bodies : (n : ℕ) (batches : List Batch) (replies : List Brought) → AreBatches meant batches replies → AreBodies meant (all_kept n batches) (all_written n replies)
  all_bodies n [] [] a = tt
  all_bodies n [] (r ∷ replies) a = absurd a
  all_bodies n (b ∷ batches) [] a = absurd a
  all_bodies n (b ∷ batches) (r ∷ replies) a =
      let t = judged n b.number in
      subst (λ (k : ℕ). AreBodies meant (all_kept n (b ∷ batches)) (kept (judged n k) r.bodies ++ all_written (asks_then (judged n k) n) replies)) (sym a.0)
      (bodies_more (kept t b.deliveries) (all_kept (asks_then t n) batches) (kept t r.bodies) (all_written (asks_then t n) replies) (kept_bodies t b.deliveries r.bodies a.1) (all_bodies (asks_then t n) batches replies a.2))

-- deliveries that are all of one subscription
messages_written : (meant : List ℕ → Graph) (sub : ℕ) (ds : List Delivery) (bodies : List Graph) → AllByRecursion (λ d. d.sub ≡ sub) ds → AreBodies meant ds bodies → AreWritten meant (messages_for sub ds) bodies
messages_written meant sub [] [] own same = tt
messages_written meant sub [] (b ∷ bodies) own same = absurd same
messages_written meant sub (d ∷ ds) [] own same = absurd same
messages_written meant sub (d ∷ ds) (b ∷ bodies) own same =
    rw (eq-eqb d.sub sub own.0) (same.0, messages_written meant sub ds bodies own.1 same.1)

pub all_delivered : AllOnce → DeliveryHolds → AllDelivered
all_delivered once holds meant most turns destinations events same earlier since e sub topic began parts =
    let w = run events (start destinations) in
    let o = once destinations events in
    let x = o.each sub (record { earlier = earlier; since = since; entry = e; topic = topic; begins = began; parts = parts }) in
    let d = holds w.calls w.state o.legal earlier since e sub 1 topic began parts in
    let taken = messages_for sub w.taken in
    let held = messages_for sub (pending w) in
    let bodies : AreBodies meant w.taken (listen most turns).written = subst (λ (l : List Delivery). AreBodies meant l (listen most turns).written) (sym (run_taken events (start destinations)))
    (subst (λ (l : List Graph). AreBodies meant (all_kept 1 (batches_from events (start destinations))) l) (sym (session_wrote most turns first_session)) (all_bodies meant 1 (batches_from events (start destinations)) (replies_from most turns first_session) same)) in
    record {
      bodies = bodies;
      messages = λ own. messages_written meant sub w.taken (listen most turns).written own bodies;
      in_order = x.in_order;
      nothing_lost = λ stays. sym (append_assoc taken held (rest sub 1 w.state)) ∙ (ap (λ (l : List Message). l ++ rest sub 1 w.state) x.nothing_lost ∙ d.connected stays);
      nothing_else = λ left. let p = d.gone left in (held ++ p.0, sym (append_assoc taken held p.0) ∙ (ap (λ (l : List Message). l ++ p.0) x.nothing_lost ∙ p.1));
    }
