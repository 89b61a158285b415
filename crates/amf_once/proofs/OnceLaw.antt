-- The law: what was taken and then what is pending is what was handed out.
use Rattle.std.proofs.Common.{◌≡◌, ℕ, ◌+◌, ◌<◌, ◌≤◌, true, false, List, [], ◌∷◌, ◌++◌, length, Some, None, refl, sym, ◌∙◌, ap, subst, arith, append_assoc, ◌⊎◌, inl, inr}
use Rattle.std.specs.Prelude.{slice_get, Option, Bool, ◌==◌, nat_lt}
use Rattle.std.proofs.lemmas.List.{append-nil}
use Rattle.std.proofs.lemmas.List.Elements.{filter_map-append}
use Rattle.amf_broker.specs.declared.call.Call.{Call}
use Rattle.amf_broker.specs.declared.call.Call.TheVariants.{Connect, Subscribe, Unsubscribe, Publish, Poll, PollNumbered, Disconnect}
use Rattle.amf_broker.specs.declared.reply.Delivery.{Delivery}
use Rattle.amf_broker.specs.declared.reply.Answer.{Answer as Told}
use Rattle.amf_broker.specs.State.{first}
use Rattle.amf_broker.specs.Machine.{answer_to, after}
use Rattle.amf_broker.specs.History.{Entry}
use Rattle.amf_broker.specs.Delivery.{Message, message_for, messages_for, handed_to, got}
use Rattle.amf_broker.proofs.Law.{leaves-first, leaves-then}
use Rattle.amf_once.specs.declared.taker.Taken.{Taken}
use Rattle.amf_once.specs.declared.taker.Taken.TheVariants.{New, Old, Ahead}
use Rattle.amf_once.specs.declared.event.Event.{Event}
use Rattle.amf_once.specs.declared.event.Event.TheVariants.{Ask, Arrive, Answer, Other}
use Rattle.amf_once.specs.Taking.{judged, Said, fresh, repeated, other, says}
use Rattle.amf_once.specs.Hearing.{Below}
use Rattle.amf_once.specs.Owners.{polls, OnlyPolls}
use Rattle.amf_once.specs.Course.{Course, entry_of, start, asked, arrived, took, heard, answered, is_barred, called, step, run, fresh_or, pending}
use Rattle.amf_once.proofs.Held.{Held, held, Keeps, Polled, polled-fact, others-fact, next-fact, held-first, next-first}
use Rattle.amf_once.proofs.Answering.{at_most_more, at_most_suc, at_most_item, all_more, all_item, all_weaken, fresh_behind, none_fresh, fresh_stays, others_before, others_last}
use Rattle.amf_once.proofs.Stands.{HoldsNumber, HoldsBatch, Near, Level, Waits, Stands, keeps_number, keeps_batch, number_held, batch_held}

judged_new : (asks n : ℕ) → n ≡ asks → judged asks n ≡ New
judged_new asks n e = let is : (n == asks) ≡ true = grind arith in rw is refl

judged_old : (asks n : ℕ) → n < asks → judged asks n ≡ Old
judged_old asks n less = let ne : (n == asks) ≡ false = grind arith in let is : nat_lt n asks ≡ true = grind arith in rw ne (rw is refl)

-- what one call more hands out
got-append : (sub : ℕ) (xs ys : List Entry) → got sub (xs ++ ys) ≡ got sub xs ++ got sub ys
got-append sub [] ys = refl
got-append sub (x ∷ xs) ys = ap (λ m. handed_to sub x.answer.reply ++ m) (got-append sub xs ys) ∙ sym (append_assoc (handed_to sub x.answer.reply) (got sub xs) (got sub ys))

got_more : (sub : ℕ) (calls : List Entry) (c : Entry) → got sub (calls ++ (c ∷ [])) ≡ got sub calls ++ handed_to sub c.answer.reply
got_more sub calls c = got-append sub calls (c ∷ []) ∙ ap (λ z. got sub calls ++ z) (append-nil (handed_to sub c.answer.reply))

-- a call that hands out nothing
got_none : (sub : ℕ) (calls : List Entry) (c : Entry) → handed_to sub c.answer.reply ≡ [] → got sub (calls ++ (c ∷ [])) ≡ got sub calls
got_none sub calls c e = got_more sub calls c ∙ ap (λ z. got sub calls ++ z) e ∙ append-nil (got sub calls)

-- what is no poll or Disconnect of the client is no poll of it
unbarred : (c : Call) → is_barred 1 c ≡ false → polls 1 c ≡ false
unbarred Connect e = refl
unbarred (Subscribe k t) e = refl
unbarred (Unsubscribe k u) e = refl
unbarred (Publish k t message) e = refl
unbarred (Poll k) e = e
unbarred (PollNumbered k n) e = e
unbarred (Disconnect k) e = refl

-- A request arrives.

arrived_level : (sub : ℕ) (w : Course) (moment n : ℕ) (x : Said) (hands : List Message) (now : Option Held) → let c = PollNumbered 1 n in
    says (answer_to w.state moment c).reply ≡ x → handed_to sub (answer_to w.state moment c).reply ≡ hands → held (after w.state moment c) ≡ now
    → Polled sub n (held w.state) x hands now → n ≤ w.asks → Level sub w
    → Level sub (arrived moment (Some n) w) ⊎ Waits sub (arrived moment (Some n) w)
arrived_level sub w moment n (fresh k ds) hands now says hand hold p le l =
    let r = answer_to w.state moment (PollNumbered 1 n) in
    let call = entry_of w.state moment (PollNumbered 1 n) in
    let last : p.2.held.last ≡ l.last = number_held l.last p.2.held (held w.state) p.2.is l.held in
    let next = l.next in
    let far = p.2.next in
    let k_is = p.0 in
    let number : n ≡ w.asks = omega arith in
    let is_asked : k ≡ w.asks = omega arith in
    inr (record {
      batch = ds;
      held = subst (HoldsBatch w.asks ds) (sym (hold ∙ p.3)) (ap (λ z. record { last = z; batch = ds }) number);
      answers = all_more (Near w.asks ds) w.answers r (all_weaken (Below w.asks) (Near w.asks ds) w.answers (λ y. below_near w.asks ds y) l.answers) (subst (Near w.asks ds) (sym says) (inr (is_asked, refl)));
      fresh = fresh_behind w.asks w.answers r l.answers ∙ (ap (λ y. fresh_or w.asks y []) says ∙ fresh_hit w.asks k ds is_asked);
      sum = λ o.
          ap (λ z. z ++ messages_for sub ds) (l.sum (others_before sub w.calls call o))
          ∙ (ap (λ z. got sub w.calls ++ z) (sym (hand ∙ p.1)) ∙ sym (got_more sub w.calls call));
    })
  where
    below_near : (n : ℕ) (b : List Delivery) (y : Said) → Below n y → Near n b y
    below_near n b (fresh k ds) less = inl less
    below_near n b (repeated k ds) less = inl less
    below_near n b other less = tt

    fresh_hit : (n k : ℕ) (b : List Delivery) → k ≡ n → fresh_or n (fresh k b) [] ≡ b
    fresh_hit n k b e = let is : (k == n) ≡ true = grind arith in rw is refl
arrived_level sub w moment n (repeated k ds) hands now says hand hold p le l =
    let r = answer_to w.state moment (PollNumbered 1 n) in
    let call = entry_of w.state moment (PollNumbered 1 n) in
    let last : n ≡ l.last = number_held l.last (record { last = n; batch = ds }) (held w.state) p.2 l.held in
    let next = l.next in
    let k_is = p.0 in
    let less : k < w.asks = omega arith in
    inl (record {
      last = l.last;
      next = l.next;
      held = subst (HoldsNumber l.last) (sym (hold ∙ p.3)) l.held;
      answers = all_more (Below w.asks) w.answers r l.answers (subst (Below w.asks) (sym says) less);
      sum = λ o. l.sum (others_before sub w.calls call o) ∙ sym (got_none sub w.calls call (hand ∙ p.1));
    })
arrived_level sub w moment n other hands now says hand hold p le l =
    let r = answer_to w.state moment (PollNumbered 1 n) in
    let call = entry_of w.state moment (PollNumbered 1 n) in
    inl (record {
      last = l.last;
      next = l.next;
      held = subst (HoldsNumber l.last) (sym hold) (keeps_number l.last (held w.state) now p.1 l.held);
      answers = all_more (Below w.asks) w.answers r l.answers (subst (Below w.asks) (sym says) tt);
      sum = λ o. l.sum (others_before sub w.calls call o) ∙ sym (got_none sub w.calls call (hand ∙ p.0));
    })

arrived_waits : (sub : ℕ) (w : Course) (moment n : ℕ) (x : Said) (hands : List Message) (now : Option Held) → let c = PollNumbered 1 n in
    says (answer_to w.state moment c).reply ≡ x → handed_to sub (answer_to w.state moment c).reply ≡ hands → held (after w.state moment c) ≡ now
    → Polled sub n (held w.state) x hands now → n ≤ w.asks → Waits sub w → Waits sub (arrived moment (Some n) w)
arrived_waits sub w moment n (fresh k ds) hands now says hand hold p le l =
    let last = ap (λ h. h.last) (batch_held w.asks l.batch p.2.held (held w.state) p.2.is l.held) in
    let far = p.2.next in
    absurd (omega arith)
arrived_waits sub w moment n (repeated k ds) hands now says hand hold p le l =
    let r = answer_to w.state moment (PollNumbered 1 n) in
    let call = entry_of w.state moment (PollNumbered 1 n) in
    let same = batch_held w.asks l.batch (record { last = n; batch = ds }) (held w.state) p.2 l.held in
    let number : k ≡ w.asks = p.0 ∙ ap (λ h. h.last) same in
    record {
      batch = l.batch;
      held = subst (HoldsBatch w.asks l.batch) (sym (hold ∙ p.3)) l.held;
      answers = all_more (Near w.asks l.batch) w.answers r l.answers (subst (Near w.asks l.batch) (sym says) (inr (number, ap (λ h. h.batch) same)));
      fresh = fresh_stays w.asks w.answers r (ap (λ y. fresh_or w.asks y []) says) ∙ l.fresh;
      sum = λ o. l.sum (others_before sub w.calls call o) ∙ sym (got_none sub w.calls call (hand ∙ p.1));
    }
arrived_waits sub w moment n other hands now says hand hold p le l =
    let r = answer_to w.state moment (PollNumbered 1 n) in
    let call = entry_of w.state moment (PollNumbered 1 n) in
    record {
      batch = l.batch;
      held = subst (HoldsBatch w.asks l.batch) (sym hold) (keeps_batch w.asks l.batch (held w.state) now p.1 l.held);
      answers = all_more (Near w.asks l.batch) w.answers r l.answers (subst (Near w.asks l.batch) (sym says) tt);
      fresh = fresh_stays w.asks w.answers r (ap (λ y. fresh_or w.asks y []) says) ∙ l.fresh;
      sum = λ o. l.sum (others_before sub w.calls call o) ∙ sym (got_none sub w.calls call (hand ∙ p.0));
    }

arrived_form : (sub : ℕ) (w : Course) (moment n : ℕ) → n ≤ w.asks → Level sub w ⊎ Waits sub w
    → Level sub (arrived moment (Some n) w) ⊎ Waits sub (arrived moment (Some n) w)
arrived_form sub w moment n le (inl l) = arrived_level sub w moment n _ _ _ refl refl refl (polled-fact sub n w.state moment) le l
arrived_form sub w moment n le (inr l) = inr (arrived_waits sub w moment n _ _ _ refl refl refl (polled-fact sub n w.state moment) le l)

arrived_stands : (sub : ℕ) (w : Course) (moment : ℕ) (o : Option ℕ) → ((n : ℕ) → o ≡ Some n → n ≤ w.asks) → Stands sub w → Stands sub (arrived moment o w)
arrived_stands sub w moment None le s = s
arrived_stands sub w moment (Some n) le s = record {
  sound = next-fact w.state moment (PollNumbered 1 n) s.sound;
  legal = leaves-then w.calls w.state 0 moment (PollNumbered 1 n) s.legal;
  requests = s.requests;
  never_ahead = s.never_ahead;
  form = arrived_form sub w moment n (le n refl) s.form;
}

-- Another call.

called_form : (sub : ℕ) (w : Course) (moment : ℕ) (c : Call) → is_barred 1 c ≡ false → Keeps (held w.state) (held (after w.state moment c)) → Level sub w ⊎ Waits sub w
    → Level sub (called moment c false w) ⊎ Waits sub (called moment c false w)
called_form sub w moment c e k (inl l) =
    let call = entry_of w.state moment c in
    inl (record {
      last = l.last;
      next = l.next;
      held = keeps_number l.last (held w.state) (held (after w.state moment c)) k l.held;
      answers = l.answers;
      sum = λ o. l.sum (others_before sub w.calls call o) ∙ sym (got_none sub w.calls call (others_last sub w.calls call o (unbarred c e)));
    })
called_form sub w moment c e k (inr l) =
    let call = entry_of w.state moment c in
    inr (record {
      batch = l.batch;
      held = keeps_batch w.asks l.batch (held w.state) (held (after w.state moment c)) k l.held;
      answers = l.answers;
      fresh = l.fresh;
      sum = λ o. l.sum (others_before sub w.calls call o) ∙ sym (got_none sub w.calls call (others_last sub w.calls call o (unbarred c e)));
    })

called_stands : (sub : ℕ) (w : Course) (moment : ℕ) (c : Call) (b : Bool) → is_barred 1 c ≡ b → Stands sub w → Stands sub (called moment c b w)
called_stands sub w moment c true e s = s
called_stands sub w moment c false e s = record {
  sound = next-fact w.state moment c s.sound;
  legal = leaves-then w.calls w.state 0 moment c s.legal;
  requests = s.requests;
  never_ahead = s.never_ahead;
  form = called_form sub w moment c e (others-fact w.state moment c s.sound e) s.form;
}

-- The taker asks.

asked_form : (sub : ℕ) (w : Course) → Level sub w ⊎ Waits sub w → Level sub (asked w) ⊎ Waits sub (asked w)
asked_form sub w (inl l) = inl (record { last = l.last; next = l.next; held = l.held; answers = l.answers; sum = l.sum })
asked_form sub w (inr l) = inr (record { batch = l.batch; held = l.held; answers = l.answers; fresh = l.fresh; sum = l.sum })

asked_stands : (sub : ℕ) (w : Course) → Stands sub w → Stands sub (asked w)
asked_stands sub w s = record {
  sound = s.sound;
  legal = s.legal;
  requests = at_most_more w.asks w.requests w.asks s.requests (omega arith);
  never_ahead = s.never_ahead;
  form = asked_form sub w s.form;
}

-- The taker hears an answer.

old_stands : (sub : ℕ) (w : Course) (n : ℕ) (ds : List Delivery) → n < w.asks → Stands sub w → Stands sub (took (judged w.asks n) ds w)
old_stands sub w n ds less s = subst (λ t. Stands sub (took t ds w)) (sym (judged_old w.asks n less)) s

near_below : (n : ℕ) (b : List Delivery) (x : Said) → Near n b x → Below (n + 1) x
near_below n b (fresh k ds) (inl less) = omega arith
near_below n b (fresh k ds) (inr e) = let is = e.0 in omega arith
near_below n b (repeated k ds) (inl less) = omega arith
near_below n b (repeated k ds) (inr e) = let is = e.0 in omega arith
near_below n b other e = tt

batch_number : (n : ℕ) (b : List Delivery) (o : Option Held) → HoldsBatch n b o → HoldsNumber n o
batch_number n b None h = tt
batch_number n b (Some x) h = ap (λ y. y.last) h

new_stands : (sub : ℕ) (w : Course) (n : ℕ) (ds : List Delivery) → n ≡ w.asks → (l : Waits sub w) → ds ≡ l.batch → Stands sub w → Stands sub (took (judged w.asks n) ds w)
new_stands sub w n ds e l same s = subst (λ t. Stands sub (took t ds w)) (sym (judged_new w.asks n e)) (record {
  sound = s.sound;
  legal = s.legal;
  requests = at_most_suc w.asks w.requests s.requests;
  never_ahead = s.never_ahead;
  form = inl (record {
    last = w.asks;
    next = refl;
    held = batch_number w.asks l.batch (held w.state) l.held;
    answers = all_weaken (Near w.asks l.batch) (Below (w.asks + 1)) w.answers (near_below w.asks l.batch) l.answers;
    sum = λ o. filter_map-append (message_for sub) w.taken ds ∙ (ap (λ z. messages_for sub w.taken ++ messages_for sub z) same ∙ l.sum o);
  });
})

heard_level : (sub : ℕ) (w : Course) (x : Said) → Below w.asks x → Stands sub w → Stands sub (heard x w)
heard_level sub w (fresh n ds) less s = old_stands sub w n ds less s
heard_level sub w (repeated n ds) less s = old_stands sub w n ds less s
heard_level sub w other less s = s

heard_waits : (sub : ℕ) (w : Course) (l : Waits sub w) (x : Said) → Near w.asks l.batch x → Stands sub w → Stands sub (heard x w)
heard_waits sub w l (fresh n ds) (inl less) s = old_stands sub w n ds less s
heard_waits sub w l (fresh n ds) (inr e) s = new_stands sub w n ds e.0 l e.1 s
heard_waits sub w l (repeated n ds) (inl less) s = old_stands sub w n ds less s
heard_waits sub w l (repeated n ds) (inr e) s = new_stands sub w n ds e.0 l e.1 s
heard_waits sub w l other e s = s

answered_form : (sub : ℕ) (w : Course) (at : ℕ) (r : Told) → slice_get w.answers at ≡ Some r → Level sub w ⊎ Waits sub w → Stands sub w → Stands sub (heard (says r.reply) w)
answered_form sub w at r e (inl l) s = heard_level sub w (says r.reply) (all_item (Below w.asks) w.answers at r l.answers e) s
answered_form sub w at r e (inr l) s = heard_waits sub w l (says r.reply) (all_item (Near w.asks l.batch) w.answers at r l.answers e) s

answered_stands : (sub : ℕ) (w : Course) (at : ℕ) (o : Option Told) → slice_get w.answers at ≡ o → Stands sub w → Stands sub (answered o w)
answered_stands sub w at None e s = s
answered_stands sub w at (Some r) e s = answered_form sub w at r e s.form s

step_stands : (sub : ℕ) (e : Event) (w : Course) → Stands sub w → Stands sub (step e w)
step_stands sub Ask w s = asked_stands sub w s
step_stands sub (Arrive moment k) w s = arrived_stands sub w moment (slice_get w.requests k) (λ n e. at_most_item w.asks w.requests k n s.requests e) s
step_stands sub (Answer k) w s = answered_stands sub w k (slice_get w.answers k) refl s
step_stands sub (Other moment c) w s = called_stands sub w moment c (is_barred 1 c) refl s

run_stands : (sub : ℕ) (es : List (Event)) (w : Course) → Stands sub w → Stands sub (run es w)
run_stands sub [] w s = s
run_stands sub (e ∷ es) w s = run_stands sub es (step e w) (step_stands sub e w s)

-- No more numbers are asked than there are events.

took_few : (t : Taken) (ds : List Delivery) (w : Course) → (took t ds w).asks ≤ w.asks + 1
took_few New ds w = omega arith
took_few Old ds w = omega arith
took_few Ahead ds w = omega arith

heard_few : (x : Said) (w : Course) → (heard x w).asks ≤ w.asks + 1
heard_few (fresh n ds) w = took_few (judged w.asks n) ds w
heard_few (repeated n ds) w = took_few (judged w.asks n) ds w
heard_few other w = omega arith

answered_few : (o : Option Told) (w : Course) → (answered o w).asks ≤ w.asks + 1
answered_few None w = omega arith
answered_few (Some r) w = heard_few (says r.reply) w

arrived_few : (moment : ℕ) (o : Option ℕ) (w : Course) → (arrived moment o w).asks ≤ w.asks + 1
arrived_few moment None w = omega arith
arrived_few moment (Some n) w = omega arith

called_few : (moment : ℕ) (c : Call) (b : Bool) (w : Course) → (called moment c b w).asks ≤ w.asks + 1
called_few moment c true w = omega arith
called_few moment c false w = omega arith

step_few : (e : Event) (w : Course) → (step e w).asks ≤ w.asks + 1
step_few Ask w = omega arith
step_few (Arrive moment k) w = arrived_few moment (slice_get w.requests k) w
step_few (Answer k) w = answered_few (slice_get w.answers k) w
step_few (Other moment c) w = called_few moment c (is_barred 1 c) w

run_few : (es : List (Event)) (w : Course) → (run es w).asks ≤ w.asks + length es
run_few [] w = omega arith
run_few (e ∷ es) w = let one = step_few e w in let more = run_few es (step e w) in omega arith

-- Together.

form_lost : (sub : ℕ) (w : Course) → Level sub w ⊎ Waits sub w → OnlyPolls sub 1 w.calls → messages_for sub w.taken ++ messages_for sub (pending w) ≡ got sub w.calls
form_lost sub w (inl l) o =
    ap (λ z. messages_for sub w.taken ++ messages_for sub z) (none_fresh w.asks w.answers l.answers) ∙ (append-nil (messages_for sub w.taken) ∙ l.sum o)
form_lost sub w (inr l) o = ap (λ z. messages_for sub w.taken ++ messages_for sub z) l.fresh ∙ l.sum o

silent-start : (sub : ℕ) (names : List (List ℕ)) → handed_to sub (answer_to (first names) 0 Connect).reply ≡ []
unfolding answer_to first
silent-start sub names = refl

start_stands : (sub : ℕ) (names : List (List ℕ)) → Stands sub (start names)
start_stands sub names = record {
  sound = next-first names;
  legal = leaves-then [] (first names) 0 0 Connect (leaves-first names);
  requests = tt;
  never_ahead = refl;
  form = inl (record {
    last = 0;
    next = refl;
    held = subst (HoldsNumber 0) (sym (held-first names)) refl;
    answers = tt;
    sum = λ o. sym (ap (λ z. z ++ []) (silent-start sub names));
  });
}

-- what holds of a course
pub stands : (sub : ℕ) (names : List (List ℕ)) (events : List Event) → Stands sub (run events (start names))
stands sub names events = run_stands sub events (start names) (start_stands sub names)

pub lost_none : (sub : ℕ) (names : List (List ℕ)) (events : List Event) → let w = run events (start names) in OnlyPolls sub 1 w.calls → messages_for sub w.taken ++ messages_for sub (pending w) ≡ got sub w.calls
lost_none sub names events = form_lost sub (run events (start names)) (stands sub names events).form

pub few_asked : (names : List (List ℕ)) (events : List Event) → (run events (start names)).asks ≤ length events + 1
few_asked names events = let few = run_few events (start names) in omega arith
