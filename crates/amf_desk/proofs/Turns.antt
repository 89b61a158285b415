-- What the steps of one call make together.
use Rattle.std.proofs.Common.{◌≡◌, ℕ, ◌+◌, ◌-◌, ◌^◌, ◌<◌, min, List, [], ◌∷◌, sym, refl, ap, ◌∙◌, subst, arith, le_refl, Bool, true, false, IsTrue, ◌↔◌, Option, Some, None}
use Rattle.atomic_table.specs.Seated.{TableId}
use Rattle.atomic_table.specs.declared.shared.Seat.{Seat}
use Rattle.amf_broker.specs.Machine.{answer_to}
use Rattle.amf_broker.specs.Memory.{takes_none}
use Rattle.amf_broker.specs.declared.call.Call.{Call}
use Rattle.amf_broker.specs.declared.reply.Answer.{Answer}
use Rattle.amf_broker.specs.History.{Entry, then_entry}
use Rattle.amf_desk.specs.declared.closed.Closed.{Closed}
use Rattle.amf_desk.specs.declared.counted.CountedBroker.{CountedBroker}
use Rattle.amf_desk.specs.declared.view.Stage.TheVariants.{Idle, Waits}
use Rattle.amf_desk.specs.declared.view.View.{View}
use Rattle.amf_desk.specs.Histories.{state_of, NoneBy, Later, published_in, queued_in, counted_after}
use Rattle.amf_desk.specs.Rule.{first_view, staged}
use Rattle.amf_desk.specs.Steps.{Sat, Sound, turned, counted, left_of, right_of, Came}
use Rattle.amf_desk.specs.Passes.{ClosedAs}
use Rattle.amf_desk.specs.Seats.{held, Ran, Stayed, Entered, Ready}
use Rattle.amf_desk.proofs.Longer.{state_calls, published_few, explained, below_wider, none_above}

abbrev either_broker : CountedBroker → Option CountedBroker → CountedBroker
either_broker d (Some c) = c
either_broker d None = d

abbrev hand_of : CountedBroker → List (ℕ × Option CountedBroker) → CountedBroker
hand_of d [] = d
hand_of d (x ∷ xs) = either_broker d x.1

-- the broker in the hand is the one that the slot held
pub same_broker : (a b : CountedBroker) (c : List (ℕ × Option CountedBroker)) → c ≡ (0, Some a) ∷ [] → c ≡ (0, Some b) ∷ [] → a ≡ b
same_broker a b c p q = ap (hand_of a) (sym p ∙ q)

pub still_room : (v : View) (t : ℕ) (seen : List Entry) (broker : CountedBroker) → Sound (turned v t seen) → 0 < v.budget → broker ≡ counted_after v.destinations seen → broker.broker.calls < 2 ^ 62
still_room v t seen broker s some_left is = let n = state_calls v.destinations seen in let room = s.room in let e : broker.broker.calls ≡ (state_of v.destinations seen).calls = ap (λ (x : CountedBroker). x.broker.calls) is in omega arith

-- a view whose call was counted, and that handed on
ran : (v : View) (t : ℕ) (seen : List Entry) (moment : ℕ) (call : Call) (a : Answer) (w : View) → 0 < v.budget → Later v.number v.seen seen → a ≡ answer_to (state_of v.destinations seen) moment call
    → w ≡ staged (counted (turned v t seen) moment call) Idle → Ran v moment call a w
ran v t seen moment call a w some_left later answer is = record {
  destinations = ap (λ (x : View). x.destinations) is;
  number = ap (λ (x : View). x.number) is;
  splits = ap (λ (x : View). x.splits) is;
  budget = let b : w.budget ≡ v.budget - 1 = ap (λ (x : View). x.budget) is in omega arith;
  between = later.0;
  others = later.2;
  seen = ap (λ (x : View). x.seen) is ∙ (λ i. then_entry (later.1 i) v.number moment call (sym answer i));
}

stayed : (v : View) (t : ℕ) (seen : List Entry) (moment : ℕ) (call : Call) (w : View) → Later v.number v.seen seen → takes_none call (answer_to (state_of v.destinations seen) moment call) ≡ false → w ≡ staged (turned v t seen) Idle → Stayed v moment call w
stayed v t seen moment call w later wants is = record {
  destinations = ap (λ (x : View). x.destinations) is;
  number = ap (λ (x : View). x.number) is;
  splits = ap (λ (x : View). x.splits) is;
  budget = ap (λ (x : View). x.budget) is;
  later = subst (λ (xs : List Entry). Later v.number v.seen xs) (sym (ap (λ (x : View). x.seen) is)) later;
  wants = subst (λ (x : View). takes_none call (answer_to (state_of x.destinations x.seen) moment call) ≡ false) (sym is) wants;
}

pub entered : (v v' : View) (u : ℕ) (c : List (ℕ × Option CountedBroker)) (t : ℕ) (m n : Sat) (broker : CountedBroker) → v' ≡ staged v (Waits u) → c ≡ [] → Came v' t c m → n ≡ (m.0, (0, None) ∷ []) → m.1 ≡ (0, Some broker) ∷ [] → Entered v n broker
entered v v' u c t m n broker waits empty came is out =
    let number = ap (λ (x : View). x.number) waits in let seen = ap (λ (x : View). x.seen) waits in
    let t_is : (x : List Entry) → turned v' t x ≡ turned v t x = λ x. ap (λ (y : View). turned y t x) waits in
    let hand : m.1 ≡ (0, Some (counted_after v'.destinations came.seen)) ∷ [] = ap (λ (x : Sat). x.1) came.is ∙ ap (λ xs. (0, Some (counted_after v'.destinations came.seen)) ∷ xs) empty in record {
      ticket = t;
      seen = came.seen;
      later = subst (λ (y : View). Later y.number y.seen came.seen) waits came.later;
      sound = subst Sound (t_is came.seen) came.sound;
      is = is ∙ ap (λ (y : View). (y, (0, None) ∷ [])) (ap (λ (x : Sat). x.0) came.is ∙ t_is came.seen);
      in_hand = same_broker broker (counted_after v'.destinations came.seen) m.1 out hand ∙ ap (λ (y : View). counted_after y.destinations came.seen) waits;
    }

-- the view after the count, from what each step says
pub counted_as : (v : View) (t : ℕ) (seen : List Entry) (moment moment' : ℕ) (call call' : Call) (m w : Sat) → m ≡ (turned v t seen, (0, None) ∷ []) → w ≡ (counted m.0 moment' call', m.1) → moment' ≡ moment → call' ≡ call
    → w ≡ (counted (turned v t seen) moment call, (0, None) ∷ [])
counted_as v t seen moment moment' call call' m w is counts same same' = counts ∙ (λ i. (counted (is i).0 (same i) (same' i), (is i).1))

pub counted_broker : (v : View) (t : ℕ) (seen : List Entry) (moment : ℕ) (call : Call) (a : Answer) (w : Sat) (broker : CountedBroker) → w ≡ (counted (turned v t seen) moment call, (0, None) ∷ []) → a ≡ answer_to (state_of v.destinations seen) moment call
    → broker ≡ counted_after v.destinations (then_entry seen v.number moment call a) → broker ≡ counted_after w.0.destinations w.0.seen
counted_broker v t seen moment call a w broker is answer after =
    after ∙ (λ i. counted_after v.destinations (then_entry seen v.number moment call (answer i))) ∙ sym (ap (λ (x : Sat). counted_after x.0.destinations x.0.seen) is)

pub ran_as : (v : View) (t : ℕ) (seen : List Entry) (moment : ℕ) (call : Call) (a : Answer) (w n : Sat) → 0 < v.budget → Later v.number v.seen seen → a ≡ answer_to (state_of v.destinations seen) moment call
    → w ≡ (counted (turned v t seen) moment call, (0, None) ∷ []) → n ≡ (staged w.0 Idle, []) → Ran v moment call a n.0
ran_as v t seen moment call a w n some_left later answer is last = ran v t seen moment call a n.0 some_left later answer (ap (λ (x : Sat). x.0) last ∙ ap (λ (x : Sat). staged x.0 Idle) is)

pub stayed_as : (v : View) (t : ℕ) (seen : List Entry) (moment : ℕ) (call : Call) (w n : Sat) → Later v.number v.seen seen → takes_none call (answer_to (state_of v.destinations seen) moment call) ≡ false → w ≡ (turned v t seen, (0, None) ∷ [])
    → n ≡ (staged w.0 Idle, []) → Stayed v moment call n.0
stayed_as v t seen moment call w n later wants is last = stayed v t seen moment call n.0 later wants (ap (λ (x : Sat). x.0) last ∙ ap (λ (x : Sat). staged x.0 Idle) is)

pub sound_as : (w n : Sat) → Sound w.0 → n ≡ (staged w.0 Idle, []) → Sound n.0
sound_as w n s last = subst (λ (x : Sat). Sound x.0) (sym last) (record { explained = s.explained; room = s.room; callers = s.callers })

pub sound_left : (v : View) (share : ℕ) → Sound v → Sound (left_of share v)
sound_left v share s = let room = s.room in record {
  explained = s.explained;
  room = omega arith;
  callers = λ z. below_wider (v.splits + 1) (v.splits + 1 + 1) v.seen (omega arith) (s.callers z);
}

pub ready_left : (v : View) (share : ℕ) (seat : Seat (Option CountedBroker) View) (budget : ℕ) (first : Bool) (old : Seat (Option CountedBroker) View) → Ready old budget first → v ≡ old.me.0 → seat.me ≡ (left_of share old.me.0, old.me.1) → Ready seat (budget - share) first
ready_left v share seat budget first old r same is = record {
  free = ap (λ (m : Sat). m.1) is ∙ r.free;
  idle = ap (λ (m : Sat). m.0.stage) is;
  sound = subst (λ (m : Sat). Sound m.0) (sym is) (sound_left old.me.0 share r.sound);
  same = ap (λ (n : ℕ). n - share) r.same ∙ sym (ap (λ (m : Sat). m.0.budget) is);
  is_first = subst (λ (m : Sat). IsTrue first ↔ (m.0.number ≡ 0)) (sym is) r.is_first;
}

-- the seat of a new desk
pub ready_first : (destinations : List (List ℕ)) (seat : Seat (Option CountedBroker) View) → seat.me ≡ (first_view destinations, []) → Ready seat (2 ^ 62) true
ready_first destinations seat is = record {
  free = ap (λ (m : Sat). m.1) is;
  idle = ap (λ (m : Sat). m.0.stage) is;
  sound = subst (λ (m : Sat). Sound m.0) (sym is) (record { explained = explained destinations [] tt; room = le_refl (2 ^ 62); callers = λ _. tt });
  same = sym (ap (λ (m : Sat). m.0.budget) is);
  is_first = ((λ _. ap (λ (m : Sat). m.0.number) is), (λ _. refl));
}

pub fresh_number : (v : View) (share : ℕ) (m : Sat) → Sound v → v.number ≡ 0 → m ≡ (right_of share v, []) → NoneBy m.0.number m.0.seen
fresh_number v share m s zero_is is = subst (λ (x : Sat). NoneBy x.0.number x.0.seen) (sym is) (none_above (v.splits + 1) (v.splits + 1) v.seen (le_refl (v.splits + 1)) (s.callers zero_is))

-- what a close tells of the broker in its hand
pub closed_as : (d : TableId) (v : View) (m : Sat) (broker : CountedBroker) (told : Closed) → Entered v m broker → told.calls ≡ broker.broker.calls → told.published ≡ broker.published → told.delivered ≡ broker.delivered
    → told.queued ≡ queued_in broker.broker → ClosedAs (held d v) told
closed_as d v m broker told e calls published delivered queued =
    let n = state_calls v.destinations e.seen in let few = published_few e.seen in let room = e.sound.room in
    let some_published : told.published ≡ min (published_in e.seen) (2 ^ 64 - 1) = published ∙ ap (λ (c : CountedBroker). c.published) e.in_hand in record {
      history = e.seen;
      explained = e.sound.explained;
      later = e.later;
      room = room;
      callers = e.sound.callers;
      calls = calls ∙ (ap (λ (c : CountedBroker). c.broker.calls) e.in_hand ∙ n);
      published = omega arith;
      deliveries = delivered ∙ ap (λ (c : CountedBroker). c.delivered) e.in_hand;
      queued = queued ∙ ap (λ (c : CountedBroker). queued_in c.broker) e.in_hand;
    }
