-- Each step on the desk's table keeps its rule, and tells what it tells.
use Rattle.std.proofs.Common.{◌≡◌, ◌≢◌, ◌==◌, ℕ, zero, suc, ◌+◌, ◌%◌, ◌^◌, ◌<◌, ◌≤◌, ◌⊎◌, inl, inr, ⊎_elim, Bool, true, false, leb, List, [], ◌∷◌, ◌++◌, length, get_or, set, sym, refl, ap, ◌∙◌, subst, arith, length-set, length-append, le_refl, Option, Some, if◌then◌else◌}
use Rattle.std.proofs.lemmas.Bool.Decides.{leb_tells}
use mathlib.Core.Option.{none, some, some-injective, some-ne-none}
use mathlib.Core.Logic.{dite}
use native.Mathlib.Decide.{ℕ_discrete}
use lib.ListN.{get_elem?}
use prog.Atomic.{either}
use lib.Seq.{set-get_or}
use Rattle.atomic_table.specs.Table.{State, Act, step, keeps, takes, gives, stepped, opening, rest, put_back, carried_after, Valid, Allows, Splits, Joins}
use Rattle.atomic_table.proofs.Lists.{set_here, set_else, set_again, one_turn, exchanged}
use Rattle.amf_broker.specs.State.{first}
use Rattle.amf_broker.specs.Machine.{answer_to}
use Rattle.amf_broker.specs.declared.call.Call.{Call}
use Rattle.amf_desk.specs.declared.counted.CountedBroker.{CountedBroker}
use Rattle.amf_broker.specs.History.{Entry, IsLegal}
use Rattle.amf_desk.specs.declared.view.Stage.{Stage}
use Rattle.amf_desk.specs.declared.view.Stage.TheVariants.{Idle, Waits, Turn, Joined, Spent}
use Rattle.amf_desk.specs.declared.view.View.{View}
use Rattle.amf_desk.specs.Histories.{entry, state_of, AllBelow, Later, Begins, counted_after}
use Rattle.amf_desk.specs.Rule.{first_view, spent_view, staged, outs, turns, HasTicket, total, out_of, turn_of, budget_of, Seated, Knows, Explained}
use Rattle.amf_desk.specs.Steps.{Sat, Sound, turned, counted, longer, joined, agreed, left_of, right_of, Takes, TakesNext, Comes, Counts, Gives, Agrees}
use Rattle.amf_desk.proofs.Totals.{total_set, total_snoc, total_at, total_below, total_some, each_set, each_snoc, Apart, apart_set, apart_snoc}
use Rattle.amf_desk.proofs.Longer.{explained, legal-snoc, below-snoc, below_wider, none_above, later_self, later-snoc, begins-snoc, begins_both, later_further, legal_begins, begins_length, below_begins, below_rest}

module _ (destinations : List (List ℕ)) where
  abbrev St : Type 0
  St = State (Option CountedBroker) View

  -- one more, modulo 2^64
  pub one_more : (a : ℕ) → (a % 2 ^ 64 + 1) % 2 ^ 64 ≡ (a + 1) % 2 ^ 64
  one_more a = omega arith

  -- what a seat other than the one that steps knows after the step
  others_know : (log log' : List Entry) (served served' issued issued' seats seats' j : ℕ) (d : View) → (Seated destinations log seats j d → Seated destinations log' seats' j d) → ((l : List Entry) → Begins l log → Begins l log') → (st : Stage)
      → ((t : ℕ) → HasTicket t st → served ≤ t → t < issued → (served' ≤ t) × (t < issued')) → (turns st ≡ 0) ⊎ ((served ≡ served') × (log ≡ log'))
      → Knows destinations log served issued seats j d st → Knows destinations log' served' issued' seats' j d st
  others_know log log' served served' issued issued' seats seats' j d same starts Idle within still k = same k
  others_know log log' served served' issued issued' seats seats' j d same starts (Waits t) within still k = let w = within t refl k.1 k.2 in (same k.0, w.0, w.1, k.3)
  others_know log log' served served' issued issued' seats seats' j d same starts (Turn t) within still k =
      ⊎_elim (λ (z : 1 ≡ 0). absurd (omega arith)) (λ (z : (served ≡ served') × (log ≡ log')). (same k.0, k.1 ∙ z.0, k.2 ∙ z.1)) still
  others_know log log' served served' issued issued' seats seats' j d same starts (Joined l) within still k = (same k.0, starts l k.1)
  others_know log log' served served' issued issued' seats seats' j d same starts Spent within still k = tt

  -- a seat's ticket is among those that are out
  ticket_in : (log : List Entry) (served issued seats j : ℕ) (d : View) (st : Stage) (t : ℕ) → HasTicket t st → served < issued → Knows destinations log served issued seats j d st → (served ≤ t) × (t < issued)
  ticket_in log served issued seats j d Idle t has more k = absurd has
  ticket_in log served issued seats j d (Waits u) t has more k = let a = k.1 in let b = k.2 in let e : t ≡ u = has in (omega arith, omega arith)
  ticket_in log served issued seats j d (Turn u) t has more k = let a = k.1 in let e : t ≡ u = has in (omega arith, omega arith)
  ticket_in log served issued seats j d (Joined l) t has more k = absurd has
  ticket_in log served issued seats j d Spent t has more k = absurd has

  -- a seat that has a ticket has a budget or its turn
  small_out : (log : List Entry) (served issued seats j : ℕ) (d : View) (st : Stage) → Knows destinations log served issued seats j d st → outs st ≤ d.budget + turns st
  small_out log served issued seats j d Idle k = omega arith
  small_out log served issued seats j d (Waits t) k = let b = k.3 in omega arith
  small_out log served issued seats j d (Turn t) k = omega arith
  small_out log served issued seats j d (Joined l) k = omega arith
  small_out log served issued seats j d Spent k = omega arith

  out_some : (st : Stage) (t : ℕ) → HasTicket t st → outs st ≡ 1
  out_some Idle t has = absurd has
  out_some (Waits u) t has = refl
  out_some (Turn u) t has = refl
  out_some (Joined l) t has = absurd has
  out_some Spent t has = absurd has

  turn_is : (log : List Entry) (served issued seats j : ℕ) (d : View) (st : Stage) → 0 < turns st → Knows destinations log served issued seats j d st → HasTicket served st
  turn_is log served issued seats j d Idle more k = absurd (omega arith)
  turn_is log served issued seats j d (Waits t) more k = absurd (omega arith)
  turn_is log served issued seats j d (Turn t) more k = sym k.1
  turn_is log served issued seats j d (Joined l) more k = absurd (omega arith)
  turn_is log served issued seats j d Spent more k = absurd (omega arith)

  no_turn : (st : Stage) → turns st ≡ 0 ⊎ 0 < turns st
  no_turn Idle = inl refl
  no_turn (Waits t) = inl refl
  no_turn (Turn t) = inr (omega arith)
  no_turn (Joined l) = inl refl
  no_turn Spent = inl refl

  module _ (s : St) (r : Explained destinations s) where
    -- fewer than 2^63 tickets are out
    pub few_out : r.issued ≤ r.served + (2 ^ 62 + 1)
    few_out = let o = total_below out_of budget_of turn_of s.views (λ j d e. small_out r.log r.served r.issued r.seats j d d.stage (r.each j d e)) in
        let t = r.tickets in let one = r.one in let b = r.budget in omega arith

    -- a seat that has a ticket, so that one is out
    pub some_out : (j : ℕ) (d : View) (t : ℕ) → get_elem? s.views j ≡ some d → HasTicket t d.stage → (r.served ≤ t) × (t < r.issued)
    some_out j d t e has = let o = total_at out_of s.views j d e in let one = out_some d.stage t has in let all = r.tickets in
        ticket_in r.log r.served r.issued r.seats j d d.stage t has (omega arith) (r.each j d e)

    -- only one seat has its turn
    pub one_turned : (id j : ℕ) (v d : View) (t : ℕ) → get_elem? s.views id ≡ some v → v.stage ≡ Turn t → j ≢ id → get_elem? s.views j ≡ some d → turns d.stage ≡ 0
    one_turned id j v d t at is other e = ⊎_elim (λ (z : turns d.stage ≡ 0). z)
        (λ (z : 0 < turns d.stage). let k = subst (Knows destinations r.log r.served r.issued r.seats id v) is (r.each id v at) in
        absurd (other (r.apart j id d v r.served e at (turn_is r.log r.served r.issued r.seats j d d.stage z (r.each j d e)) (subst (HasTicket r.served) (sym is) (sym k.1)))))
        (no_turn d.stage)

    pub unmoved : (i id : ℕ) (me : Sat) → get_elem? s.views id ≡ some me.0 → Explained destinations (stepped s i (get_or s.words i 0) id me.1 me.0 keeps)
    unmoved i id me at = let a = set-get_or s.words i 0 in let b = set_again s.views id me.0 at in
        subst (Explained destinations) (λ k. record { words = sym a k; homes = s.homes; views = sym b k }) r

  idle_seat : (log : List Entry) (served issued seats j : ℕ) (v : View) → v.stage ≡ Idle → Knows destinations log served issued seats j v v.stage → Seated destinations log seats j v
  idle_seat log served issued seats j v is k = subst (Knows destinations log served issued seats j v) is k

  -- a seat that is there has a number below the number of seats
  inside_at : (l : List View) (i : ℕ) (v : View) → get_elem? l i ≡ some v → i < length l
  inside_at [] i v e = absurd (some-ne-none v (sym e))
  inside_at (x ∷ xs) zero v e = omega arith
  inside_at (x ∷ xs) (suc i) v e = let r = inside_at xs i v e in omega arith

  inside : (s : St) (id : ℕ) (v : View) → get_elem? s.views id ≡ some v → id < length s.views
  inside s id v at = inside_at s.views id v at

  id_below : (s : St) (r : Explained destinations s) (id : ℕ) (v : View) → get_elem? s.views id ≡ some v → v.number ≡ id → v.number < r.seats
  id_below s r id v at is = let i = inside s id v at in let m = r.many in omega arith

  abbrev seen_by : Stage → List Entry
  seen_by Idle = []
  seen_by (Waits t) = []
  seen_by (Turn t) = []
  seen_by (Joined l) = l
  seen_by Spent = []

  longer_is : (xs ys : List Entry) → ((length ys ≤ length xs) × (longer xs ys ≡ xs)) ⊎ ((length xs ≤ length ys) × (longer xs ys ≡ ys))
  longer_is xs ys = ⊎_elim
      (λ (p : (leb (length ys) (length xs) ≡ true) × (length ys ≤ length xs)). inl (p.1, ap (λ (b : Bool). if b then xs else ys) p.0))
      (λ (p : (leb (length ys) (length xs) ≡ false) × (length xs < length ys)). let h = p.1 in inr (omega arith, ap (λ (b : Bool). if b then xs else ys) p.0))
      (leb_tells (length ys) (length xs))

  pub takes_ticket : (slots id : ℕ) (me : Sat) → me.0.stage ≡ Idle → 0 < me.0.budget → Allows (Explained destinations) slots id me 0 (λ n. (n + 1) % 2 ^ 64) (Takes (step slots 0 1 0 none) me)
  takes_ticket slots id me idle some_left s r _ at _ =
      let v : View = me.0 in let t : ℕ = r.issued in let w : View = staged v (Waits t) in
      let k = idle_seat r.log r.served r.issued r.seats id v idle (r.each id v at) in
      let o = total_set out_of s.views id v w at in let u = total_set turn_of s.views id v w at in let b = total_set budget_of s.views id v w at in
      let no_out : outs v.stage ≡ 0 = ap outs idle in let no_turn' : turns v.stage ≡ 0 = ap turns idle in let all = r.tickets in let small = r.budget in let one' = r.one in
      let same : total turn_of (set s.views id w) ≡ total turn_of s.views = omega arith in
      let P : List ℕ → Type 0 = λ ws. set ws 0 ((get_or ws 0 0 + 1) % 2 ^ 64) ≡ (r.issued + 1) % 2 ^ 64 ∷ r.served % 2 ^ 64 ∷ length r.log ∷ [] in (
        w,
        keeps,
        tt,
        record {
          log = r.log;
          served = r.served;
          issued = r.issued + 1;
          seats = r.seats;
          many = length-set s.views id w ∙ r.many;
          words = subst P (sym r.words) (ap (λ (n : ℕ). n ∷ r.served % 2 ^ 64 ∷ length r.log ∷ []) (one_more r.issued));
          tickets = omega arith;
          one = omega arith;
          home = λ z. r.home (sym same ∙ z);
          away = λ z. r.away (sym same ∙ z);
          budget = omega arith;
          legal = r.legal;
          callers = r.callers;
          each = each_set (λ j d. Knows destinations r.log r.served (r.issued + 1) r.seats j d d.stage) s.views id w
              (record { destinations_are = k.destinations_are; number = k.number; later = k.later; made = k.made }, omega arith, omega arith, some_left)
              (λ j d other e. others_know r.log r.log r.served r.served r.issued (r.issued + 1) r.seats r.seats j d (λ x. x) (λ l x. x) d.stage (λ t has a c. (a, omega arith)) (inr (refl, refl)) (r.each j d e));
          apart = apart_set s.views id w r.apart (λ j d t' other e has here. let i = some_out s r j d t' e has in let h : t' ≡ r.issued = here in let i' = i.1 in omega arith);
        },
        (t, refl, ap (λ ws. get_or ws 0 0) r.words),
      )

  pub takes_next : (slots id ticket new : ℕ) (me : Sat) → new ≡ (ticket + 1) % 2 ^ 64 → me.0.stage ≡ Idle → 0 < me.0.budget → Allows (Explained destinations) slots id me 0 (λ n. either (n == ticket) new n) (TakesNext (step slots 0 ticket new none) me)
  takes_next slots id ticket new me next idle some_left s r long at fits = let n : ℕ = get_or s.words 0 0 in
      exchanged n ticket new
      (λ x. (w : View) × (a : Act (Option CountedBroker)) × Valid s.homes me.1 a × Explained destinations (stepped s 0 x id me.1 w a) × TakesNext (step slots 0 ticket new none) me n (w, carried_after me.1 a))
      (λ hit. let taken = takes_ticket slots id me idle some_left s r long at fits in
      let word : (n + 1) % 2 ^ 64 ≡ new = ap (λ (m : ℕ). (m + 1) % 2 ^ 64) hit ∙ sym next in
      (taken.0, taken.1, taken.2, subst (λ x. Explained destinations (stepped s 0 x id me.1 taken.0 taken.1)) word taken.3, ((λ _. taken.4), (λ miss. absurd (miss hit)))))
      (λ miss. (me.0, keeps, tt, unmoved s r 0 id me at, ((λ hit. absurd (miss hit)), (λ _. refl))))

  abbrev ticket_of : Stage → ℕ
  ticket_of Idle = 0
  ticket_of (Waits t) = t
  ticket_of (Turn t) = t
  ticket_of (Joined l) = 0
  ticket_of Spent = 0

  sound_now : (s : St) (r : Explained destinations s) (id : ℕ) (v w : View) → get_elem? s.views id ≡ some v → Seated destinations r.log r.seats id w → w.seen ≡ r.log → w.budget ≤ v.budget → Sound w
  sound_now s r id v w at k is less = let b = total_at budget_of s.views id v at in let small = r.budget in let same : length w.seen ≡ length r.log = ap length is in record {
    explained = explained w.destinations w.seen (subst (λ (z : List (List ℕ) × List Entry). IsLegal z.0 z.1) (λ i. (sym k.destinations_are i, sym is i)) r.legal);
    room = omega arith;
    callers = λ zero_is. let made = k.made (sym k.number ∙ zero_is) in
        subst (λ (z : ℕ × List Entry). AllBelow z.0 z.1) (λ i. (sym made i, sym is i)) r.callers;
  }

  pub comes : (slots id : ℕ) (me : Sat) (t : ℕ) → me.0.stage ≡ Waits t → Allows (Explained destinations) slots id me 1 (λ n. n) (Comes (step slots 1 0 0 none) me)
  comes slots id me t waits s r _ at _ =
      let v : View = me.0 in let n : ℕ = get_or s.words 1 0 in let found : n ≡ r.served % 2 ^ 64 = ap (λ ws. get_or ws 1 0) r.words in
      let kn = subst (Knows destinations r.log r.served r.issued r.seats id v) waits (r.each id v at) in let k = kn.0 in
      let told : (t' : ℕ) → v.stage ≡ Waits t' → t' ≡ t = λ t' e. ap ticket_of (sym e ∙ waits) in
      dite (ℕ_discrete n (t % 2 ^ 64))
      (λ hit. let low = kn.1 in let high = kn.2 in let few = few_out s r in
      let now : r.served ≡ t = one_turn r.served t (2 ^ 64) low (omega arith) (sym found ∙ hit) in
      let w : View = turned v t r.log in
      let o = total_set out_of s.views id v w at in let u = total_set turn_of s.views id v w at in let b = total_set budget_of s.views id v w at in
      let was_out : outs v.stage ≡ 1 = ap outs waits in let was_turn : turns v.stage ≡ 0 = ap turns waits in let all = r.tickets in let small = r.budget in
      let none_has : total turn_of s.views ≡ 0 = dite (ℕ_discrete (total turn_of s.views) 0) (λ z. z)
      (λ some_has. let f = total_some turn_of s.views (omega arith) in
      let has = turn_is r.log r.served r.issued r.seats f.0 f.1 f.1.stage f.3 (r.each f.0 f.1 f.2) in
      let same : f.0 ≡ id = r.apart f.0 id f.1 v r.served f.2 at has (subst (HasTicket r.served) (sym waits) now) in
      let one : v ≡ f.1 = some-injective v f.1 (sym at ∙ (ap (get_elem? s.views) (sym same) ∙ f.2)) in
      let e : turns v.stage ≡ turns f.1.stage = ap turn_of one in let p = f.3 in absurd (omega arith)) in
      let homes : s.homes ≡ some (Some (counted_after destinations r.log)) ∷ [] = r.home none_has in
      let seated : Seated destinations r.log r.seats id w = record { destinations_are = k.destinations_are; number = k.number; later = later_self id r.log; made = k.made } in (
        w,
        takes 0 (Some (counted_after destinations r.log)),
        ap (λ hs. get_elem? hs 0) homes,
        record {
          log = r.log;
          served = r.served;
          issued = r.issued;
          seats = r.seats;
          many = length-set s.views id w ∙ r.many;
          words = set-get_or s.words 1 0 ∙ r.words;
          tickets = omega arith;
          one = omega arith;
          home = λ z. absurd (omega arith);
          away = λ _. ap (λ hs. set hs 0 none) homes;
          budget = omega arith;
          legal = r.legal;
          callers = r.callers;
          each = each_set (λ j d. Knows destinations r.log r.served r.issued r.seats j d d.stage) s.views id w (seated, sym now, refl) (λ j d _ e. r.each j d e);
          apart = apart_set s.views id w r.apart (λ j d t' other e has here. other (r.apart j id d v t' e at has (subst (HasTicket t') (sym waits) here)));
        },
        λ t' is. let same = told t' is in (
          (λ _. record {
            seen = r.log;
            later = subst (λ (z : ℕ). Later z v.seen r.log) (sym k.number) k.later;
            is = λ i. (turned v (sym same i) r.log, (0, Some (counted_after (sym k.destinations_are i) r.log)) ∷ me.1);
            sound = let so = sound_now s r id v w at seated refl (le_refl v.budget) in record { explained = so.explained; room = so.room; callers = so.callers };
          }),
          λ miss. absurd (miss (hit ∙ ap (λ (z : ℕ). z % 2 ^ 64) (sym same))),
        ),
      ))
      (λ miss. (me.0, keeps, tt, unmoved s r 1 id me at, λ t' is. ((λ hit. absurd (miss (hit ∙ ap (λ (z : ℕ). z % 2 ^ 64) (told t' is)))), λ _. refl)))

  pub counts : (slots id : ℕ) (me : Sat) (t moment : ℕ) (c : Call) → me.0.stage ≡ Turn t → 0 < me.0.budget → Allows (Explained destinations) slots id me 2 (λ n. (n + 1) % 2 ^ 64) (Counts moment c (step slots 2 1 0 none) me)
  counts slots id me t moment c turn some_left s r _ at _ =
      let v : View = me.0 in let w : View = counted v moment c in let kn = subst (Knows destinations r.log r.served r.issued r.seats id v) turn (r.each id v at) in let k = kn.0 in let all_seen : v.seen ≡ r.log = kn.2 in
      let e : Entry = entry v.number moment c (answer_to (state_of v.destinations v.seen) moment c) in let log' : List Entry = r.log ++ e ∷ [] in
      let o = total_set out_of s.views id v w at in let u = total_set turn_of s.views id v w at in let b = total_set budget_of s.views id v w at in let here = total_at turn_of s.views id v at in let my_budget = total_at budget_of s.views id v at in
      let mine : turns v.stage ≡ 1 = ap turns turn in let all = r.tickets in let small = r.budget in let one' = r.one in
      let more : length log' ≡ length r.log + 1 = omega (arith, length-append r.log (e ∷ [])) in
      let full : v.seen ++ e ∷ [] ≡ log' = ap (λ l. l ++ e ∷ []) all_seen in
      let seated : Seated destinations log' r.seats id w = record { destinations_are = k.destinations_are; number = k.number; later = subst (Later id (v.seen ++ e ∷ [])) full (later_self id (v.seen ++ e ∷ [])); made = k.made } in
      let by : v.number ≡ id = k.number in
      let same : total turn_of (set s.views id w) ≡ total turn_of s.views = omega arith in
      let P : List ℕ → Type 0 = λ ws. set ws 2 ((get_or ws 2 0 + 1) % 2 ^ 64) ≡ r.issued % 2 ^ 64 ∷ r.served % 2 ^ 64 ∷ length log' ∷ [] in
      let fits : (length r.log + 1) % 2 ^ 64 ≡ length log' = omega arith in
      let kept : Explained destinations (stepped s 2 ((get_or s.words 2 0 + 1) % 2 ^ 64) id me.1 w keeps) = record {
        log = log';
        served = r.served;
        issued = r.issued;
        seats = r.seats;
        many = length-set s.views id w ∙ r.many;
        words = subst P (sym r.words) (ap (λ (n : ℕ). r.issued % 2 ^ 64 ∷ r.served % 2 ^ 64 ∷ n ∷ []) fits);
        tickets = omega arith;
        one = omega arith;
        home = λ z. absurd (omega arith);
        away = λ z. r.away (sym same ∙ z);
        budget = omega arith;
        legal = legal-snoc (first destinations) r.log e r.legal (λ i. answer_to (state_of (k.destinations_are i) (all_seen i)) moment c);
        callers = below-snoc r.seats r.log e r.callers (id_below s r id v at k.number);
        each = each_set (λ j d. Knows destinations log' r.served r.issued r.seats j d d.stage) s.views id w
            (subst (Knows destinations log' r.served r.issued r.seats id w) (sym turn) (seated, kn.1, full))
            (λ j d other x. others_know r.log log' r.served r.served r.issued r.issued r.seats r.seats j d
            (λ q. record { destinations_are = q.destinations_are; number = q.number; later = later-snoc j d.seen r.log e (λ z. other (sym z ∙ by)) q.later; made = q.made })
            (λ l q. begins-snoc l r.log e q) d.stage (λ t' has a z. (a, z)) (inl (one_turned s r id j v d t at turn other x)) (r.each j d x));
        apart = apart_set s.views id w r.apart (λ j d t' other x has here'. other (r.apart j id d v t' x at has here'));
      } in (w, keeps, tt, kept, (refl, sound_now (stepped s 2 ((get_or s.words 2 0 + 1) % 2 ^ 64) id me.1 w keeps) kept id w w (set_here s.views id w (inside s id v at)) seated full (le_refl w.budget)))

  pub hands_on : (slots id : ℕ) (me : Sat) (t : ℕ) → me.0.stage ≡ Turn t → me.1 ≡ (0, Some (counted_after me.0.destinations me.0.seen)) ∷ [] → Allows (Explained destinations) slots id me 1 (λ n. (n + 1) % 2 ^ 64) (Gives (step slots 1 1 0 none) me)
  hands_on slots id me t turn holds s r _ at _ =
      let v : View = me.0 in let w : View = staged v Idle in let kn = subst (Knows destinations r.log r.served r.issued r.seats id v) turn (r.each id v at) in let k = kn.0 in let all_seen : v.seen ≡ r.log = kn.2 in
      let o = total_set out_of s.views id v w at in let u = total_set turn_of s.views id v w at in let b = total_set budget_of s.views id v w at in let here = total_at turn_of s.views id v at in let here_out = total_at out_of s.views id v at in
      let mine : turns v.stage ≡ 1 = ap turns turn in let mine_out : outs v.stage ≡ 1 = ap outs turn in let all = r.tickets in let small = r.budget in let one' = r.one in
      let away : s.homes ≡ none ∷ [] = r.away (omega arith) in
      let P : List ℕ → Type 0 = λ ws. set ws 1 ((get_or ws 1 0 + 1) % 2 ^ 64) ≡ r.issued % 2 ^ 64 ∷ (r.served + 1) % 2 ^ 64 ∷ length r.log ∷ [] in
      let my_ticket : t ≡ r.served = kn.1 in (
        w,
        gives,
        tt,
        record {
          log = r.log;
          served = r.served + 1;
          issued = r.issued;
          seats = r.seats;
          many = length-set s.views id w ∙ r.many;
          words = subst P (sym r.words) (ap (λ (n : ℕ). r.issued % 2 ^ 64 ∷ n ∷ length r.log ∷ []) (one_more r.served));
          tickets = omega arith;
          one = omega arith;
          home = λ z. subst (λ (c : List (ℕ × Option CountedBroker)). put_back s.homes c ≡ some (Some (counted_after destinations r.log)) ∷ []) (sym holds)
              (ap (λ hs. set hs 0 (some (Some (counted_after v.destinations v.seen)))) away ∙ (λ i. some (Some (counted_after (k.destinations_are i) (all_seen i))) ∷ []));
          away = λ z. absurd (omega arith);
          budget = omega arith;
          legal = r.legal;
          callers = r.callers;
          each = each_set (λ j d. Knows destinations r.log (r.served + 1) r.issued r.seats j d d.stage) s.views id w
              (record { destinations_are = k.destinations_are; number = k.number; later = k.later; made = k.made })
              (λ j d other e. others_know r.log r.log r.served (r.served + 1) r.issued r.issued r.seats r.seats j d (λ x. x) (λ l x. x) d.stage
              (λ t' has low high. let apart : t' ≢ r.served = λ z. other (r.apart j id d v t' e at has (subst (HasTicket t') (sym turn) (z ∙ sym my_ticket))) in (omega arith, high))
              (inl (one_turned s r id j v d t at turn other e)) (r.each j d e));
          apart = apart_set s.views id w r.apart (λ j d t' other e has here'. here');
        },
        ap (λ c. (w, rest c)) holds,
      )

  -- a seat whose view stays but for what it has seen, its budget and its stage, while no step of a call is made
  pub agrees : (slots id : ℕ) (me : Sat) (l : List Entry) → me.0.stage ≡ Joined l → Allows (Explained destinations) slots id me 0 (λ n. n) (Agrees (step slots 0 0 0 none) me)
  agrees slots id me l joins s r _ at _ =
      let v : View = me.0 in let w : View = agreed v l in let kn = subst (Knows destinations r.log r.served r.issued r.seats id v) joins (r.each id v at) in let k = kn.0 in
      let o = total_set out_of s.views id v w at in let u = total_set turn_of s.views id v w at in let b = total_set budget_of s.views id v w at in
      let no_turn' : turns v.stage ≡ 0 = ap turns joins in let no_out : outs v.stage ≡ 0 = ap outs joins in let all = r.tickets in let small = r.budget in let one' = r.one in
      let same : total turn_of (set s.views id w) ≡ total turn_of s.views = omega arith in
      let long = longer_is v.seen l in
      let mine : Begins v.seen r.log = (k.later.0, k.later.1) in
      let later' : Later id (longer v.seen l) r.log = ⊎_elim
      (λ (z : (length l ≤ length v.seen) × (longer v.seen l ≡ v.seen)). subst (λ xs. Later id xs r.log) (sym z.1) k.later)
      (λ (z : (length v.seen ≤ length l) × (longer v.seen l ≡ l)). subst (λ xs. Later id xs r.log) (sym z.1) (later_further id v.seen l r.log k.later kn.1 z.0)) long in
      let seated : Seated destinations r.log r.seats id w = record { destinations_are = k.destinations_are; number = k.number; later = later'; made = k.made } in
      let kept : Explained destinations (stepped s 0 (get_or s.words 0 0) id me.1 w keeps) = record {
        log = r.log;
        served = r.served;
        issued = r.issued;
        seats = r.seats;
        many = length-set s.views id w ∙ r.many;
        words = set-get_or s.words 0 0 ∙ r.words;
        tickets = omega arith;
        one = omega arith;
        home = λ z. r.home (sym same ∙ z);
        away = λ z. r.away (sym same ∙ z);
        budget = omega arith;
        legal = r.legal;
        callers = r.callers;
        each = each_set (λ j d. Knows destinations r.log r.served r.issued r.seats j d d.stage) s.views id w seated (λ j d _ e. r.each j d e);
        apart = apart_set s.views id w r.apart (λ j d t' other e has here. here);
      } in let total_w = total_at budget_of s.views id v at in (
        w,
        keeps,
        tt,
        kept,
        λ l' is. let e : l' ≡ l = ap seen_by (sym is ∙ joins) in let begun : Begins l' r.log = subst (λ xs. Begins xs r.log) (sym e) kn.1 in (
          ap (λ xs. (agreed v xs, me.1)) (sym e),
          ⊎_elim (λ (z : (length l' ≤ length v.seen) × (longer v.seen l' ≡ v.seen)). inr (begins_both l' v.seen r.log begun mine z.0))
              (λ (z : (length v.seen ≤ length l') × (longer v.seen l' ≡ l')). inl (begins_both v.seen l' r.log mine begun z.0)) (longer_is v.seen l'),
          record {
            explained = explained v.destinations (longer v.seen l) (legal_begins (first v.destinations) (longer v.seen l) r.log (later'.0, later'.1) (subst (λ (names : List (List ℕ)). IsLegal names r.log) (sym k.destinations_are) r.legal));
            room = let len = begins_length (longer v.seen l) r.log (later'.0, later'.1) in omega arith;
            callers = λ zero_is. let made = k.made (sym k.number ∙ zero_is) in
                below_begins (v.splits + 1) (longer v.seen l) r.log (later'.0, later'.1) (subst (λ (z : ℕ). AllBelow z r.log) (sym made) r.callers);
          },
        ),
      )

  pub splits : (id : ℕ) (v : View) (share : ℕ) → v.stage ≡ Idle → v.number ≡ 0 → share ≤ v.budget → Splits (Explained destinations) id v (left_of share v) (right_of share v)
  splits id v share idle zero_is fits s r at =
      let w : View = left_of share v in let x : View = right_of share v in let k = idle_seat r.log r.served r.issued r.seats id v idle (r.each id v at) in
      let vs : List View = set s.views id w in
      let o = total_set out_of s.views id v w at in let u = total_set turn_of s.views id v w at in let b = total_set budget_of s.views id v w at in
      let o' = total_snoc out_of vs x in let u' = total_snoc turn_of vs x in let b' = total_snoc budget_of vs x in
      let no_turn' : turns v.stage ≡ 0 = ap turns idle in let no_out : outs v.stage ≡ 0 = ap outs idle in let all = r.tickets in let small = r.budget in let one' = r.one in
      let same : total turn_of (vs ++ x ∷ []) ≡ total turn_of s.views = omega arith in
      let at_front : id ≡ 0 = sym k.number ∙ zero_is in let made : v.splits + 1 ≡ r.seats = k.made at_front in
      let long : length vs ≡ r.seats = length-set s.views id w ∙ r.many in
      let wide : r.seats ≤ r.seats + 1 = omega arith in
      let fresh : Later (v.splits + 1) v.seen r.log = (k.later.0, k.later.1, none_above r.seats (v.splits + 1) k.later.0 (omega arith) (below_rest r.seats v.seen k.later.0 (subst (AllBelow r.seats) k.later.1 r.callers))) in
      let fresh' : Seated destinations r.log (r.seats + 1) r.seats x = record { destinations_are = k.destinations_are; number = made; later = subst (λ (z : ℕ). Later z v.seen r.log) made fresh; made = λ z. absurd (omega arith) } in
      let K : ℕ → View → Type 0 = λ j d. Knows destinations r.log r.served r.issued (r.seats + 1) j d d.stage in
      let old : (j : ℕ) (d : View) → get_elem? vs j ≡ some d → K j d = each_set K s.views id w
      (record { destinations_are = k.destinations_are; number = k.number; later = k.later; made = λ _. omega arith })
      (λ j d other e. others_know r.log r.log r.served r.served r.issued r.issued r.seats (r.seats + 1) j d
      (λ q. record { destinations_are = q.destinations_are; number = q.number; later = q.later; made = λ z. absurd (other (z ∙ sym at_front)) }) (λ l q. q) d.stage (λ t has a z. (a, z)) (inr (refl, refl)) (r.each j d e)) in
      let apart : Apart vs = apart_set s.views id w r.apart (λ j d t other e has here. here) in record {
        log = r.log;
        served = r.served;
        issued = r.issued;
        seats = r.seats + 1;
        many = omega (arith, length-append vs (x ∷ []));
        words = r.words;
        tickets = omega arith;
        one = omega arith;
        home = λ z. r.home (sym same ∙ z);
        away = λ z. r.away (sym same ∙ z);
        budget = omega arith;
        legal = r.legal;
        callers = below_wider r.seats (r.seats + 1) r.log wide r.callers;
        each = each_snoc K vs r.seats x long fresh' old;
        apart = apart_snoc vs x apart (λ t has. has);
      }

  pub joins : (id : ℕ) (v : View) (other : ℕ) (w : View) → v.stage ≡ Idle → w.stage ≡ Idle → w.number ≢ 0 → Joins (Explained destinations) id v other w (joined v w) spent_view
  joins id v other w idle idle' not_first s r at apart_is at' =
      let x : View = joined v w in let vs : List View = set s.views id x in
      let k = idle_seat r.log r.served r.issued r.seats id v idle (r.each id v at) in
      let there : get_elem? s.views other ≡ some w = sym (set_else s.views id other x apart_is) ∙ at' in
      let k' = idle_seat r.log r.served r.issued r.seats other w idle' (r.each other w there) in
      let o = total_set out_of s.views id v x at in let u = total_set turn_of s.views id v x at in let b = total_set budget_of s.views id v x at in
      let o' = total_set out_of vs other w spent_view at' in let u' = total_set turn_of vs other w spent_view at' in let b' = total_set budget_of vs other w spent_view at' in
      let no_turn' : turns v.stage ≡ 0 = ap turns idle in let no_out : outs v.stage ≡ 0 = ap outs idle in
      let no_turn'' : turns w.stage ≡ 0 = ap turns idle' in let no_out' : outs w.stage ≡ 0 = ap outs idle' in let all = r.tickets in let small = r.budget in let one' = r.one in
      let same : total turn_of (set vs other spent_view) ≡ total turn_of s.views = omega arith in
      let K : ℕ → View → Type 0 = λ j d. Knows destinations r.log r.served r.issued r.seats j d d.stage in record {
        log = r.log;
        served = r.served;
        issued = r.issued;
        seats = r.seats;
        many = length-set vs other spent_view ∙ (length-set s.views id x ∙ r.many);
        words = r.words;
        tickets = omega arith;
        one = omega arith;
        home = λ z. r.home (sym same ∙ z);
        away = λ z. r.away (sym same ∙ z);
        budget = omega arith;
        legal = r.legal;
        callers = r.callers;
        each = each_set K vs other spent_view tt (λ j d _ e. each_set K s.views id x
            (record { destinations_are = k.destinations_are; number = k.number; later = k.later; made = k.made }, (k'.later.0, k'.later.1)) (λ i y _ z. r.each i y z) j d e);
        apart = apart_set vs other spent_view (apart_set s.views id x r.apart (λ j d t _ e has here. here)) (λ j d t _ e has here. here);
      }

  first_knows : (j : ℕ) (v : View) → get_elem? (first_view destinations ∷ []) j ≡ some v → Knows destinations [] 0 0 1 j v v.stage
  first_knows zero v e = subst (λ (x : View). Knows destinations [] 0 0 1 0 x x.stage) (some-injective (first_view destinations) v e) (record { destinations_are = refl; number = refl; later = ([], refl, tt); made = λ _. refl })
  first_knows (suc j) v e = absurd (some-ne-none v (sym e))

  first_apart : (i j : ℕ) (v w : View) (t : ℕ) → get_elem? (first_view destinations ∷ []) i ≡ some v → get_elem? (first_view destinations ∷ []) j ≡ some w → HasTicket t v.stage → i ≡ j
  first_apart zero zero v w t a b h = refl
  first_apart zero (suc j) v w t a b h = absurd (some-ne-none w (sym b))
  first_apart (suc i) j v w t a b h = absurd (some-ne-none v (sym a))

  pub opens : Explained destinations (opening (0 ∷ 0 ∷ 0 ∷ []) (Some (counted_after destinations []) ∷ []) (first_view destinations))
  opens = record {
    log = [];
    served = 0;
    issued = 0;
    seats = 1;
    many = refl;
    words = refl;
    tickets = refl;
    one = omega arith;
    home = λ _. refl;
    away = λ z. absurd (omega arith);
    budget = le_refl (2 ^ 62);
    legal = tt;
    callers = tt;
    each = first_knows;
    apart = λ i j v w t a b c d. first_apart i j v w t a b c;
  }
