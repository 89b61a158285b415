-- Where the first pass has all calls again that were not made, the history consists of the workers' entries.
use Rattle.std.proofs.Common.{◌≡◌, ℕ, suc, ◌+◌, ◌*◌, ◌^◌, ◌<◌, ◌≤◌, Bool, true, false, ◌||◌, ◌⊎◌, ⊎_elim, inl, inr, List, [], ◌∷◌, ◌++◌, length, map, take, drop, sum_by, refl, ap, sym, ◌∙◌, subst, arith, append-nil, length-append}
use Rattle.std.specs.List.{All, AllByRecursion, list_any}
use Rattle.std.proofs.lemmas.List.{length-map, take-append-le, take_all}
use Rattle.std.proofs.lemmas.List.Sums.{sum_by-cons}
use Rattle.amf_io.specs.declared.link.Link.{Ghosts as LinkMembers}
use Rattle.amf_io.specs.declared.front.Front.{Ghosts as FrontMembers}
use Rattle.amf_broker.specs.History.{Entry as Event}
use Rattle.amf_io.specs.Front.{CountsBack}
use Rattle.amf_desk.specs.declared.closed.Closed.{Closed}
use Rattle.amf_desk.specs.Histories.{own, Begins}
use Rattle.amf_desk.specs.Passes.{Held, ClosedAs}
use Rattle.amf_desk.proofs.Own.{own_begins, begins_trans}
use Rattle.amf_service.specs.Registry.{Entry}
use Rattle.amf_gateway.specs.declared.worker.WorkerEnd.{WorkerEnd}
use Rattle.amf_gateway.specs.declared.worker.WorkerEnd.TheVariants.{Done, FrontFault}
use Rattle.amf_gateway.specs.Served.{Served, entries_of, starved_in, CountsFront, IsWholeUnlessFault}
use Rattle.amf_gateway.specs.ServesLink.{Service, IsServed, bytes_of}
use Rattle.amf_gateway.specs.Tells.{HallMembers}
use Rattle.amf_workers.specs.declared.hired_worker.HiredWorker.{HiredWorker}
use Rattle.amf_workers.specs.Gathered.{Gathered, TookBack}
use Rattle.amf_workers.specs.Halls.{Worked}
use Rattle.amf_workers.specs.HiredWorkers.{IsFresh, AllHired, AllServed, CanJoin}
use Rattle.amf_workers.specs.Together.{destinations, EachFrom, failed_in, Shift, CountsFaults, TellsBoth}
use Rattle.amf_workers.proofs.FewCalls.{few_entries}
use Rattle.amf_workers.proofs.Made.{IsNew, Made, made}
use Rattle.amf_workers.proofs.Owned.{owned, owned_all, all_owned}

-- what was lent as a slice is back
pub written_back : {X : Type 0} (new old : List X) (n : ℕ) → length new ≡ length old → n ≡ length old → take n (new ++ drop (length new) old) ≡ new
written_back new old n same len = take-append-le n new (drop (length new) old) (omega arith) ∙ take_all n new (omega arith)

no_more : (xs ys : List Event) → length (xs ++ ys) ≤ length xs → xs ++ ys ≡ xs
no_more xs [] le = append-nil xs
no_more xs (y ∷ ys) le = let l = length-append xs (y ∷ ys) in absurd (omega arith)

-- a beginning of the same length is the whole
begins_whole : (xs ys : List Event) → Begins xs ys → length ys ≤ length xs → ys ≡ xs
begins_whole xs ys b le = b.1 ∙ no_more xs b.0 (subst (λ (l : List Event). length l ≤ length xs) b.1 le)

begins_shorter : (xs ys : List Event) → Begins xs ys → length xs ≤ length ys
begins_shorter xs ys b = omega (arith, ap length b.1, length-append xs b.0)

or_no : (a b : Bool) → (a || b) ≡ false → (a ≡ false) × (b ≡ false)
or_no true b e = (cc)
or_no false b e = (refl, e)

or_yes : (a b : Bool) → (a || b) ≡ true → (a ≡ true) ⊎ (b ≡ true)
or_yes true b e = inl refl
or_yes false b e = inr e

failed_counts : (end : WorkerEnd) (now : ℕ) → CountsFront 0 now end → (failed_in end ≡ true → 0 < now) × (failed_in end ≡ false → now ≡ 0)
failed_counts (Done starved) now c = (λ e. (cc), λ e. c)
failed_counts (FrontFault starved) now c = let r = c.1 in (λ e. omega arith, λ e. (cc))

pub counts_faults : (faulty : Bool) (before now sum : ℕ) → CountsBack before now sum → (faulty ≡ true → 0 < sum) × (faulty ≡ false → sum ≡ 0) → CountsFaults before now faulty
counts_faults true before now sum c h = (c.never_falls, c.rises (h.0 refl))
counts_faults false before now sum c h = c.stays (h.1 refl)

module _ {H L : Type 0} (hall : HallMembers H L) (link : LinkMembers L) (services : List Entry) (each : ℕ) where
  abbrev Of : Type 0
  Of = Shift hall link services each

  -- the entries of the workers, added up
  abbrev made_by : List Of → ℕ
  made_by [] = 0
  made_by (s ∷ ss) = length (entries_of s.served.links) + made_by ss

  budgets : (first : Held) (n : ℕ) (ss : List Of) → EachFrom n (λ i s. IsFresh first (2 ^ 55) i s.before) ss → sum_by (λ (p : Held). p.budget) (map (λ s. s.after) ss) + made_by ss ≡ length ss * 2 ^ 55
  budgets first n [] h = omega arith
  budgets first n (s ∷ ss) h =
      let rest = budgets first (n + 1) ss h.1 in let here = s.served.pass.budget in let had = h.0.budget in
      omega (arith, sum_by-cons (λ (p : Held). p.budget) s.after (map (λ s. s.after) ss))

  -- a worker's new entries are its own in what it has seen, and so the history begins with them
  own_new : (first : Held) (i : ℕ) (s : Of) (h : List Event) → IsFresh first (2 ^ 55) i s.before → Begins s.after.seen h → Begins (entries_of s.served.links) (own i h)
  own_new first i s h fresh b =
      let mine : own i s.after.seen ≡ entries_of s.served.links =
      subst (λ (k : ℕ). own k s.after.seen ≡ own k s.before.seen ++ entries_of s.served.links) fresh.number s.served.pass.own_entries
      ∙ ap (λ (l : List Event). l ++ entries_of s.served.links) fresh.none_own in
      subst (λ (l : List Event). Begins l (own i h)) mine (own_begins i s.after.seen h b)

  begun : (first : Held) (n : ℕ) (ss : List Of) (h : List Event) → EachFrom n (λ i s. IsFresh first (2 ^ 55) i s.before) ss → AllByRecursion (λ (p : Held). Begins p.seen h) (map (λ s. s.after) ss)
      → EachFrom n (λ i s. Begins (entries_of s.served.links) (own i h)) ss
  begun first n [] h fresh seen = tt
  begun first n (s ∷ ss) h fresh seen = (own_new first n s h fresh.0 seen.0, begun first (n + 1) ss h fresh.1 seen.1)

  few_made : (n : ℕ) (ss : List Of) (h : List Event) → EachFrom n (λ i s. Begins (entries_of s.served.links) (own i h)) ss → made_by ss ≤ owned n (length ss) h
  few_made n [] h b = omega arith
  few_made n (s ∷ ss) h b = let here = begins_shorter (entries_of s.served.links) (own n h) b.0 in let rest = few_made (n + 1) ss h b.1 in omega arith

  exact : (first : Held) (n : ℕ) (ss : List Of) (h : List Event) → EachFrom n (λ i s. IsFresh first (2 ^ 55) i s.before) ss → EachFrom n (λ i s. Begins (entries_of s.served.links) (own i h)) ss → owned n (length ss) h ≤ made_by ss
      → EachFrom n (λ i s. (s.before.number ≡ i) × (own i h ≡ entries_of s.served.links)) ss
  exact first n [] h fresh b le = tt
  exact first n (s ∷ ss) h fresh b le =
      let here = begins_shorter (entries_of s.served.links) (own n h) b.0 in let rest = few_made (n + 1) ss h b.1 in
      ((fresh.0.number, begins_whole (entries_of s.served.links) (own n h) b.0 (omega arith)), exact first (n + 1) ss h fresh.1 b.1 (omega arith))

  further : (seen h : List Event) (ps : List Held) → Begins seen h → AllByRecursion (λ (p : Held). Begins p.seen seen) ps → AllByRecursion (λ (p : Held). Begins p.seen h) ps
  further seen h [] b all = tt
  further seen h (p ∷ ps) b all = (begins_trans p.seen seen h all.0 b, further seen h ps b all.1)

  answered : (ss : List Of) → list_any starved_in (map (λ s. s.end) ss) ≡ false → AllByRecursion (λ s. 0 < s.after.budget → AllByRecursion (IsWholeUnlessFault link) s.served.links) ss
  answered [] e = tt
  answered (s ∷ ss) e = let no = or_no (starved_in s.end) (list_any starved_in (map (λ s. s.end) ss)) e in (s.served.whole no.0, answered ss no.1)

  few_by : (vs : List (Service L)) → AllByRecursion (IsServed link services) vs → AllByRecursion (TellsBoth link) vs → length (entries_of vs) ≤ length vs * 65535000
  few_by [] served told = omega arith
  few_by (v ∷ vs) served told =
      let here = few_entries services (bytes_of link v) v.took v.end (served.0.serves told.0.0 told.0.1) in let rest = few_by vs served.1 told.1 in
      omega (arith, length-append v.took.entries (entries_of vs))

  some_left : (s : Of) → s.before.budget ≡ 2 ^ 55 → each ≤ 1000000 → AllByRecursion (TellsBoth link) s.served.links → 0 < s.after.budget
  some_left s had few told = let made = few_by s.served.links s.served.each_served told in let most = s.served.at_most in let spent = s.served.pass.budget in omega arith

  calls_left : (first : Held) (n : ℕ) (ss : List Of) → EachFrom n (λ i s. IsFresh first (2 ^ 55) i s.before) ss → each ≤ 1000000 → AllByRecursion (λ s. AllByRecursion (TellsBoth link) s.served.links → 0 < s.after.budget) ss
  calls_left first n [] fresh few = tt
  calls_left first n (s ∷ ss) fresh few = (λ told. some_left s fresh.0.budget few told, calls_left first (n + 1) ss fresh.1 few)

  -- a hall failed exactly where a worker says so
  pub failed_sum : (ss : List Of) → (list_any failed_in (map (λ s. s.end) ss) ≡ true → 0 < sum_by hall.faults (map (λ s. s.returned) ss)) × (list_any failed_in (map (λ s. s.end) ss) ≡ false → sum_by hall.faults (map (λ s. s.returned) ss) ≡ 0)
  failed_sum [] = (λ e. (cc), λ e. refl)
  failed_sum (s ∷ ss) =
      let here = failed_counts s.end (hall.faults s.returned) (subst (λ (k : ℕ). CountsFront k (hall.faults s.returned) s.end) s.whole s.served.front) in let rest = failed_sum ss in
      let sum = sum_by-cons hall.faults s.returned (map (λ s. s.returned) ss) in (
        λ e. ⊎_elim (λ (f : failed_in s.end ≡ true). let l = here.0 f in omega arith) (λ (f : list_any failed_in (map (λ s. s.end) ss) ≡ true). let l = rest.0 f in omega arith) (or_yes (failed_in s.end) (list_any failed_in (map (λ s. s.end) ss)) e),
        λ e. let no = or_no (failed_in s.end) (list_any failed_in (map (λ s. s.end) ss)) e in let a = here.1 no.0 in let b = rest.1 no.1 in omega arith,
      )

  pub worked : (first hired last : Held) (hs : List H) (xs ys : List (HiredWorker H L)) (told : Closed) (starved faulty : Bool)
      → first.destinations ≡ destinations → AllHired first (2 ^ 55) 1 hs xs → AllByRecursion (IsNew hall link services each) hs → AllServed hall link services each xs ys
      → hired.destinations ≡ first.destinations → hired.budget + length hs * 2 ^ 55 ≡ 2 ^ 62 → Gathered hired last (map (λ w. w.worker.pass) ys) → ClosedAs last told
      → starved ≡ list_any starved_in (map (λ w. w.end) ys) → faulty ≡ list_any failed_in (map (λ w. w.end) ys)
      → (w : Worked hall link services each hs told starved faulty) × (map (λ s. s.returned) w.shifts ≡ map (λ y. y.worker.hall) ys)
  worked first hired last hs xs ys told starved faulty names all new served same budget g c st fa =
      let m : Made hall link services each first (2 ^ 55) 1 hs ys = made hall link services each first (2 ^ 55) 1 hs xs ys all new served in
      let h : List Event = c.history in
      let later : Begins last.seen h = (c.later.0, c.later.1) in
      let seen : AllByRecursion (λ (p : Held). Begins p.seen h) (map (λ s. s.after) m.shifts) = subst (AllByRecursion (λ (p : Held). Begins p.seen h)) (sym m.after) (further last.seen h (map (λ y. y.worker.pass) ys) later g.seen) in
      let b = begun first 1 m.shifts h m.fresh seen in
      let left = budgets first 1 m.shifts m.fresh in
      let many : length m.shifts ≡ length hs = sym (length-map m.shifts (λ (s : Of). s.opened)) ∙ ap length m.opened in
      let sums : sum_by (λ (p : Held). p.budget) (map (λ s. s.after) m.shifts) ≡ sum_by (λ (p : Held). p.budget) (map (λ y. y.worker.pass) ys) = ap (sum_by (λ (p : Held). p.budget)) m.after in
      let whole = g.budget in let room = c.room in
      let few : length h ≤ made_by m.shifts = omega arith in
      let most = owned_all 1 (length m.shifts) h in let least = few_made 1 m.shifts h b in (
        record {
          shifts = m.shifts;
          opened = m.opened;
          closing = last;
          closed = c;
          destinations_are = g.destinations ∙ (same ∙ names);
          callers = all_owned 1 (length m.shifts) h (omega arith);
          entries = exact first 1 m.shifts h m.fresh b (omega arith);
          starved_is = st ∙ ap (list_any starved_in) (sym m.ends);
          answered = λ e. answered m.shifts (sym (st ∙ ap (list_any starved_in) (sym m.ends)) ∙ e);
          calls_left = calls_left first 1 m.shifts m.fresh;
          faulty_is = fa ∙ ap (list_any failed_in) (sym m.ends);
        },
        m.returned,
      )

  -- the halls are new
  pub all_new : (hs : List H) → All (λ h. hall.faults h ≡ 0) hs → All (λ h. hall.served h ≡ []) hs → AllByRecursion (IsNew hall link services each) hs
  all_new [] whole fresh = tt
  all_new (g ∷ gs) whole fresh = ((whole 0 g (omega arith), fresh 0 g (omega arith)), all_new gs (λ k d lt. whole (suc k) d (omega arith)) (λ k d lt. fresh (suc k) d (omega arith)))

  -- their passes can be joined
  can_join : (first now : Held) (n : ℕ) (hs : List H) (xs ys : List (HiredWorker H L)) → now.desk ≡ first.desk → 0 < n → AllHired first (2 ^ 55) n hs xs → AllServed hall link services each xs ys → AllByRecursion (CanJoin now) ys
  can_join first now n [] [] [] same up all s = tt
  can_join first now n [] [] (y ∷ ys) same up all s = let e = s.0 in absurd (omega arith)
  can_join first now n [] (x ∷ xs) ys same up all s = absurd all
  can_join first now n (g ∷ gs) [] ys same up all s = absurd all
  can_join first now n (g ∷ gs) (x ∷ xs) [] same up all s = let e = s.0 in absurd (omega arith)
  can_join first now n (g ∷ gs) (x ∷ xs) (y ∷ ys) same up all s =
      let served : Served hall link services each x.worker.pass y.worker.pass x.worker.hall y.worker.hall y.end = s.1 0 x (omega arith) in let e = s.0 in
      let fresh = all.0.fresh in let number : y.worker.pass.number ≡ n = served.pass.number ∙ fresh.number in
      ((served.pass.desk ∙ (fresh.desk_is ∙ sym same), λ z. absurd (omega arith)), can_join first now (n + 1) gs xs ys same (omega arith) all.1 (omega arith, λ i d lt. s.1 (suc i) d (omega arith)))

  pub join_all : (first now : Held) (hs : List H) (xs was ys : List (HiredWorker H L)) → now.desk ≡ first.desk → AllHired first (2 ^ 55) 1 hs xs → was ≡ xs → AllServed hall link services each was ys → AllByRecursion (CanJoin now) ys
  join_all first now hs xs was ys same all is served = can_join first now 1 hs xs ys same (omega arith) all (subst (λ (l : List (HiredWorker H L)). AllServed hall link services each l ys) is served)

  pub halls_served : {F : Type 0} (front : FrontMembers F H L) (a b : F) (first hired last : Held) (hs : List H) (xs was ys back : List (HiredWorker H L)) (told : Closed) (starved faulty : Bool)
      → first.destinations ≡ destinations → AllHired first (2 ^ 55) 1 hs xs → All (λ h. hall.faults h ≡ 0) hs → All (λ h. hall.served h ≡ []) hs → was ≡ xs → AllServed hall link services each was ys
      → hired.destinations ≡ first.destinations → hired.budget + length hs * 2 ^ 55 ≡ 2 ^ 62 → back ≡ ys → Gathered hired last (map (λ w. w.worker.pass) back) → ClosedAs last told
      → TookBack front hall.faults a b (map (λ w. w.worker.hall) back) → starved ≡ list_any starved_in (map (λ w. w.end) back) → faulty ≡ list_any failed_in (map (λ w. w.end) back)
      → (w : Worked hall link services each hs told starved faulty) × TookBack front hall.faults a b (map (λ s. s.returned) w.shifts)
  halls_served {F} front a b first hired last hs xs was ys back told starved faulty names all whole fresh was_is served same budget back_is g c took st fa =
      let done = worked first hired last hs xs ys told starved faulty names all (all_new hs whole fresh) (subst (λ (l : List (HiredWorker H L)). AllServed hall link services each l ys) was_is served) same budget
      (subst (λ (l : List (HiredWorker H L)). Gathered hired last (map (λ w. w.worker.pass) l)) back_is g) c
      (st ∙ ap (λ (l : List (HiredWorker H L)). list_any starved_in (map (λ w. w.end) l)) back_is) (fa ∙ ap (λ (l : List (HiredWorker H L)). list_any failed_in (map (λ w. w.end) l)) back_is) in
      (done.0, subst (TookBack front hall.faults a b) (ap (λ (l : List (HiredWorker H L)). map (λ w. w.worker.hall) l) back_is ∙ sym done.1) took)
