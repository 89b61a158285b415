-- How halls are given back and passes joined, one after the other.
use Rattle.std.proofs.Common.{◌≡◌, ℕ, zero, suc, ◌+◌, Bool, true, false, ◌||◌, List, [], ◌∷◌, ◌++◌, length, map, reverse, sum_by, refl, ap, sym, ◌∙◌, subst, arith, append_assoc, append-nil}
use Rattle.std.specs.List.{AllByRecursion, list_any}
use Rattle.std.proofs.lemmas.List.{map-append}
use Rattle.std.proofs.lemmas.List.Folds.{list_any-append}
use Rattle.std.proofs.lemmas.List.Sums.{sum_by-append}
use Rattle.amf_io.specs.Front.{CountsBack}
use Rattle.amf_io.specs.Outside.{Rose}
use Rattle.amf_io.specs.declared.front.Front.{Ghosts as FrontMembers}
use Rattle.amf_broker.specs.History.{Entry as Event}
use Rattle.amf_desk.specs.Histories.{Begins}
use Rattle.amf_desk.specs.Passes.{Held, JoinedTo}
use Rattle.amf_desk.proofs.Own.{begins_self, begins_trans, joined_begins}
use Rattle.amf_gateway.specs.declared.worker.WorkerEnd.{WorkerEnd}
use Rattle.amf_gateway.specs.Served.{starved_in}
use Rattle.amf_workers.specs.declared.gather.Ends.{Ends}
use Rattle.amf_workers.specs.declared.hired_worker.HiredWorker.{HiredWorker}
use Rattle.amf_workers.specs.Gathered.{Gathered, TookBack}
use Rattle.amf_workers.specs.Together.{failed_in}
use Rattle.amf_workers.proofs.Hiring.{popped, none_popped, all_popped}

or_false : (b : Bool) → (b || false) ≡ b
or_false true = refl
or_false false = refl

-- Passes.

all_last : {X : Type 0} (P : X → Type 0) (xs : List X) (x : X) → AllByRecursion P xs → P x → AllByRecursion P (xs ++ x ∷ [])
all_last P [] x h one = (one, tt)
all_last P (y ∷ ys) x h one = (h.0, all_last P ys x h.1 one)

all_further : (seen later : List Event) (ps : List Held) → Begins seen later → AllByRecursion (λ s. Begins s.seen seen) ps → AllByRecursion (λ s. Begins s.seen later) ps
all_further seen later [] b h = tt
all_further seen later (p ∷ ps) b h = (begins_trans p.seen seen later h.0 b, all_further seen later ps b h.1)

pub gathered_none : (p : Held) → Gathered p p []
gathered_none p = record { desk = refl; destinations = refl; number = refl; budget = omega arith; begins = begins_self p.seen; seen = tt }

pub gathered_next : (p q r f : Held) (ps : List Held) → Gathered p q ps → JoinedTo q f r → Gathered p r (ps ++ f ∷ [])
gathered_next p q r f ps g j =
    let b = joined_begins q f r j in let before = g.budget in let more = j.budget in
    record {
      desk = j.desk ∙ g.desk;
      destinations = j.destinations ∙ g.destinations;
      number = j.number ∙ g.number;
      budget = omega (arith, sum_by-append (λ (s : Held). s.budget) ps (f ∷ []));
      begins = begins_trans p.seen q.seen r.seen g.begins b.0;
      seen = all_last (λ (s : Held). Begins s.seen r.seen) ps f (all_further q.seen r.seen ps b.0 g.seen) b.1;
    }

-- Halls.

module _ {F H L : Type 0} (front : FrontMembers F H L) (faults : H → ℕ) where
  pub took_none : (a : F) → TookBack front faults a a []
  took_none a = record { tells = λ t. t; asked = λ t. refl; to_open = λ t. refl; took_back = λ t. sym (append-nil (front.halls a)); counts = record { never_falls = omega arith; rises = λ lt. absurd (omega arith); stays = λ e. refl } }

  counts_both : (x y z m n : ℕ) → CountsBack x y m → CountsBack y z n → CountsBack x z (m + n)
  counts_both x y z zero n c d =
      let same = c.stays refl in let high = d.never_falls in record {
        never_falls = omega arith;
        rises = λ lt. let r : Rose y z = d.rises (omega arith) in omega arith;
        stays = λ e. let e' = d.stays (omega arith) in omega arith;
      }
  counts_both x y z (suc m) n c d =
      let low = c.never_falls in let high = d.never_falls in let r : Rose x y = c.rises (omega arith) in record {
        never_falls = omega arith;
        rises = λ lt. omega arith;
        stays = λ e. absurd (omega arith);
      }

  pub took_both : (a b c : F) (hs ks : List H) → TookBack front faults a b hs → TookBack front faults b c ks → TookBack front faults a c (hs ++ ks)
  took_both a b c hs ks p q = record {
    tells = λ t. p.tells (q.tells t);
    asked = λ t. q.asked t ∙ p.asked (q.tells t);
    to_open = λ t. q.to_open t ∙ p.to_open (q.tells t);
    took_back = λ t. q.took_back t ∙ (ap (λ (l : List H). l ++ ks) (p.took_back (q.tells t)) ∙ append_assoc (front.halls a) hs ks);
    counts = subst (CountsBack (front.faults a) (front.faults c)) (sym (sum_by-append faults hs ks)) (counts_both (front.faults a) (front.faults b) (front.faults c) (sum_by faults hs) (sum_by faults ks) p.counts q.counts);
  }

  pub took_one : (a b : F) (h : H) → (front.tells b → front.tells a) → (front.tells b → front.asked b ≡ front.asked a) → (front.tells b → front.to_open b ≡ front.to_open a) → (front.tells b → front.halls b ≡ front.halls a ++ h ∷ [])
      → CountsBack (front.faults a) (front.faults b) (faults h) → TookBack front faults a b (h ∷ [])
  took_one a b h tells asked to_open halls c = record { tells = tells; asked = asked; to_open = to_open; took_back = halls; counts = subst (CountsBack (front.faults a) (front.faults b)) (let e : faults h ≡ sum_by faults (h ∷ []) = omega arith in e) c }

  -- the halls that were given back, of those that were to be
  pub record HallsSoFar (a b : F) (all left : List H) : Type 0 where
    pub done : List H
    pub parts : all ≡ done ++ reverse left
    pub halls : TookBack front faults a b done

  pub halls_none : (a : F) (all left : List H) → left ≡ reverse all → HallsSoFar a a all left
  halls_none a all left is = record { done = []; parts = none_popped all ∙ ap (λ (l : List H). reverse l) (sym is); halls = took_none a }

  pub halls_next : (a b c : F) (all left left' : List H) (h : H) → HallsSoFar a b all left → left ≡ left' ++ h ∷ [] → TookBack front faults b c (h ∷ []) → HallsSoFar a c all left'
  halls_next a b c all left left' h s is one = record { done = s.done ++ h ∷ []; parts = popped all s.done left left' h s.parts is; halls = took_both a b c s.done (h ∷ []) s.halls one }

  pub halls_all : (a b : F) (all left : List H) → HallsSoFar a b all left → length left ≡ 0 → TookBack front faults a b all
  halls_all a b all left s none = subst (TookBack front faults a b) (sym (all_popped all s.done left s.parts none)) s.halls

  -- the workers that were taken in, of those that are to be
  module _ {K : Type 0} where
    pub record SoFar (p q : Held) (a b : F) (ends : Ends) (all left : List (HiredWorker H K)) : Type 0 where
      pub done : List (HiredWorker H K)
      pub parts : all ≡ done ++ reverse left
      pub passes : Gathered p q (map (λ w. w.worker.pass) done)
      pub halls : TookBack front faults a b (map (λ w. w.worker.hall) done)
      pub starved : ends.starved ≡ list_any starved_in (map (λ w. w.end) done)
      pub faulty : ends.faulty ≡ list_any failed_in (map (λ w. w.end) done)

    pub none_taken : (p : Held) (a : F) (ends : Ends) (all left : List (HiredWorker H K)) → left ≡ reverse all → ends.starved ≡ false → ends.faulty ≡ false → SoFar p p a a ends all left
    none_taken p a ends all left is starved faulty = record { done = []; parts = none_popped all ∙ ap (λ (l : List (HiredWorker H K)). reverse l) (sym is); passes = gathered_none p; halls = took_none a; starved = starved; faulty = faulty }

    any_last : (test : WorkerEnd → Bool) (done : List (HiredWorker H K)) (w : HiredWorker H K) (b c : Bool) → b ≡ list_any test (map (λ w. w.end) done) → c ≡ (b || test w.end) → c ≡ list_any test (map (λ w. w.end) (done ++ w ∷ []))
    any_last test done w b c e is =
        is ∙ (ap (λ (x : Bool). x || test w.end) e ∙ (ap (λ (x : Bool). list_any test (map (λ w. w.end) done) || x) (sym (or_false (test w.end)))
        ∙ (sym (list_any-append test (map (λ w. w.end) done) (w.end ∷ [])) ∙ ap (list_any test) (sym (map-append (λ (w : HiredWorker H K). w.end) done (w ∷ []))))))

    pub one_taken : (p q r : Held) (a b c : F) (ends ends' : Ends) (all left left' : List (HiredWorker H K)) (w : HiredWorker H K) (end : WorkerEnd) → SoFar p q a b ends all left → left ≡ left' ++ w ∷ []
        → JoinedTo q w.worker.pass r → TookBack front faults b c (w.worker.hall ∷ []) → end ≡ w.end → ends'.starved ≡ (ends.starved || starved_in end) → ends'.faulty ≡ (ends.faulty || failed_in end) → SoFar p r a c ends' all left'
    one_taken p q r a b c ends ends' all left left' w end s is join took told starved faulty = record {
      done = s.done ++ w ∷ [];
      parts = popped all s.done left left' w s.parts is;
      passes = subst (Gathered p r) (sym (map-append (λ (w : HiredWorker H K). w.worker.pass) s.done (w ∷ []))) (gathered_next p q r w.worker.pass (map (λ w. w.worker.pass) s.done) s.passes join);
      halls = subst (TookBack front faults a c) (sym (map-append (λ (w : HiredWorker H K). w.worker.hall) s.done (w ∷ []))) (took_both a b c (map (λ w. w.worker.hall) s.done) (w.worker.hall ∷ []) s.halls took);
      starved = any_last starved_in s.done w ends.starved ends'.starved s.starved (starved ∙ ap (λ (e : WorkerEnd). ends.starved || starved_in e) told);
      faulty = any_last failed_in s.done w ends.faulty ends'.faulty s.faulty (faulty ∙ ap (λ (e : WorkerEnd). ends.faulty || failed_in e) told);
    }

    pub all_taken : (p q : Held) (a b : F) (ends : Ends) (all left : List (HiredWorker H K)) → SoFar p q a b ends all left → length left ≡ 0
        → Gathered p q (map (λ w. w.worker.pass) all) × TookBack front faults a b (map (λ w. w.worker.hall) all) × (ends.starved ≡ list_any starved_in (map (λ w. w.end) all)) × (ends.faulty ≡ list_any failed_in (map (λ w. w.end) all))
    all_taken p q a b ends all left s none =
        let is : s.done ≡ all = sym (all_popped all s.done left s.parts none) in (
          subst (λ (l : List (HiredWorker H K)). Gathered p q (map (λ w. w.worker.pass) l)) is s.passes,
          subst (λ (l : List (HiredWorker H K)). TookBack front faults a b (map (λ w. w.worker.hall) l)) is s.halls,
          subst (λ (l : List (HiredWorker H K)). ends.starved ≡ list_any starved_in (map (λ w. w.end) l)) is s.starved,
          subst (λ (l : List (HiredWorker H K)). ends.faulty ≡ list_any failed_in (map (λ w. w.end) l)) is s.faulty,
        )
