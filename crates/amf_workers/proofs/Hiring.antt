-- How workers are hired, one after the other.
use Rattle.std.proofs.Common.{◌≡◌, ℕ, zero, suc, ◌+◌, ◌*◌, ◌^◌, ◌<◌, ◌≤◌, List, [], ◌∷◌, ◌++◌, length, get_or, reverse, Option, Some, None, MatchOption, ◌-◌, refl, ap, sym, ◌∙◌, subst, arith, append_assoc, append-nil, length-append}
use Rattle.std.specs.List.{AllByRecursion}
use Rattle.std.specs.Prelude.{All}
use Rattle.std.proofs.lemmas.List.Elements.{All-tail, All-head}
use Rattle.std.proofs.lemmas.List.{reverse-append, reverse-reverse}
use Rattle.amf_desk.specs.Histories.{own, NoneBy}
use Rattle.amf_desk.specs.Passes.{Held}
use Rattle.amf_desk.proofs.Own.{own_none}
use Rattle.amf_workers.specs.declared.hired_worker.HiredWorker.{HiredWorker}
use Rattle.amf_workers.specs.HiredWorkers.{IsFresh, Hired, AllHired}

-- one more of a list is taken from the end of the reversed rest
pub popped : {X : Type 0} (all done left left' : List X) (x : X) → all ≡ done ++ reverse left → left ≡ left' ++ x ∷ [] → all ≡ (done ++ x ∷ []) ++ reverse left'
popped all done left left' x e is = e ∙ (ap (λ l. done ++ reverse l) is ∙ (ap (λ l. done ++ l) (reverse-append left' (x ∷ [])) ∙ sym (append_assoc done (x ∷ []) (reverse left'))))

pub none_popped : {X : Type 0} (all : List X) → all ≡ [] ++ reverse (reverse all)
none_popped all = sym (reverse-reverse all)

empty : {X : Type 0} (xs : List X) → length xs ≡ 0 → xs ≡ []
empty [] e = refl
empty (x ∷ xs) e = absurd (omega arith)

-- or nothing is left
pub all_popped : {X : Type 0} (all done left : List X) → all ≡ done ++ reverse left → length left ≡ 0 → all ≡ done
all_popped all done left e none = e ∙ (ap (λ l. done ++ reverse l) (empty left none) ∙ append-nil done)

-- nothing was popped since nothing was there
pub none_there : {X : Type 0} (r : Option X) (m n : ℕ) → MatchOption r ((m ≡ 0) × (n ≡ 0)) (λ _. n + 1 ≡ m) → ((x : X) → r ≡ Some x → ⊥) → (m ≡ 0) × (n ≡ 0)
none_there None m n h not = h
none_there (Some x) m n h not = absurd (not x refl)

of_middle : {X : Type 0} (P : X → Type 0) (done rest : List X) (x : X) → AllByRecursion P ((done ++ x ∷ []) ++ rest) → P x
of_middle P [] rest x h = h.0
of_middle P (y ∷ ys) rest x h = of_middle P ys rest x h.1

-- what holds of all of a list holds of the one that is taken
pub of_popped : {X : Type 0} (P : X → Type 0) (all done rest : List X) (x : X) → AllByRecursion P all → all ≡ (done ++ x ∷ []) ++ rest → P x
of_popped P all done rest x h is = of_middle P done rest x (subst (AllByRecursion P) is h)

module _ {H L : Type 0} (first : Held) where
  hired_last : (n : ℕ) (hs : List H) (ws : List (HiredWorker H L)) (h : H) (w : HiredWorker H L) → AllHired first (2 ^ 55) n hs ws → Hired first (2 ^ 55) (n + length hs) h w → AllHired first (2 ^ 55) n (hs ++ h ∷ []) (ws ++ w ∷ [])
  hired_last n [] [] h w all one = (subst (λ (k : ℕ). Hired first (2 ^ 55) k h w) (let e : n + 0 ≡ n = omega arith in e) one, tt)
  hired_last n [] (v ∷ vs) h w all one = absurd all
  hired_last n (g ∷ gs) [] h w all one = absurd all
  hired_last n (g ∷ gs) (v ∷ vs) h w all one = (all.0, hired_last (n + 1) gs vs h w all.1 (subst (λ (k : ℕ). Hired first (2 ^ 55) k h w) (let e : n + suc (length gs) ≡ n + 1 + length gs = omega arith in e) one))

  pub as_many : (n : ℕ) (hs : List H) (ws : List (HiredWorker H L)) → AllHired first (2 ^ 55) n hs ws → length ws ≡ length hs
  as_many n [] [] all = refl
  as_many n [] (v ∷ vs) all = absurd all
  as_many n (g ∷ gs) [] all = absurd all
  as_many n (g ∷ gs) (v ∷ vs) all = ap suc (as_many (n + 1) gs vs all.1)

  -- all are of the one desk
  pub one_desk : (n : ℕ) (hs : List H) (ws : List (HiredWorker H L)) → AllHired first (2 ^ 55) n hs ws → (k : ℕ) (d : HiredWorker H L) → k < length ws → (get_or ws k d).worker.pass.desk ≡ first.desk
  one_desk n hs [] all k d lt = absurd (omega arith)
  one_desk n [] (v ∷ vs) all k d lt = absurd all
  one_desk n (g ∷ gs) (v ∷ vs) all zero d lt = all.0.fresh.desk_is
  one_desk n (g ∷ gs) (v ∷ vs) all (suc k) d lt = one_desk (n + 1) gs vs all.1 k d (omega arith)

  -- what holds of each hall holds of the hall of each worker
  pub hall_holds : (P : H → Type 0) (n : ℕ) (hs : List H) (ws : List (HiredWorker H L)) → AllHired first (2 ^ 55) n hs ws → All P hs → (k : ℕ) (d : HiredWorker H L) → k < length ws → P (get_or ws k d).worker.hall
  hall_holds P n hs [] all each k d lt = absurd (omega arith)
  hall_holds P n [] (v ∷ vs) all each k d lt = absurd all
  hall_holds P n (g ∷ gs) (v ∷ vs) all each zero d lt = subst P (sym all.0.hall_is) (All-head P g gs each)
  hall_holds P n (g ∷ gs) (v ∷ vs) all each (suc k) d lt = hall_holds P (n + 1) gs vs all.1 (All-tail P g gs each) k d (omega arith)

  -- The halls that are left, those that have workers, and the first pass after those were split off.
  pub record SoFar (now : Held) (all left : List H) (ws : List (HiredWorker H L)) : Type 0 where
    pub done : List H
    pub parts : all ≡ done ++ reverse left
    pub hired : AllHired first (2 ^ 55) 1 done ws
    pub desk : now.desk ≡ first.desk
    pub destinations : now.destinations ≡ first.destinations
    pub number : now.number ≡ 0
    pub splits : now.splits ≡ length done
    pub budget : now.budget + length done * 2 ^ 55 ≡ first.budget

  pub none_hired : (all left : List H) (ws : List (HiredWorker H L)) → left ≡ reverse all → ws ≡ [] → first.number ≡ 0 → first.splits ≡ 0 → SoFar first all left ws
  none_hired all left ws is none number splits = record {
    done = [];
    parts = none_popped all ∙ ap (λ l. reverse l) (sym is);
    hired = subst (AllHired first (2 ^ 55) 1 []) (sym none) tt;
    desk = refl;
    destinations = refl;
    number = number;
    splits = splits;
    budget = omega arith;
  }

  -- a pass is split off for one more hall
  pub one_hired : (now now' p : Held) (all left left' : List H) (ws : List (HiredWorker H L)) (h : H) (w : HiredWorker H L) → SoFar now all left ws → left ≡ left' ++ h ∷ [] → 2 ^ 55 ≤ now.budget
      → now' ≡ record { desk = now.desk; destinations = now.destinations; number = 0; seen = now.seen; budget = now.budget - 2 ^ 55; splits = now.splits + 1 }
      → p ≡ record { desk = now.desk; destinations = now.destinations; number = now.splits + 1; seen = now.seen; budget = 2 ^ 55; splits = 0 }
      → NoneBy p.number p.seen → w.worker.pass ≡ p → w.worker.hall ≡ h → SoFar now' all left' (ws ++ w ∷ [])
  one_hired now now' p all left left' ws h w s is few split new none pass hall =
      let splits = s.splits in let budget = s.budget in
      let number : p.number ≡ 1 + length s.done = ap (λ (q : Held). q.number) new ∙ (let e : now.splits + 1 ≡ 1 + length s.done = omega arith in e) in
      let fresh : IsFresh first (2 ^ 55) (1 + length s.done) p = record {
        desk_is = ap (λ (q : Held). q.desk) new ∙ s.desk;
        number = number;
        budget = ap (λ (q : Held). q.budget) new;
        none_own = subst (λ (k : ℕ). own k p.seen ≡ []) number (own_none p.number p.seen none);
      } in
      let hired : Hired first (2 ^ 55) (1 + length s.done) h w = record { fresh = subst (IsFresh first (2 ^ 55) (1 + length s.done)) (sym pass) fresh; hall_is = hall } in
      let less = ap (λ (q : Held). q.budget) split in
      record {
        done = s.done ++ h ∷ [];
        parts = popped all s.done left left' h s.parts is;
        hired = hired_last 1 s.done ws h w s.hired hired;
        desk = ap (λ (q : Held). q.desk) split ∙ s.desk;
        destinations = ap (λ (q : Held). q.destinations) split ∙ s.destinations;
        number = ap (λ (q : Held). q.number) split;
        splits = ap (λ (q : Held). q.splits) split ∙ (let e : now.splits + 1 ≡ length (s.done ++ h ∷ []) = omega (arith, length-append s.done (h ∷ [])) in e);
        budget = omega (arith, length-append s.done (h ∷ []));
      }

  pub all_hired : (now : Held) (all left : List H) (ws : List (HiredWorker H L)) → SoFar now all left ws → length left ≡ 0 → AllHired first (2 ^ 55) 1 all ws × (now.budget + length all * 2 ^ 55 ≡ first.budget)
  all_hired now all left ws s none = let is = all_popped all s.done left s.parts none in
      (subst (λ (l : List H). AllHired first (2 ^ 55) 1 l ws) (sym is) s.hired, subst (λ (l : List H). now.budget + length l * 2 ^ 55 ≡ first.budget) (sym is) s.budget)
