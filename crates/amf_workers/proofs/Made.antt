-- Shifts, of the workers as they were hired and as they have served.
use Rattle.std.proofs.Common.{◌≡◌, ℕ, suc, ◌+◌, List, [], ◌∷◌, map, refl, ap, subst, arith}
use Rattle.std.specs.List.{AllByRecursion}
use Rattle.amf_io.specs.declared.link.Link.{Ghosts as LinkMembers}
use Rattle.amf_desk.specs.Passes.{Held}
use Rattle.amf_service.specs.Registry.{Entry}
use Rattle.amf_gateway.specs.declared.worker.WorkerEnd.{WorkerEnd}
use Rattle.amf_gateway.specs.Served.{Served}
use Rattle.amf_gateway.specs.Tells.{HallMembers}
use Rattle.amf_workers.specs.declared.hired_worker.HiredWorker.{HiredWorker}
use Rattle.amf_workers.specs.HiredWorkers.{IsFresh, Hired, AllHired, AllServed}
use Rattle.amf_workers.specs.Together.{EachFrom, Shift}

module _ {H L : Type 0} (hall : HallMembers H L) (link : LinkMembers L) (services : List Entry) (each : ℕ) where
  abbrev pub IsNew : H → Type 0
  IsNew h = (hall.faults h ≡ 0) × (hall.served h ≡ [])

  -- the shifts of these halls, by the workers after them; the passes were fresh, from the n-th on
  pub record Made (first : Held) (share n : ℕ) (hs : List H) (ys : List (HiredWorker H L)) : Type 0 where
    pub shifts : List (Shift hall link services each)
    pub opened : map (λ s. s.opened) shifts ≡ hs
    pub returned : map (λ s. s.returned) shifts ≡ map (λ y. y.worker.hall) ys
    pub after : map (λ s. s.after) shifts ≡ map (λ y. y.worker.pass) ys
    pub ends : map (λ s. s.end) shifts ≡ map (λ y. y.end) ys
    pub fresh : EachFrom n (λ i s. IsFresh first share i s.before) shifts

  pub made : (first : Held) (share n : ℕ) (hs : List H) (xs ys : List (HiredWorker H L)) → AllHired first share n hs xs → AllByRecursion IsNew hs → AllServed hall link services each xs ys → Made first share n hs ys
  made first share n [] [] [] h new s = record { shifts = []; opened = refl; returned = refl; after = refl; ends = refl; fresh = tt }
  made first share n [] [] (y ∷ ys) h new s = let e = s.0 in absurd (omega arith)
  made first share n [] (x ∷ xs) ys h new s = absurd h
  made first share n (g ∷ hs) [] ys h new s = absurd h
  made first share n (g ∷ hs) (x ∷ xs) [] h new s = let e = s.0 in absurd (omega arith)
  made first share n (g ∷ hs) (x ∷ xs) (y ∷ ys) h new s =
      let hired : Hired first share n g x = h.0 in
      let here : Served hall link services each x.worker.pass y.worker.pass x.worker.hall y.worker.hall y.end = s.1 0 x (omega arith) in
      let e = s.0 in
      let rest : Made first share (n + 1) hs ys = made first share (n + 1) hs xs ys h.1 new.1 (omega arith, λ i d lt. s.1 (suc i) d (omega arith)) in
      let one : Shift hall link services each = record {
        opened = g;
        returned = y.worker.hall;
        before = x.worker.pass;
        after = y.worker.pass;
        end = y.end;
        whole = new.0.0;
        fresh = new.0.1;
        served = subst (λ (k : H). Served hall link services each x.worker.pass y.worker.pass k y.worker.hall y.end) hired.hall_is here;
      } in record {
        shifts = one ∷ rest.shifts;
        opened = ap (λ (l : List H). g ∷ l) rest.opened;
        returned = ap (λ (l : List H). y.worker.hall ∷ l) rest.returned;
        after = ap (λ (l : List Held). y.worker.pass ∷ l) rest.after;
        ends = ap (λ (l : List WorkerEnd). y.end ∷ l) rest.ends;
        fresh = (hired.fresh, rest.fresh);
      }
