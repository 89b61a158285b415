-- What serving comes to, by what the front said when it was opened and by what became of its halls.
use Rattle.std.proofs.Common.{◌≡◌, ℕ, suc, ◌+◌, ◌<◌, ◌≤◌, List, [], ◌∷◌, ◌++◌, length, map, sum_by, refl, ap, sym, ◌∙◌, subst, arith, append-nil, Result, Err, Vec, Global}
use Rattle.std.specs.List.{All, AllByRecursion}
use Rattle.std.proofs.lemmas.List.{length-map}
use Rattle.std.proofs.lemmas.List.Sums.{sum_by-cons}
use Rattle.amf_io.specs.declared.link.Link.{Ghosts as LinkMembers}
use Rattle.amf_io.specs.declared.front.Front.{Ghosts as FrontMembers}
use Rattle.amf_broker.specs.History.{Entry as Event}
use Rattle.amf_io.specs.Front.{Asks, Opens, CountsOpen}
use Rattle.amf_io.specs.declared.front.OpenEnd.{OpenEnd}
use Rattle.amf_io.specs.declared.front.OpenEnd.TheVariants as open_end
use Rattle.amf_service.specs.Registry.{Entry}
use Rattle.amf_gateway.specs.Tells.{HallMembers}
use Rattle.amf_workers.specs.declared.answer.ServeAnswer.{ServeAnswer}
use Rattle.amf_workers.specs.declared.answer.ServeAnswer.TheVariants.{Memory, NotOpened, Closed as WasClosed}
use Rattle.amf_workers.specs.Halls.{Worked, ServesHalls}
use Rattle.amf_workers.specs.Together.{Shift, CountsFaults, Failed, GaveUp, Serves}
use Rattle.amf_workers.proofs.Whole.{counts_faults, failed_sum}

none_failed : {H : Type 0} (faults : H → ℕ) (hs : List H) → All (λ h. faults h ≡ 0) hs → sum_by faults hs ≡ 0
none_failed faults [] whole = refl
none_failed faults (h ∷ hs) whole = let here = whole 0 h (omega arith) in let rest = none_failed faults hs (λ k d lt. whole (suc k) d (omega arith)) in omega (arith, sum_by-cons faults h hs)

-- What the front said, where it gave no halls.

module _ {F H L : Type 0} (front : FrontMembers F H L) (port workers : ℕ) (a b : F) (r : Result (Vec H Global) OpenEnd) (tells : front.tells b → front.tells a) (halls : front.tells b → front.halls b ≡ front.halls a) where
  pub failed : r ≡ Err open_end.Failed → (front.tells b → Asks (front.asked a) (front.asked b) port workers r) → (front.tells b → Opens (front.to_open a) (front.to_open b) r) → CountsOpen (front.faults a) (front.faults b) r → Failed front port workers a b
  failed is asks opens counts = record {
    tells = tells;
    asked = subst (λ (x : Result (Vec H Global) OpenEnd). front.tells b → Asks (front.asked a) (front.asked b) port workers x) is asks;
    to_open = subst (λ (x : Result (Vec H Global) OpenEnd). front.tells b → Opens (front.to_open a) (front.to_open b) x) is opens;
    halls = halls;
    counts = subst (CountsOpen (front.faults a) (front.faults b)) is counts;
  }

  pub no_memory : r ≡ Err open_end.Memory → (front.tells b → Opens (front.to_open a) (front.to_open b) r) → CountsOpen (front.faults a) (front.faults b) r → GaveUp front a b
  no_memory is opens counts =
      let same = subst (λ (x : Result (Vec H Global) OpenEnd). front.tells b → Opens (front.to_open a) (front.to_open b) x) is opens in record {
        opened = [];
        tells = tells;
        gave = λ t. sym (same t);
        took_back = λ t. halls t ∙ sym (append-nil (front.halls a));
        counts = subst (CountsOpen (front.faults a) (front.faults b)) is counts;
      }

pub not_asked : {F H L : Type 0} (front : FrontMembers F H L) (a : F) → GaveUp front a a
not_asked front a = record { opened = []; tells = λ t. t; gave = λ t. refl; took_back = λ t. sym (append-nil (front.halls a)); counts = refl }

module _ {F H L : Type 0} (front : FrontMembers F H L) (hall : HallMembers H L) (link : LinkMembers L) (services : List Entry) (port workers each : ℕ) where
  -- the front was asked, and gave these halls
  pub record Opening (a b : F) (hs : List H) : Type 0 where
    pub tells : front.tells b → front.tells a
    pub asked : front.tells b → front.asked b ≡ front.asked a ++ (port, workers) ∷ []
    pub gave : front.tells b → front.to_open a ≡ hs ++ front.to_open b
    pub many : length hs ≡ workers
    pub halls : front.tells b → front.halls b ≡ front.halls a
    pub counts : front.faults b ≡ front.faults a

  pub serves : (a b c : F) (hs : List H) (answer : ServeAnswer) → Opening a b hs → All (λ h. hall.faults h ≡ 0) hs → ServesHalls front hall link services each hs b c answer → Serves front hall link services port workers each a c answer
  serves a b c hs Memory o whole t = record {
    opened = hs;
    tells = λ x. o.tells (t.tells x);
    gave = λ x. o.gave (t.tells x) ∙ ap (λ (l : List H). hs ++ l) (sym (t.to_open x));
    took_back = λ x. t.took_back x ∙ ap (λ (l : List H). l ++ hs) (o.halls (t.tells x));
    counts = t.counts.stays (none_failed hall.faults hs whole) ∙ o.counts;
  }
  serves a b c hs NotOpened o whole z = absurd z
  serves a b c hs (WasClosed told starved faulty) o whole done =
      let w : Worked hall link services each hs told starved faulty = done.0 in let t = done.1 in
      let opened : List H = map (λ s. s.opened) w.shifts in let returned : List H = map (λ s. s.returned) w.shifts in
      let many : length w.shifts ≡ workers = sym (length-map w.shifts (λ (s : Shift hall link services each). s.opened)) ∙ (ap length w.opened ∙ o.many) in
      let failed = failed_sum hall link services each w.shifts in
      let counted : CountsFaults (front.faults b) (front.faults c) faulty = counts_faults faulty (front.faults b) (front.faults c) (sum_by hall.faults returned) t.counts (λ e. failed.0 (sym w.faulty_is ∙ e), λ e. failed.1 (sym w.faulty_is ∙ e)) in
      record {
        tells = λ x. o.tells (t.tells x);
        asked = λ x. t.asked x ∙ o.asked (t.tells x);
        shifts = w.shifts;
        many = many;
        gave = λ x. o.gave (t.tells x) ∙ (ap (λ (l : List H). l ++ front.to_open b) (sym w.opened) ∙ ap (λ (l : List H). opened ++ l) (sym (t.to_open x)));
        took_back = λ x. t.took_back x ∙ ap (λ (l : List H). l ++ returned) (o.halls (t.tells x));
        closing = w.closing;
        closed = w.closed;
        destinations_are = w.destinations_are;
        callers = subst (λ (n : ℕ). AllByRecursion (λ (e : Event). (1 ≤ e.caller) × (e.caller < 1 + n)) w.closed.history) many w.callers;
        entries = w.entries;
        starved_is = w.starved_is;
        answered = w.answered;
        calls_left = w.calls_left;
        faulty_is = w.faulty_is;
        counts = subst (λ (n : ℕ). CountsFaults n (front.faults c) faulty) o.counts counted;
      }
