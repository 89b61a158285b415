-- How far a link was served between two states of the outside.
use Rattle.std.proofs.Common.{◌≡◌, ◌∙◌, ℕ, suc, ◌+◌, ◌==◌, ◌||◌, Bool, false, arith, List, [], ◌∷◌, ◌++◌, Ok, Err, refl, sym, ap, subst, append_assoc, append-nil}
use Rattle.amf_http.specs.Response.{response}
use Rattle.amf_service.specs.Registry.{Entry}
use Rattle.amf_gateway.specs.declared.links.LinkEnd.{LinkEnd as Ending}
use Rattle.amf_gateway.specs.declared.links.LinkEnd.TheVariants.{Memory}
use Rattle.amf_gateway.specs.Answering.{one_more}
use Rattle.amf_answer_plan.specs.Did.{Drawn, taken_none, none_taken, taken_both, both_taken, StopsAt}
use Rattle.amf_answer_plan.specs.Links.{LinkEnd, closed, link_of, link, most_requests}
use Rattle.amf_gateway.specs.LinkSteps.{HaltsBy, Halts, AllAnswered, ServedLink, Steps}
use Rattle.amf_gateway.specs.ServesLink.{end_of}
use Rattle.amf_answer_plan.specs.Plan.{Plan, gives}
use Rattle.amf_answer_plan.specs.Respond.{joined}
use Rattle.amf_answer_plan.specs.Runs.{gave, Runs}
use Rattle.amf_answer_plan.specs.Serving.{ServeEnd, ended, LinkBytes, Taken, supply_of, did, none_left, ServesBy, Serves}
use Rattle.amf_gateway.proofs.Answered.{Carries, carries_none, carries_step, serves_carried, halts_carried, link_next, written_more}
use Rattle.amf_answer_plan.proofs.Composed.{none_begun}
use Rattle.amf_answer_plan.proofs.Standing.{at_none}

-- between two states of the outside, what all of a link says was done
pub record ServedBy {O : Type 0} (handed : O → O → Drawn → Type 0) (all : List ℕ → Plan LinkEnd) (old new : O) (tells_left tells_held : Type 0) (b : LinkBytes) (end : ServeEnd) : Type 0 where
  pub took : Drawn
  pub was_handed : handed old new took
  pub answered : AllAnswered end took.unanswered
  pub serves : tells_left → tells_held → ServesBy all b took.taken end
  pub stops : tells_left → tells_held → HaltsBy (StopsAt took.unanswered) all b took.taken end

both_answered : (end : ServeEnd) (first later : Bool) → first ≡ false → AllAnswered end later → AllAnswered end (first || later)
both_answered end first later e a = subst (λ (u : Bool). AllAnswered end (u || later)) (sym e) a

-- of all of a link this rest is left, from the bytes that are pending on, and so many bytes were written
pub record Come {O : Type 0} (handed : O → O → Drawn → Type 0) (all rest : List ℕ → Plan LinkEnd) (old now : O) (tells_left tells_held : Type 0) (start pending held holds : List ℕ) : Type 0 where
  pub took : Drawn
  pub was_handed : handed old now took
  pub answered : took.unanswered ≡ false
  pub comes : tells_left → tells_held → (used : List ℕ) × (answers : List (List ℕ)) × Carries all rest used took.taken answers × (start ≡ used ++ pending) × (holds ≡ held ++ joined answers)

module _ {O : Type 0} (handed : O → O → Drawn → Type 0) (none : (a : O) → handed a a none_taken) (both : (a b c : O) (k l : Drawn) → handed a b k → handed b c l → handed a c (both_taken k l)) (all : List ℕ → Plan LinkEnd) where
  pub come_none : (a : O) (tells_left tells_held : Type 0) (start held : List ℕ) → Come handed all all a a tells_left tells_held start start held held
  come_none a tells_left tells_held start held = record {
    took = none_taken;
    was_handed = none a;
    answered = refl;
    comes = λ t h. ([], [], carries_none all, refl, sym (append-nil held));
  }

  module _ (services : List Entry) (last : Bool) (rest after : List ℕ → Plan LinkEnd) (e : rest ≡ one_more services last after) (old now new : O) (tells_left still_left tells_held held_before : Type 0) (start pending follows leaves held holds written : List ℕ) (told : tells_left → still_left) (back : tells_held → held_before) (c : Come handed all rest old now tells_left held_before start pending held holds) where
    abbrev Bytes : LinkBytes
    Bytes = record { left = pending; leaves = leaves; held = holds; now = written }

    pub come_step : (done : Unit {0}) → Steps handed services last now new still_left tells_held Bytes follows (Ok done) → Come handed all after old new tells_left tells_held start follows held written
    come_step done s = record {
      took = both_taken c.took s.took;
      was_handed = both old now new c.took s.took c.was_handed s.was_handed;
      answered = λ i. c.answered i || s.answered i;
      comes = λ t h.
          let before = c.comes t (back h) in
          let step = s.steps (told t) h in (
            before.0 ++ step.0,
            before.1 ++ response 200 step.1 false ∷ [],
            carries_step services last after all rest before.0 step.0 step.1 c.took.taken s.took.taken before.1 e before.2 step.3,
            before.3 ∙ ap (λ (z : List ℕ). before.0 ++ z) step.2 ∙ sym (append_assoc before.0 step.0 follows),
            written_more held holds written before.1 (response 200 step.1 false ∷ []) before.4 (step.4 ∙ ap (λ (z : List ℕ). holds ++ z) (sym (append-nil (response 200 step.1 false)))),
          );
    }

    pub come_ends : (end : Ending) → Steps handed services last now new still_left tells_held Bytes follows (Err end) → ServedBy handed all old new tells_left tells_held (record { left = start; leaves = leaves; held = held; now = written }) (end_of end)
    come_ends end s = record {
      took = both_taken c.took s.took;
      was_handed = both old now new c.took s.took c.was_handed s.was_handed;
      answered = both_answered (end_of end) c.took.unanswered s.took.unanswered c.answered s.answered;
      serves = λ t h.
          let before = c.comes t (back h) in
          let step : ServesBy (one_more services last after) Bytes s.took.taken (end_of end) = (s.steps (told t) h after).0 in
          let here : ServesBy rest Bytes s.took.taken (end_of end) = subst (λ (p : List ℕ → Plan LinkEnd). ServesBy p Bytes s.took.taken (end_of end)) (sym e) step in
          subst (λ (z : List ℕ). ServesBy all (record { left = z; leaves = leaves; held = held; now = written }) (taken_both c.took.taken s.took.taken) (end_of end)) (sym before.3)
          (serves_carried all rest before.0 c.took.taken s.took.taken before.1 before.2 held Bytes (end_of end) before.4 here);
      stops = λ t h.
          let before = c.comes t (back h) in
          let step : HaltsBy (StopsAt s.took.unanswered) (one_more services last after) Bytes s.took.taken (end_of end) = (s.steps (told t) h after).1 in
          let here : HaltsBy (StopsAt s.took.unanswered) rest Bytes s.took.taken (end_of end) = subst (λ (p : List ℕ → Plan LinkEnd). HaltsBy (StopsAt s.took.unanswered) p Bytes s.took.taken (end_of end)) (sym e) step in
          subst (λ (u : Bool). HaltsBy (StopsAt (u || s.took.unanswered)) all (record { left = start; leaves = leaves; held = held; now = written }) (taken_both c.took.taken s.took.taken) (end_of end)) (sym c.answered)
          (subst (λ (z : List ℕ). HaltsBy (StopsAt s.took.unanswered) all (record { left = z; leaves = leaves; held = held; now = written }) (taken_both c.took.taken s.took.taken) (end_of end)) (sym before.3)
          (halts_carried all rest before.0 c.took.taken s.took.taken before.1 before.2 (StopsAt s.took.unanswered) held Bytes (end_of end) before.4 here));
    }

  -- no request is left
  pub come_over : (rest : List ℕ → Plan LinkEnd) → ((x : List ℕ) → rest x ≡ gives closed) → (old now : O) (tells_left tells_held : Type 0) (start pending leaves held holds : List ℕ) → Come handed all rest old now tells_left tells_held start pending held holds
      → ServedBy handed all old now tells_left tells_held (record { left = start; leaves = leaves; held = held; now = holds }) (ended closed)
  come_over rest e old now tells_left tells_held start pending leaves held holds c = record {
    took = both_taken c.took none_taken;
    was_handed = both old now now c.took none_taken c.was_handed (none now);
    answered = both_answered (ended closed) c.took.unanswered false c.answered refl;
    serves = λ t h.
        let before = c.comes t h in
        let b : LinkBytes = record { left = pending; leaves = leaves; held = holds; now = holds } in
        let none_left_to_do : Runs (rest pending) (supply_of taken_none) (did taken_none []) (gave closed none_left) = subst (λ (p : Plan LinkEnd). Runs p (supply_of taken_none) (did taken_none []) (gave closed none_left)) (sym (e pending)) (refl, refl) in
        subst (λ (z : List ℕ). ServesBy all (record { left = z; leaves = leaves; held = held; now = holds }) (taken_both c.took.taken taken_none) (ended closed)) (sym before.3)
        (serves_carried all rest before.0 c.took.taken taken_none before.1 before.2 held b (ended closed) before.4 ([], none_left_to_do, sym (append-nil holds)));
    stops = λ t h. tt;
  }

-- What so many requests more say. It stays folded, since the plan of a whole link is deep.
pub rest_of : ℕ → List Entry → List ℕ → Plan LinkEnd
rest_of n services bytes = link_of n services bytes

rest_next : (n : ℕ) (services : List Entry) → rest_of (suc n) services ≡ one_more services (n == 0) (rest_of n services)
unfolding rest_of
rest_next n services = link_next services n

pub rest_before : (m n : ℕ) (services : List Entry) → m ≡ n + 1 → rest_of m services ≡ one_more services (n == 0) (rest_of n services)
rest_before m n services e = let same : m ≡ suc n = omega arith in subst (λ (k : ℕ). rest_of k services ≡ one_more services (n == 0) (rest_of n services)) (sym same) (rest_next n services)

rest_zero : (services : List Entry) (x : List ℕ) → rest_of 0 services x ≡ gives closed
unfolding rest_of
rest_zero services x = refl

pub rest_none : (n : ℕ) (services : List Entry) (x : List ℕ) → n ≡ 0 → rest_of n services x ≡ gives closed
rest_none n services x e = subst (λ (k : ℕ). rest_of k services x ≡ gives closed) (sym e) (rest_zero services x)

-- the whole of a link is the plan of its most requests
whole_serves : (services : List Entry) (b : LinkBytes) (k : Taken) (end : ServeEnd) → ServesBy (rest_of most_requests services) b k end → Serves services b k end
unfolding rest_of
whole_serves services b k end s = s

whole_stops : (services : List Entry) (b : LinkBytes) (k : Drawn) (end : ServeEnd) → HaltsBy (StopsAt k.unanswered) (rest_of most_requests services) b k.taken end → Halts services b k end
unfolding rest_of
whole_stops services b k end s = s

pub served_link : {O : Type 0} (handed : O → O → Drawn → Type 0) (services : List Entry) (old new : O) (tells_left tells_held : Type 0) (b : LinkBytes) (end : Ending) → ServedBy handed (rest_of most_requests services) old new tells_left tells_held b (end_of end) → ServedLink handed services old new tells_left tells_held b end
served_link handed services old new tells_left tells_held b end s = record { took = s.took; was_handed = s.was_handed; answered = s.answered; serves = λ t h. whole_serves services b s.took.taken (end_of end) (s.serves t h); stops = λ t h. whole_stops services b s.took (end_of end) (s.stops t h) }

-- nothing was served, because memory ran out
pub nothing_served : {O : Type 0} (handed : O → O → Drawn → Type 0) (none : (a : O) → handed a a none_taken) (services : List Entry) (a : O) (tells_left tells_held : Type 0) (left leaves held now : List ℕ) → now ≡ held → ServedLink handed services a a tells_left tells_held (record { left = left; leaves = leaves; held = held; now = now }) Memory
nothing_served handed none services a tells_left tells_held left leaves held now e = record {
  took = none_taken;
  was_handed = none a;
  answered = tt;
  serves = λ t h. ([], none_begun (link services left) _ _ refl, e ∙ sym (append-nil held));
  stops = λ t h. ([], at_none (StopsAt false) (link services left) tt, e ∙ sym (append-nil held));
}
