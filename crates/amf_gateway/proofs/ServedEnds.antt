-- Once it is known why a link was not answered whole.
use Rattle.std.proofs.Common.{◌≡◌, ℕ, ◌+◌, ◌-◌, ◌^◌, ◌<◌, ◌≤◌, min, Bool, true, false, Option, Some, None, List, length, refl, sym, ap, subst, arith, ◌∙◌}
use Rattle.std.specs.Prelude.{⊤}
use Rattle.amf_broker.specs.History.{Entry as Event}
use Rattle.amf_answer_plan.specs.declared.outside.Unanswered.{Unanswered}
use Rattle.amf_answer_plan.specs.declared.outside.Unanswered.TheVariants.{Spent}
use Rattle.amf_gateway.specs.Handed.{Given, PassGoesOn, CountsCalls, unanswered_in, CallsGoOn}
use Rattle.amf_desk.specs.Passes.{Held}
use Rattle.amf_service.specs.Registry.{Entry}
use Rattle.amf_gateway.specs.LinkSteps.{HaltsBy, Halts, AllAnswered}
use Rattle.amf_answer_plan.specs.Did.{Drawn, StopsAt}
use Rattle.amf_answer_plan.specs.Links.{LinkEnd, link}
use Rattle.amf_answer_plan.specs.Plan.{Plan}
use Rattle.amf_answer_plan.specs.Stands.{AtCall, StopsBy, Stops}
use Rattle.amf_answer_plan.proofs.Standing.{stands_weaker}
use Rattle.amf_gateway.specs.ServesLink.{CountsLink, most_unanswered, ServesLink, is_starved}
use Rattle.amf_answer_plan.specs.Serving.{ServeEnd, ended, read_fault, write_fault, no_memory, spent, LinkBytes, Taken, supply_of, did, Serves}
use Rattle.amf_io.specs.declared.link.Link.{Ghosts as LinkMembers}
use Rattle.amf_gateway.specs.Tells.{HallMembers, LinksStay}
use Rattle.amf_gateway.specs.WorkerSteps.{unknown}

serves_known : (services : List Entry) (b : LinkBytes) (k : Taken) (end : ServeEnd) → Serves services b k (unknown end) → Serves services b k end
serves_known services b k (ended end) s = s
serves_known services b k read_fault s = s
serves_known services b k write_fault s = s
serves_known services b k no_memory s = s
serves_known services b k spent s = s

-- Where it stops, once it is known whether it was for want of calls: then a call had no answer.

halts_unknown : (At : Plan LinkEnd → Type 0) (plan : List ℕ → Plan LinkEnd) (b : LinkBytes) (k : Taken) (end : ServeEnd) → HaltsBy At plan b k end → HaltsBy At plan b k (unknown end)
halts_unknown At plan b k (ended end) s = s
halts_unknown At plan b k read_fault s = s
halts_unknown At plan b k write_fault s = s
halts_unknown At plan b k no_memory s = s
halts_unknown At plan b k spent s = s

halts_known : (At : Plan LinkEnd → Type 0) (plan : List ℕ → Plan LinkEnd) (b : LinkBytes) (k : Taken) (end : ServeEnd) → HaltsBy At plan b k (unknown end) → HaltsBy At plan b k end
halts_known At plan b k (ended end) s = s
halts_known At plan b k read_fault s = s
halts_known At plan b k write_fault s = s
halts_known At plan b k no_memory s = s
halts_known At plan b k spent s = s

at_call : (unanswered : Bool) → unanswered ≡ true → (p : Plan LinkEnd) → StopsAt unanswered p → AtCall p
at_call unanswered e p s = subst (λ (u : Bool). StopsAt u p) e s

halts_stops : (unanswered : Bool) (plan : List ℕ → Plan LinkEnd) (b : LinkBytes) (k : Taken) (end : ServeEnd) → (end ≡ spent → unanswered ≡ true) → HaltsBy (StopsAt unanswered) plan b k end → StopsBy plan b k end
halts_stops u plan b k (ended end) none s = s
halts_stops u plan b k read_fault none s = s
halts_stops u plan b k write_fault none s = s
halts_stops u plan b k no_memory none (answers, s, w) = (answers, stands_weaker (StopsAt u) (λ p. ⊤) (λ p a. tt) (plan b.left) (supply_of k) (did k answers) s, w)
halts_stops u plan b k spent none (answers, s, w) = (answers, stands_weaker (StopsAt u) AtCall (at_call u (none refl)) (plan b.left) (supply_of k) (did k answers) s, w)

stops_known : (services : List Entry) (b : LinkBytes) (k : Drawn) (before end : ServeEnd) → Halts services b k before → unknown end ≡ unknown before → (end ≡ spent → k.unanswered ≡ true) → Stops services b k.taken end
stops_known services b k before end s same none =
    halts_stops k.unanswered (link services) b k.taken end none
    (halts_known (StopsAt k.unanswered) (link services) b k.taken end (subst (λ (e : ServeEnd). HaltsBy (StopsAt k.unanswered) (link services) b k.taken e) (sym same) (halts_unknown (StopsAt k.unanswered) (link services) b k.taken before s)))

counts_known : (reads reads_now writes writes_now : ℕ) (end : ServeEnd) → CountsLink reads reads_now writes writes_now (unknown end) → CountsLink reads reads_now writes writes_now end
counts_known reads reads_now writes writes_now (ended end) c = c
counts_known reads reads_now writes writes_now read_fault c = c
counts_known reads reads_now writes writes_now write_fault c = c
counts_known reads reads_now writes writes_now no_memory c = c
counts_known reads reads_now writes writes_now spent c = c

known_serves : (services : List Entry) (b : LinkBytes) (k : Taken) (end : ServeEnd) → Serves services b k end → Serves services b k (unknown end)
known_serves services b k (ended end) s = s
known_serves services b k read_fault s = s
known_serves services b k write_fault s = s
known_serves services b k no_memory s = s
known_serves services b k spent s = s

known_counts : (reads reads_now writes writes_now : ℕ) (end : ServeEnd) → CountsLink reads reads_now writes writes_now end → CountsLink reads reads_now writes writes_now (unknown end)
known_counts reads reads_now writes writes_now (ended end) c = c
known_counts reads reads_now writes writes_now read_fault c = c
known_counts reads reads_now writes writes_now write_fault c = c
known_counts reads reads_now writes writes_now no_memory c = c
known_counts reads reads_now writes writes_now spent c = c

-- as the aid and the pass are given back, and with the end that is told
pub at_desk : {L A K : Type 0} (link : LinkMembers L) (aid : HallMembers A K) (services : List Entry) (p q q' : Held) (a b b' : A) (came left : L) (k : Drawn) (before end : ServeEnd) → q' ≡ q → b' ≡ b → unknown end ≡ unknown before → (end ≡ spent → q.budget ≡ 0) → (end ≡ spent → k.unanswered ≡ true)
    → (link.tells_left came → link.tells_held left → Serves services (record { left = link.left came; leaves = link.left left; held = link.held came; now = link.held left }) k.taken before)
    → (link.tells_left came → link.tells_held left → Halts services (record { left = link.left came; leaves = link.left left; held = link.held came; now = link.held left }) k before)
    → CountsLink (link.read_faults came) (link.read_faults left) (link.write_faults came) (link.write_faults left) before
    → Given (aid.tells_moments a) (aid.tells_moments b) (aid.moments a) (aid.moments b) k.taken.moments → Given (aid.tells_words a) (aid.tells_words b) (aid.words a) (aid.words b) k.taken.words → PassGoesOn p q k.taken.entries
    → LinksStay aid a b
    → ServesLink link aid services p q' a b' (record { came = came; left = left; took = k.taken; end = end })
at_desk {L = L} {A = A} link aid services p q q' a b b' came left k before end same_pass same_aid same none one s st c m w g l =
    let bytes : LinkBytes = record { left = link.left came; leaves = link.left left; held = link.held came; now = link.held left } in
    let done : ServesLink link aid services p q a b (record { came = came; left = left; took = k.taken; end = end }) = record {
      is_served = record {
        serves = λ t h. serves_known services bytes k.taken end (subst (λ (e : ServeEnd). Serves services bytes k.taken e) (sym same) (known_serves services bytes k.taken before (s t h)));
        stops = λ t h. stops_known services bytes k before end (st t h) same one;
        counts = counts_known (link.read_faults came) (link.read_faults left) (link.write_faults came) (link.write_faults left) end
            (subst (λ (e : ServeEnd). CountsLink (link.read_faults came) (link.read_faults left) (link.write_faults came) (link.write_faults left) e) (sym same) (known_counts (link.read_faults came) (link.read_faults left) (link.write_faults came) (link.write_faults left) before c));
      };
      moments = m;
      words = w;
      pass = g;
      budget = none;
      links = l;
    } in
    subst (λ (r : Held). ServesLink link aid services p r a b' (record { came = came; left = left; took = k.taken; end = end })) (sym same_pass)
    (subst (λ (d : A). ServesLink link aid services p q a d (record { came = came; left = left; took = k.taken; end = end })) (sym same_aid) done)

-- The calls that a link made.

at_most_one : (u : Option Unanswered) → unanswered_in u ≤ 1
at_most_one None = omega arith
at_most_one (Some why) = omega arith

-- where a link ended for neither reason, none had no answer
answered_unknown : (end : ServeEnd) (unanswered : Bool) → AllAnswered end unanswered → AllAnswered (unknown end) unanswered
answered_unknown (ended end) unanswered a = a
answered_unknown read_fault unanswered a = a
answered_unknown write_fault unanswered a = a
answered_unknown no_memory unanswered a = a
answered_unknown spent unanswered a = a

few_known : (end : ServeEnd) (u : Option Unanswered) (unanswered : Bool) → (unanswered ≡ false → u ≡ None) → AllAnswered (unknown end) unanswered → unanswered_in u ≤ most_unanswered end
few_known (ended end) u unanswered same a = subst (λ (w : Option Unanswered). unanswered_in w ≤ 0) (sym (same a)) (omega arith)
few_known read_fault u unanswered same a = subst (λ (w : Option Unanswered). unanswered_in w ≤ 0) (sym (same a)) (omega arith)
few_known write_fault u unanswered same a = subst (λ (w : Option Unanswered). unanswered_in w ≤ 0) (sym (same a)) (omega arith)
few_known no_memory u unanswered same a = at_most_one u
few_known spent u unanswered same a = at_most_one u

pub few_unanswered : (before end : ServeEnd) (u : Option Unanswered) (unanswered : Bool) → unknown end ≡ unknown before → (unanswered ≡ false → u ≡ None) → AllAnswered before unanswered → unanswered_in u ≤ most_unanswered end
few_unanswered before end u unanswered e same a = few_known end u unanswered same (subst (λ (z : ServeEnd). AllAnswered z unanswered) (sym e) (answered_unknown before unanswered a))

pub at_most_each : (end : ServeEnd) → most_unanswered end ≤ 1
at_most_each (ended end) = omega arith
at_most_each read_fault = omega arith
at_most_each write_fault = omega arith
at_most_each no_memory = omega arith
at_most_each spent = omega arith

-- each call had an answer, unless memory or calls ran out
pub all_answered_unless : (end : ServeEnd) (budget before now answered : ℕ) → is_starved end ≡ false → (end ≡ spent → budget ≡ 0) → 0 < budget → CountsCalls (most_unanswered end) before now answered → CountsCalls 0 before now answered
all_answered_unless (ended end) budget before now answered e none more c = c
all_answered_unless read_fault budget before now answered e none more c = c
all_answered_unless write_fault budget before now answered e none more c = c
all_answered_unless no_memory budget before now answered e none more c = absurd cc
all_answered_unless spent budget before now answered e none more c = let zero = none refl in absurd (omega arith)

none_is_some : None ≡ Some Spent → ⊥
none_is_some e = cc

module _ (p q : Held) (left : ℕ) (u : Option Unanswered) (before now after : ℕ) (es : List Event) (same_left : left ≡ q.budget) (same_calls : after ≡ now) (l : before < 2 ^ 64) (g : PassGoesOn p q es) (c : CallsGoOn p q None u before now (length es)) where
  pub calls_counted : (most : ℕ) → unanswered_in u ≤ most → CountsCalls most before after (p.budget - left)
  calls_counted most few = record { unanswered = unanswered_in u; few = few; counted = omega (arith, same_calls, same_left, c.counted l, g.budget) }

  pub none_left_then : u ≡ Some Spent → left ≡ 0
  none_left_then e = let none = c.spent (λ f. absurd (none_is_some f)) e in omega (arith, same_left, none)

  pub one_more_asked : u ≡ Some Spent → after ≡ min (before + (p.budget + 1)) (2 ^ 64 - 1)
  one_more_asked e = let one : unanswered_in u ≡ 1 = ap unanswered_in e in let none = none_left_then e in omega (arith, one, same_calls, same_left, c.counted l, g.budget, none)

-- a call had no answer, where it is known why
pub had_none : (u : Option Unanswered) (unanswered : Bool) → (unanswered ≡ false → u ≡ None) → u ≡ Some Spent → unanswered ≡ true
had_none u true same e = refl
had_none u false same e = absurd (none_is_some (sym (same refl) ∙ e))
