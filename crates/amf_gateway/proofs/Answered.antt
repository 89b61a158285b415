-- Answering a link one request at a time comes to what the link is answered.
use Rattle.std.proofs.Common.{◌≡◌, ◌∙◌, ℕ, suc, Bool, true, false, ◌==◌, ◌||◌, if◌then◌else◌, List, [], ◌∷◌, ◌++◌, Option, Some, None, refl, sym, ap, subst, inr, append_assoc, append-nil}
use Rattle.std.proofs.lemmas.List.{map-append}
use Rattle.amf_broker.specs.declared.call.Call.{Call}
use Rattle.amf_broker.specs.declared.reply.Reply.{Reply as Replied}
use Rattle.amf_http.specs.Response.{response}
use Rattle.amf_packet.specs.Packet.{Packet}
use Rattle.amf_service.specs.Registry.{Entry}
use Rattle.amf_gateway.specs.Answered.{packet_bytes, if_packet}
use Rattle.amf_gateway.specs.Answering.{Next, packet, answer_with, next_by, next, goes_on, one_more}
use Rattle.amf_answer_plan.specs.Begun.{Begun}
use Rattle.amf_answer_plan.specs.Did.{taken_none, taken_both}
use Rattle.amf_answer_plan.specs.Links.{LinkEnd, turn_away, answer_packet, answer_body, answer_request, link_of}
use Rattle.amf_gateway.specs.LinkSteps.{Gives, HaltsBy}
use Rattle.amf_answer_plan.specs.Packets.{answers_to, has_long}
use Rattle.amf_answer_plan.specs.Plan.{Cut, at_end, cut_short, turned_away, request, Plan, gives, takes_moment, takes_word, calls, spells, reads, cuts, unpacks, packs, writes, ◌>>=◌}
use Rattle.amf_answer_plan.specs.Respond.{joined}
use Rattle.amf_answer_plan.specs.Stands.{Stands, AtWriting, AtBytes}
use Rattle.amf_answer_plan.specs.Runs.{Supply, Done, nothing, and_answer, Outcome, gave, Runs}
use Rattle.amf_answer_plan.specs.Serving.{ServeEnd, ended, read_fault, write_fault, no_memory, spent, LinkBytes, Taken, supply_of, calls_of, did, none_left, more, ServesBy}
use Rattle.amf_answer_plan.proofs.Composed.{both, runs_then, runs_more, begun_then}
use Rattle.amf_answer_plan.proofs.Standing.{at_none, stands_then, stands_on}

-- The plans.

-- three plans, one after the other
then_assoc : {X Y Z : Type 0} (p : Plan X) (f : X → Plan Y) (g : Y → Plan Z) → ◌>>=◌ (◌>>=◌ p f) g ≡ ◌>>=◌ p (λ x. ◌>>=◌ (f x) g)
then_assoc (gives x) f g = refl
then_assoc (takes_moment p) f g = λ i. takes_moment (λ m. then_assoc (p m) f g i)
then_assoc (takes_word p) f g = λ i. takes_word (λ w. then_assoc (p w) f g i)
then_assoc (calls n c p) f g = λ i. calls n c (λ r. then_assoc (p r) f g i)
then_assoc (spells how x p) f g = λ i. spells how x (λ b. then_assoc (p b) f g i)
then_assoc (reads message p) f g = λ i. reads message (λ x. then_assoc (p x) f g i)
then_assoc (cuts bytes p) f g = λ i. cuts bytes (λ c. then_assoc (p c) f g i)
then_assoc (unpacks bytes p) f g = λ i. unpacks bytes (λ x. then_assoc (p x) f g i)
then_assoc (packs x p) f g = λ i. packs x (λ b. then_assoc (p b) f g i)
then_assoc (writes answer p) f g = λ i. writes answer (then_assoc p f g i)

module _ (services : List Entry) (after : List ℕ → Plan LinkEnd) (close : Bool) (rest : List ℕ) where
  abbrev Finish : Option (List ℕ) → Plan Next
  Finish back = gives (answer_with close rest back)

  packet_same : (p : Packet) → ◌>>=◌ (◌>>=◌ (packet_bytes services p) Finish) (goes_on after) ≡ answer_packet services close (after rest) p
  packet_same p =
      let back : Packet → Plan (Option (List ℕ)) = λ q. packs q (λ bytes. gives (Some bytes)) in
      ap (λ (z : Plan Next). ◌>>=◌ z (goes_on after)) (then_assoc (answers_to services p) back Finish)
      ∙ then_assoc (answers_to services p) (λ q. ◌>>=◌ (back q) Finish) (goes_on after)

  long_same : (long : Bool) (p : Packet) → ◌>>=◌ (◌>>=◌ (if long then gives None else packet_bytes services p) Finish) (goes_on after) ≡ (if long then turn_away 400 else answer_packet services close (after rest) p)
  long_same true p = refl
  long_same false p = packet_same p

  pub body_same : (p : Option Packet) → ◌>>=◌ (◌>>=◌ (if_packet services p) Finish) (goes_on after) ≡ answer_body services close (after rest) p
  body_same None = refl
  body_same (Some p) = long_same (has_long p) p

request_same : (services : List Entry) (last : Bool) (after : List ℕ → Plan LinkEnd) (c : Cut) → answer_request services last after c ≡ ◌>>=◌ (next_by services last c) (goes_on after)
request_same services last after at_end = refl
request_same services last after cut_short = refl
request_same services last after (turned_away status) = refl
request_same services last after (request body close rest) = λ i. unpacks body (λ p. sym (body_same services after (close || last) rest p) i)

-- one request more is the first of those that are left
pub link_next : (services : List Entry) (n : ℕ) → link_of (suc n) services ≡ one_more services (n == 0) (link_of n services)
link_next services n = λ i bytes. cuts bytes (λ c. request_same services (n == 0) (link_of n services) c i)

-- What is taken and done, one after the other.

same_supply : (k l : Taken) → more (supply_of k) (supply_of l) ≡ supply_of (taken_both k l)
same_supply k l = ap (λ (rs : List Replied). record { moments = k.moments ++ l.moments; words = k.words ++ l.words; replies = rs }) (sym (map-append (λ e. e.answer.reply) k.entries l.entries))

same_calls : (k l : Taken) → calls_of k ++ calls_of l ≡ calls_of (taken_both k l)
same_calls k l = sym (map-append (λ e. (e.moment, e.call)) k.entries l.entries)

same_did : (k l : Taken) (xs ys : List (List ℕ)) → both (did k xs) (did l ys) ≡ did (taken_both k l) (xs ++ ys)
same_did k l xs ys = ap (λ (cs : List (ℕ × Call)). record { calls = cs; answers = xs ++ ys }) (same_calls k l)

more_assoc : (s t u : Supply) → more s (more t u) ≡ more (more s t) u
more_assoc s t u = λ i. record { moments = sym (append_assoc s.moments t.moments u.moments) i; words = sym (append_assoc s.words t.words u.words) i; replies = sym (append_assoc s.replies t.replies u.replies) i }

both_assoc : (c d e : Done) → both c (both d e) ≡ both (both c d) e
both_assoc c d e = λ i. record { calls = sym (append_assoc c.calls d.calls e.calls) i; answers = sym (append_assoc c.answers d.answers e.answers) i }

runs_as : {X : Type 0} (p q : Plan X) (s t : Supply) (d e : Done) (o : Outcome X) → p ≡ q → s ≡ t → d ≡ e → Runs p s d o → Runs q t e o
runs_as {X = X} p q s t d e o f g h r = subst (λ (z : Plan X). Runs z t e o) f (subst (λ (z : Supply). Runs p z e o) g (subst (λ (z : Done). Runs p s z o) h r))

begun_as : {X : Type 0} (p q : Plan X) (s t : Supply) (d e : Done) → p ≡ q → s ≡ t → d ≡ e → Begun p s d → Begun q t e
begun_as {X = X} p q s t d e f g h r = subst (λ (z : Plan X). Begun z t e) f (subst (λ (z : Supply). Begun p z e) g (subst (λ (z : Done). Begun p s z) h r))

stands_as : {X : Type 0} (At : Plan X → Type 0) (p q : Plan X) (s t : Supply) (d e : Done) → p ≡ q → s ≡ t → d ≡ e → Stands At p s d → Stands At q t e
stands_as {X = X} At p q s t d e f g h r = subst (λ (z : Plan X). Stands At z t e) f (subst (λ (z : Supply). Stands At p z e) g (subst (λ (z : Done). Stands At p s z) h r))

both_none : (d : Done) → both d nothing ≡ d
both_none d = λ i. record { calls = append-nil d.calls i; answers = append-nil d.answers i }

-- What the rest of a link comes to, carried over to the whole of it: these bytes were used, with what was taken and these answers.
-- Both are any plans for bytes, since the whole link is a deep term.

pub record Carries (all rest : List ℕ → Plan LinkEnd) (used : List ℕ) (k : Taken) (answers : List (List ℕ)) : Type 0 where
  pub runs : (x : List ℕ) (s : Supply) (d : Done) (o : Outcome LinkEnd) → Runs (rest x) s d o → Runs (all (used ++ x)) (more (supply_of k) s) (both (did k answers) d) o
  pub begun : (x : List ℕ) (s : Supply) (d : Done) → Begun (rest x) s d → Begun (all (used ++ x)) (more (supply_of k) s) (both (did k answers) d)
  pub stands : (x : List ℕ) → Stands (λ q. q ≡ rest x) (all (used ++ x)) (supply_of k) (did k answers)

pub carries_none : (all : List ℕ → Plan LinkEnd) → Carries all all [] taken_none []
carries_none all = record { runs = λ x s d o r. r; begun = λ x s d b. b; stands = λ x. at_none (λ q. q ≡ all x) (all x) refl }

module _ (services : List Entry) (last : Bool) (after : List ℕ → Plan LinkEnd) where
  -- what a step comes to
  step_runs : (bytes x answer : List ℕ) (j : Taken) → Gives services last bytes j (packet answer false x) → (s : Supply) (d : Done) (o : Outcome LinkEnd) → Runs (after x) s d o
      → Runs (one_more services last after bytes) (more (supply_of j) s) (both (did j []) (and_answer (response 200 answer false) d)) o
  step_runs bytes x answer j g s d o r =
      runs_then (next services last bytes) (goes_on after) (more (supply_of j) s) s (did j []) (and_answer (response 200 answer false) d) (packet answer false x) o
      (runs_more (next services last bytes) (supply_of j) none_left s (did j []) (packet answer false x) g) (d, r, refl)

  step_begun : (bytes x answer : List ℕ) (j : Taken) → Gives services last bytes j (packet answer false x) → (s : Supply) (d : Done) → Begun (after x) s d
      → Begun (one_more services last after bytes) (more (supply_of j) s) (both (did j []) (and_answer (response 200 answer false) d))
  step_begun bytes x answer j g s d b =
      begun_then (next services last bytes) (goes_on after) (more (supply_of j) s) s (did j []) (and_answer (response 200 answer false) d) (packet answer false x)
      (runs_more (next services last bytes) (supply_of j) none_left s (did j []) (packet answer false x) g) (inr (d, b, refl))

  step_stands : (bytes x answer : List ℕ) (j : Taken) → Gives services last bytes j (packet answer false x) → Stands (λ q. q ≡ after x) (one_more services last after bytes) (supply_of j) (both (did j []) (and_answer (response 200 answer false) nothing))
  step_stands bytes x answer j g =
      stands_then (λ q. q ≡ after x) (next services last bytes) (goes_on after) (supply_of j) none_left (did j []) (and_answer (response 200 answer false) nothing) (packet answer false x)
      g (inr (nothing, at_none (λ q. q ≡ after x) (after x) refl, refl))

  step_done : (k j : Taken) (answers : List (List ℕ)) (answer : List ℕ) (d : Done) → both (did k answers) (both (did j []) (and_answer answer d)) ≡ both (did (taken_both k j) (answers ++ answer ∷ [])) d
  step_done k j answers answer d =
      both_assoc (did k answers) (did j (answer ∷ [])) d ∙ ap (λ (z : Done). both z d) (same_did k j answers (answer ∷ []))

  step_supply : (k j : Taken) (s : Supply) → more (supply_of k) (more (supply_of j) s) ≡ more (supply_of (taken_both k j)) s
  step_supply k j s = more_assoc (supply_of k) (supply_of j) s ∙ ap (λ (z : Supply). more z s) (same_supply k j)

  pub carries_step : (all rest : List ℕ → Plan LinkEnd) (used more_used answer : List ℕ) (k j : Taken) (answers : List (List ℕ)) → rest ≡ one_more services last after → Carries all rest used k answers
      → ((x : List ℕ) → Gives services last (more_used ++ x) j (packet answer false x)) → Carries all after (used ++ more_used) (taken_both k j) (answers ++ response 200 answer false ∷ [])
  carries_step all rest used more_used answer k j answers e c a = record {
    runs = λ x s d o r.
        let written : Done = both (did j []) (and_answer (response 200 answer false) d) in
        let one = step_runs (more_used ++ x) x answer j (a x) s d o r in
        let here : Runs (rest (more_used ++ x)) (more (supply_of j) s) written o = subst (λ (p : List ℕ → Plan LinkEnd). Runs (p (more_used ++ x)) (more (supply_of j) s) written o) (sym e) one in
        runs_as (all (used ++ (more_used ++ x))) (all ((used ++ more_used) ++ x)) (more (supply_of k) (more (supply_of j) s)) (more (supply_of (taken_both k j)) s) (both (did k answers) written) (both (did (taken_both k j) (answers ++ response 200 answer false ∷ [])) d) o
        (ap all (sym (append_assoc used more_used x))) (step_supply k j s) (step_done k j answers (response 200 answer false) d)
        (c.runs (more_used ++ x) (more (supply_of j) s) written o here);
    begun = λ x s d b.
        let written : Done = both (did j []) (and_answer (response 200 answer false) d) in
        let one = step_begun (more_used ++ x) x answer j (a x) s d b in
        let here : Begun (rest (more_used ++ x)) (more (supply_of j) s) written = subst (λ (p : List ℕ → Plan LinkEnd). Begun (p (more_used ++ x)) (more (supply_of j) s) written) (sym e) one in
        begun_as (all (used ++ (more_used ++ x))) (all ((used ++ more_used) ++ x)) (more (supply_of k) (more (supply_of j) s)) (more (supply_of (taken_both k j)) s) (both (did k answers) written) (both (did (taken_both k j) (answers ++ response 200 answer false ∷ [])) d)
        (ap all (sym (append_assoc used more_used x))) (step_supply k j s) (step_done k j answers (response 200 answer false) d)
        (c.begun (more_used ++ x) (more (supply_of j) s) written here);
    stands = λ x.
        let written : Done = both (did j []) (and_answer (response 200 answer false) nothing) in
        let one = step_stands (more_used ++ x) x answer j (a x) in
        let here : Stands (λ q. q ≡ after x) (rest (more_used ++ x)) (supply_of j) written = subst (λ (p : List ℕ → Plan LinkEnd). Stands (λ q. q ≡ after x) (p (more_used ++ x)) (supply_of j) written) (sym e) one in
        stands_as (λ q. q ≡ after x) (all (used ++ (more_used ++ x))) (all ((used ++ more_used) ++ x)) (more (supply_of k) (supply_of j)) (supply_of (taken_both k j)) (both (did k answers) written) (did (taken_both k j) (answers ++ response 200 answer false ∷ []))
        (ap all (sym (append_assoc used more_used x))) (same_supply k j) (step_done k j answers (response 200 answer false) nothing ∙ both_none (did (taken_both k j) (answers ++ response 200 answer false ∷ [])))
        (stands_on (λ q. q ≡ after x) (rest (more_used ++ x)) (all (used ++ (more_used ++ x))) (supply_of k) (supply_of j) (did k answers) written (c.stands (more_used ++ x)) here);
  }

joined_both : (xs ys : List (List ℕ)) → joined (xs ++ ys) ≡ joined xs ++ joined ys
joined_both [] ys = refl
joined_both (x ∷ xs) ys = ap (λ z. x ++ z) (joined_both xs ys) ∙ sym (append_assoc x (joined xs) (joined ys))

-- what was held before, and what was written since, by two parts
written_both : (start held now : List ℕ) (xs ys : List (List ℕ)) (tail : List ℕ) → held ≡ start ++ joined xs → now ≡ held ++ (joined ys ++ tail) → now ≡ start ++ (joined (xs ++ ys) ++ tail)
written_both start held now xs ys tail e f =
    f ∙ ap (λ z. z ++ (joined ys ++ tail)) e ∙ append_assoc start (joined xs) (joined ys ++ tail)
    ∙ ap (λ z. start ++ z) (sym (append_assoc (joined xs) (joined ys) tail) ∙ ap (λ z. z ++ tail) (sym (joined_both xs ys)))

pub written_more : (start held now : List ℕ) (xs ys : List (List ℕ)) → held ≡ start ++ joined xs → now ≡ held ++ joined ys → now ≡ start ++ joined (xs ++ ys)
written_more start held now xs ys e f =
    f ∙ ap (λ z. z ++ joined ys) e ∙ append_assoc start (joined xs) (joined ys) ∙ ap (λ z. start ++ z) (sym (joined_both xs ys))

module _ (all rest : List ℕ → Plan LinkEnd) (used : List ℕ) (k j : Taken) (answers : List (List ℕ)) (c : Carries all rest used k answers) where
  rest_runs : (x : List ℕ) (others : List (List ℕ)) (o : Outcome LinkEnd) → Runs (rest x) (supply_of j) (did j others) o → Runs (all (used ++ x)) (supply_of (taken_both k j)) (did (taken_both k j) (answers ++ others)) o
  rest_runs x others o r = runs_as (all (used ++ x)) (all (used ++ x)) (more (supply_of k) (supply_of j)) (supply_of (taken_both k j)) (both (did k answers) (did j others)) (did (taken_both k j) (answers ++ others)) o
      refl (same_supply k j) (same_did k j answers others) (c.runs x (supply_of j) (did j others) o r)

  rest_begun : (x : List ℕ) (others : List (List ℕ)) → Begun (rest x) (supply_of j) (did j others) → Begun (all (used ++ x)) (supply_of (taken_both k j)) (did (taken_both k j) (answers ++ others))
  rest_begun x others b = begun_as (all (used ++ x)) (all (used ++ x)) (more (supply_of k) (supply_of j)) (supply_of (taken_both k j)) (both (did k answers) (did j others)) (did (taken_both k j) (answers ++ others))
      refl (same_supply k j) (same_did k j answers others) (c.begun x (supply_of j) (did j others) b)

  rest_stands : (At : Plan LinkEnd → Type 0) (x : List ℕ) (others : List (List ℕ)) → Stands At (rest x) (supply_of j) (did j others) → Stands At (all (used ++ x)) (supply_of (taken_both k j)) (did (taken_both k j) (answers ++ others))
  rest_stands At x others s = stands_as At (all (used ++ x)) (all (used ++ x)) (more (supply_of k) (supply_of j)) (supply_of (taken_both k j)) (both (did k answers) (did j others)) (did (taken_both k j) (answers ++ others))
      refl (same_supply k j) (same_did k j answers others) (stands_on At (rest x) (all (used ++ x)) (supply_of k) (supply_of j) (did k answers) (did j others) (c.stands x) s)

  -- the rest was served so, and with what was before it all was
  pub serves_carried : (start : List ℕ) (b : LinkBytes) (end : ServeEnd) → b.held ≡ start ++ joined answers → ServesBy rest b j end → ServesBy all (record { left = used ++ b.left; leaves = b.leaves; held = start; now = b.now }) (taken_both k j) end
  serves_carried start b (ended end) e (others, whole, w) = (answers ++ others, rest_runs b.left others (gave end none_left) whole, written_more start b.held b.now answers others e w)
  serves_carried start b read_fault e (others, came, end, split, whole, part, w) =
      (answers ++ others, used ++ came, end, ap (λ z. used ++ z) split ∙ sym (append_assoc used came b.leaves), rest_runs came others (gave end none_left) whole, rest_begun b.left others part, written_more start b.held b.now answers others e w)
  serves_carried start b write_fault e (others, front, back, part, w) =
      (answers ++ others, front, back, subst (λ (z : List (List ℕ)). Begun (all (used ++ b.left)) (supply_of (taken_both k j)) (did (taken_both k j) z)) (sym (append_assoc answers others ((front ++ back) ∷ []))) (rest_begun b.left (others ++ (front ++ back) ∷ []) part), written_both start b.held b.now answers others front e w)
  serves_carried start b no_memory e (others, part, w) = (answers ++ others, rest_begun b.left others part, written_more start b.held b.now answers others e w)
  serves_carried start b spent e (others, part, w) = (answers ++ others, rest_begun b.left others part, written_more start b.held b.now answers others e w)

  -- and it stopped there
  pub halts_carried : (At : Plan LinkEnd → Type 0) (start : List ℕ) (b : LinkBytes) (end : ServeEnd) → b.held ≡ start ++ joined answers → HaltsBy At rest b j end → HaltsBy At all (record { left = used ++ b.left; leaves = b.leaves; held = start; now = b.now }) (taken_both k j) end
  halts_carried At start b (ended end) e s = tt
  halts_carried At start b read_fault e (others, more_used, came, split, undecided, stands, w) = (
    answers ++ others,
    used ++ more_used,
    came,
    ap (λ z. used ++ z) split ∙ sym (append_assoc used more_used (came ++ b.leaves)),
    undecided,
    λ x. subst (λ (z : List ℕ). Stands (AtBytes x) (all z) (supply_of (taken_both k j)) (did (taken_both k j) (answers ++ others))) (sym (append_assoc used more_used x)) (rest_stands (AtBytes x) (more_used ++ x) others (stands x)),
    written_more start b.held b.now answers others e w,
  )
  halts_carried At start b write_fault e (others, front, back, stands, w) = (answers ++ others, front, back, rest_stands (AtWriting (front ++ back)) b.left others stands, written_both start b.held b.now answers others front e w)
  halts_carried At start b no_memory e (others, stands, w) = (answers ++ others, rest_stands At b.left others stands, written_more start b.held b.now answers others e w)
  halts_carried At start b spent e (others, stands, w) = (answers ++ others, rest_stands At b.left others stands, written_more start b.held b.now answers others e w)
