-- From what was read of a link and what was written to what a step came to.
use Rattle.std.proofs.Common.{◌≡◌, ◌∙◌, ℕ, Bool, true, false, List, [], ◌∷◌, ◌++◌, take, drop, Result, Ok, Err, refl, sym, ap, subst, inr, append-nil}
use Rattle.std.proofs.lemmas.List.{take-append-drop}
use Rattle.amf_http.specs.declared.ends.AnswerEnd.{AnswerEnd}
use Rattle.amf_http.specs.declared.ends.AnswerEnd.TheVariants as unwritten_by
use Rattle.amf_http.specs.Response.{response, Writes}
use Rattle.http_link.specs.Sent.{AddsFront}
use Rattle.amf_service.specs.Registry.{Entry}
use Rattle.amf_gateway.specs.declared.links.Answer.{Answer}
use Rattle.amf_gateway.specs.declared.links.Answer.TheVariants.{Packet, Status}
use Rattle.amf_gateway.specs.declared.links.LinkEnd.{LinkEnd as Ending}
use Rattle.amf_gateway.specs.declared.links.LinkEnd.TheVariants.{Closed, Refused, Truncated, ReadFault, WriteFault, Spent, Memory}
use Rattle.amf_gateway.specs.Answering.{Next, over, status_alone, packet, next, goes_on, one_more}
use Rattle.amf_answer_plan.specs.Begun.{Begun}
use Rattle.amf_answer_plan.specs.Links.{LinkEnd, closed, refused, truncated, closed_or}
use Rattle.amf_gateway.specs.LinkSteps.{AnswersRequest, AnsweredBy, Gives, Begins, Pauses, ComesBy, Comes, CountsReads, StepsBy, Steps, written_as, ends_with, unwritten}
use Rattle.amf_gateway.specs.ServesLink.{end_of, CountsLink}
use Rattle.amf_answer_plan.specs.Stands.{Stands, AtWriting, AtBytes}
use Rattle.amf_answer_plan.specs.Plan.{Plan}
use Rattle.amf_answer_plan.specs.Respond.{joined}
use Rattle.amf_answer_plan.specs.Runs.{Done, nothing, and_answer, gave, Runs}
use Rattle.amf_answer_plan.specs.Serving.{LinkBytes, Taken, supply_of, did, none_left}
use Rattle.amf_answer_plan.specs.Did.{Drawn, taken_none, StopsAt}
use Rattle.amf_answer_plan.proofs.Composed.{both, runs_then, begun_first, begun_then, none_begun, runs_begun}
use Rattle.amf_answer_plan.proofs.Standing.{at_none, stands_then, stands_first, stands_begun}

module _ (services : List Entry) (last : Bool) (after : List ℕ → Plan LinkEnd) (bytes : List ℕ) (k : Taken) where
  -- the link ended before an answer
  over_runs : (end : LinkEnd) → Gives services last bytes k (over end) → Runs (one_more services last after bytes) (supply_of k) (did k []) (gave end none_left)
  over_runs end g = subst (λ (d : Done). Runs (one_more services last after bytes) (supply_of k) d (gave end none_left)) (λ i. record { calls = append-nil (did k []).calls i; answers = [] })
      (runs_then (next services last bytes) (goes_on after) (supply_of k) none_left (did k []) nothing (over end) (gave end none_left) g (refl, refl))

  begins_more : Begins services last bytes k → Begun (one_more services last after bytes) (supply_of k) (did k [])
  begins_more b = begun_first (next services last bytes) (goes_on after) (supply_of k) (did k []) b

  -- an answer was made, and none or all of it was written
  answer_done : (answer : List ℕ) → both (did k []) (and_answer answer nothing) ≡ did k (answer ∷ [])
  answer_done answer = λ i. record { calls = append-nil (did k []).calls i; answers = answer ∷ [] }

  written_begun : (n : Next) (answer : List ℕ) → Gives services last bytes k n → Begun (goes_on after n) none_left (and_answer answer nothing) → Begun (one_more services last after bytes) (supply_of k) (did k (answer ∷ []))
  written_begun n answer g b = subst (λ (d : Done). Begun (one_more services last after bytes) (supply_of k) d) (answer_done answer)
      (begun_then (next services last bytes) (goes_on after) (supply_of k) none_left (did k []) (and_answer answer nothing) n g b)

  unwritten_begun : (n : Next) → Gives services last bytes k n → Begun (one_more services last after bytes) (supply_of k) (did k [])
  unwritten_begun n g = begins_more (runs_begun (next services last bytes) (supply_of k) (did k []) (gave n none_left) g)

  written_runs : (n : Next) (answer : List ℕ) (end : LinkEnd) → Gives services last bytes k n → Runs (goes_on after n) none_left (and_answer answer nothing) (gave end none_left) → Runs (one_more services last after bytes) (supply_of k) (did k (answer ∷ [])) (gave end none_left)
  written_runs n answer end g r = subst (λ (d : Done). Runs (one_more services last after bytes) (supply_of k) d (gave end none_left)) (answer_done answer)
      (runs_then (next services last bytes) (goes_on after) (supply_of k) none_left (did k []) (and_answer answer nothing) n (gave end none_left) g r)

  -- an answer was made, and the plan stands where what comes of it does
  next_stands : (At : Plan LinkEnd → Type 0) (n : Next) → Gives services last bytes k n → Stands At (goes_on after n) none_left nothing → Stands At (one_more services last after bytes) (supply_of k) (did k [])
  next_stands At n g b = subst (λ (d : Done). Stands At (one_more services last after bytes) (supply_of k) d) (λ i. record { calls = append-nil (did k []).calls i; answers = [] })
      (stands_then At (next services last bytes) (goes_on after) (supply_of k) none_left (did k []) nothing n g b)

  -- nothing was taken, and what follows is looked at
  none_stands : k ≡ taken_none → Stands (AtBytes bytes) (one_more services last after bytes) (supply_of k) (did k [])
  none_stands same = subst (λ (j : Taken). Stands (AtBytes bytes) (one_more services last after bytes) (supply_of j) (did j [])) (sym same) (at_none (AtBytes bytes) (one_more services last after bytes) refl)

-- it stopped before an answer
pauses_more : (services : List Entry) (last : Bool) (after : List ℕ → Plan LinkEnd) (bytes : List ℕ) (k : Drawn) → Pauses services last bytes k → Stands (StopsAt k.unanswered) (one_more services last after bytes) (supply_of k.taken) (did k.taken [])
pauses_more services last after bytes k p = stands_first k.unanswered (next services last bytes) (goes_on after) (supply_of k.taken) (did k.taken []) p

-- where each call had an answer, a plan may stop anywhere
stops_anywhere : {X : Type 0} (unanswered : Bool) (p : Plan X) → unanswered ≡ false → StopsAt unanswered p
stops_anywhere unanswered p e = subst (λ (u : Bool). StopsAt u p) (sym e) tt

held_still : (held now : List ℕ) → now ≡ held → now ≡ held ++ []
held_still held now e = e ∙ sym (append-nil held)

-- the link ended before an answer, or the answer could not be made
pub unanswered_steps : (services : List Entry) (last : Bool) (b : LinkBytes) (rest : List ℕ) (k : Drawn) (end : Ending) → ComesBy services last b.left rest b.leaves k (Err end) → b.now ≡ b.held → StepsBy services last b rest k (Err end)
unanswered_steps services last b rest k Closed c e after = (([], over_runs services last after b.left k.taken closed c, held_still b.held b.now e), tt)
unanswered_steps services last b rest k Truncated c e after = (([], over_runs services last after b.left k.taken truncated c, held_still b.held b.now e), tt)
unanswered_steps services last b rest k ReadFault (came, end, split, g, p, undecided, none) e after = (
  ([], came, end, split, over_runs services last after came k.taken end g, begins_more services last after b.left k.taken p, held_still b.held b.now e),
  ([], [], came, split, undecided, λ x. none_stands services last after x k.taken (ap (λ (d : Drawn). d.taken) none), held_still b.held b.now e),
)
unanswered_steps services last b rest k Spent c e after = let s = pauses_more services last after b.left k c in (([], stands_begun (StopsAt k.unanswered) (one_more services last after b.left) (supply_of k.taken) (did k.taken []) s, held_still b.held b.now e), ([], s, held_still b.held b.now e))
unanswered_steps services last b rest k Memory c e after = let s = pauses_more services last after b.left k c in (([], stands_begun (StopsAt k.unanswered) (one_more services last after b.left) (supply_of k.taken) (did k.taken []) s, held_still b.held b.now e), ([], s, held_still b.held b.now e))
unanswered_steps services last b rest k (Refused status) c e after = absurd c
unanswered_steps services last b rest k WriteFault c e after = absurd c

one_answer : (answer : List ℕ) → joined (answer ∷ []) ≡ answer
one_answer answer = append-nil answer

-- the answer that was made, as the plan has it
pub unwritten_steps : (services : List Entry) (last : Bool) (b : LinkBytes) (rest : List ℕ) (k : Drawn) (a : Answer) → k.unanswered ≡ false → ComesBy services last b.left rest b.leaves k (Ok a) → b.now ≡ b.held → StepsBy services last b rest k (Err Memory)
unwritten_steps services last b rest k (Packet bytes close) all (used, split, g) e after =
    let n = packet bytes.items close rest in
    let here = subst (λ (z : List ℕ). Gives services last z k.taken n) (sym split) (g rest) in (
      ([], unwritten_begun services last after b.left k.taken n here, held_still b.held b.now e),
      ([], next_stands services last after b.left k.taken (StopsAt k.unanswered) n here (at_none (StopsAt k.unanswered) (goes_on after n) (stops_anywhere k.unanswered (goes_on after n) all)), held_still b.held b.now e),
    )
unwritten_steps services last b rest k (Status status) all c e after =
    let n = status_alone status in (
      ([], unwritten_begun services last after b.left k.taken n c, held_still b.held b.now e),
      ([], next_stands services last after b.left k.taken (StopsAt k.unanswered) n c (at_none (StopsAt k.unanswered) (goes_on after n) (stops_anywhere k.unanswered (goes_on after n) all)), held_still b.held b.now e),
    )

pub faulty_steps : (services : List Entry) (last : Bool) (b : LinkBytes) (rest : List ℕ) (k : Drawn) (a : Answer) → ComesBy services last b.left rest b.leaves k (Ok a) → AddsFront b.held b.now (written_as a) → StepsBy services last b rest k (Err WriteFault)
faulty_steps services last b rest k (Packet bytes close) (used, split, g) f after =
    let answer = response 200 bytes.items close in
    let here = subst (λ (z : List ℕ). Gives services last z k.taken (packet bytes.items close rest)) (sym split) (g rest) in
    let whole = take-append-drop f.count answer in (
      (
        [],
        take f.count answer,
        drop f.count answer,
        subst (λ (z : List ℕ). Begun (one_more services last after b.left) (supply_of k.taken) (did k.taken (z ∷ []))) (sym whole)
            (written_begun services last after b.left k.taken (packet bytes.items close rest) answer here (inr (nothing, none_begun (closed_or close (after rest)) none_left nothing refl, refl))),
        f.added,
      ),
      (
        [],
        take f.count answer,
        drop f.count answer,
        next_stands services last after b.left k.taken (AtWriting (take f.count answer ++ drop f.count answer)) (packet bytes.items close rest) here
            (at_none (AtWriting (take f.count answer ++ drop f.count answer)) (goes_on after (packet bytes.items close rest)) (sym whole)),
        f.added,
      ),
    )
faulty_steps services last b rest k (Status status) c f after =
    let answer = response status [] true in
    let whole = take-append-drop f.count answer in (
      (
        [],
        take f.count answer,
        drop f.count answer,
        subst (λ (z : List ℕ). Begun (one_more services last after b.left) (supply_of k.taken) (did k.taken (z ∷ []))) (sym whole)
            (written_begun services last after b.left k.taken (status_alone status) answer c (inr (nothing, refl, refl))),
        f.added,
      ),
      (
        [],
        take f.count answer,
        drop f.count answer,
        next_stands services last after b.left k.taken (AtWriting (take f.count answer ++ drop f.count answer)) (status_alone status) c
            (at_none (AtWriting (take f.count answer ++ drop f.count answer)) (goes_on after (status_alone status)) (sym whole)),
        f.added,
      ),
    )

pub answered_steps : (services : List Entry) (last : Bool) (b : LinkBytes) (rest : List ℕ) (k : Drawn) (a : Answer) → ComesBy services last b.left rest b.leaves k (Ok a) → b.now ≡ b.held ++ written_as a → StepsBy services last b rest k (ends_with a)
answered_steps services last b rest k (Packet bytes false) (used, split, g) e = (used, bytes.items, split, g, e)
answered_steps services last b rest k (Packet bytes true) (used, split, g) e = λ after.
    let answer = response 200 bytes.items true in
    let here = subst (λ (z : List ℕ). Gives services last z k.taken (packet bytes.items true rest)) (sym split) (g rest) in
    ((answer ∷ [], written_runs services last after b.left k.taken (packet bytes.items true rest) answer closed here (nothing, (refl, refl), refl), e ∙ ap (λ (z : List ℕ). b.held ++ z) (sym (one_answer answer))), tt)
answered_steps services last b rest k (Status status) c e = λ after.
    let answer = response status [] true in
    ((answer ∷ [], written_runs services last after b.left k.taken (status_alone status) answer (refused status) c (nothing, (refl, refl), refl), e ∙ ap (λ (z : List ℕ). b.held ++ z) (sym (one_answer answer))), tt)

-- each call had an answer, whether the link goes on or not
goes_answered : (a : Answer) (unanswered : Bool) → unanswered ≡ false → AnsweredBy (ends_with a) unanswered
goes_answered (Packet bytes false) unanswered e = e
goes_answered (Packet bytes true) unanswered e = e
goes_answered (Status status) unanswered e = e

-- With what was handed over. Writing leaves what the link has left as it was.

module _ {O : Type 0} (handed : O → O → Drawn → Type 0) (services : List Entry) (last : Bool) (old new : O) (tells_left tells_held : Type 0) (bytes keeps leaves held now : List ℕ) where
  pub stepped_none : (end : Ending) → Comes handed services last old new tells_left bytes (keeps ++ leaves) leaves (Err end) → (tells_held → now ≡ held)
      → Steps handed services last old new tells_left tells_held (record { left = bytes; leaves = leaves; held = held; now = now }) (keeps ++ leaves) (Err end)
  stepped_none end c same = record {
    took = c.took;
    was_handed = c.was_handed;
    answered = c.answered;
    steps = λ t h. unanswered_steps services last (record { left = bytes; leaves = leaves; held = held; now = now }) (keeps ++ leaves) c.took end (c.comes t) (same h);
  }

  module _ (a : Answer) (read_leaves read_held : List ℕ) (c : Comes handed services last old new tells_left bytes (keeps ++ read_leaves) read_leaves (Ok a)) (same_left : tells_left → leaves ≡ read_leaves) (same_held : tells_held → read_held ≡ held) where
    answer_comes : tells_left → ComesBy services last bytes (keeps ++ leaves) leaves c.took (Ok a)
    answer_comes t = subst (λ (l : List ℕ). ComesBy services last bytes (keeps ++ l) l c.took (Ok a)) (sym (same_left t)) (c.comes t)

    abbrev Bytes : LinkBytes
    Bytes = record { left = bytes; leaves = leaves; held = held; now = now }

    pub stepped_unwritten : (e : AnswerEnd) → (tells_held → Writes read_held now (written_as a) (Err e)) → Steps handed services last old new tells_left tells_held Bytes (keeps ++ leaves) (Err (unwritten e))
    stepped_unwritten unwritten_by.WriteFault w = record {
      took = c.took;
      was_handed = c.was_handed;
      answered = c.answered;
      steps = λ t h. faulty_steps services last Bytes (keeps ++ leaves) c.took a (answer_comes t) (subst (λ (l : List ℕ). AddsFront l now (written_as a)) (same_held h) (w h));
    }
    stepped_unwritten unwritten_by.Memory w = record {
      took = c.took;
      was_handed = c.was_handed;
      answered = tt;
      steps = λ t h. unwritten_steps services last Bytes (keeps ++ leaves) c.took a c.answered (answer_comes t) (w h ∙ same_held h);
    }

    pub stepped_written : (tells_held → now ≡ read_held ++ written_as a) → Steps handed services last old new tells_left tells_held Bytes (keeps ++ leaves) (ends_with a)
    stepped_written w = record {
      took = c.took;
      was_handed = c.was_handed;
      answered = goes_answered a c.took.unanswered c.answered;
      steps = λ t h. answered_steps services last Bytes (keeps ++ leaves) c.took a (answer_comes t) (subst (λ (l : List ℕ). now ≡ l ++ written_as a) (same_held h) (w h));
    }

-- The counts.

pub counts_none : (reads reads_now writes writes_now : ℕ) (end : Ending) → CountsReads reads reads_now (Err end) → writes_now ≡ writes → CountsLink reads reads_now writes writes_now (end_of end)
counts_none reads reads_now writes writes_now Closed c w = (c, w)
counts_none reads reads_now writes writes_now (Refused status) c w = (c, w)
counts_none reads reads_now writes writes_now Truncated c w = (c, w)
counts_none reads reads_now writes writes_now ReadFault c w = (c.0, c.1, w)
counts_none reads reads_now writes writes_now WriteFault c w = absurd c
counts_none reads reads_now writes writes_now Spent c w = (c, w)
counts_none reads reads_now writes writes_now Memory c w = (c, w)

pub counts_request : {O : Type 0} (handed : O → O → Drawn → Type 0) (services : List Entry) (body : List ℕ) (close : Bool) (old new : O) (reads reads_now : ℕ) (r : Result Answer Ending) → AnswersRequest handed services body close old new r → reads_now ≡ reads → CountsReads reads reads_now r
counts_request handed services body close old new reads reads_now (Ok a) s e = e
counts_request handed services body close old new reads reads_now (Err Closed) s e = e
counts_request handed services body close old new reads reads_now (Err (Refused status)) s e = e
counts_request handed services body close old new reads reads_now (Err Truncated) s e = e
counts_request handed services body close old new reads reads_now (Err ReadFault) s e = absurd s
counts_request handed services body close old new reads reads_now (Err WriteFault) s e = absurd s
counts_request handed services body close old new reads reads_now (Err Spent) s e = e
counts_request handed services body close old new reads reads_now (Err Memory) s e = e
