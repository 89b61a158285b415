-- One event more: what the broker and the answers are then.
use Rattle.std.proofs.Common.{◌≡◌, ℕ, ◌+◌, ◌<◌, ◌≤◌, Bool, true, false, List, [], ◌∷◌, ◌++◌, length, refl, sym, ap, subst, arith, length-append, ◌⊎◌, inl, inr}
use Rattle.std.specs.Prelude.{Option, Some, None, slice_get}
use Rattle.amf_broker.specs.declared.call.Call.{Call}
use Rattle.amf_broker.specs.declared.call.Call.TheVariants.{Connect, PollNumbered}
use Rattle.amf_broker.specs.declared.reply.Delivery.{Delivery}
use Rattle.amf_broker.specs.declared.reply.Answer.{Answer as Told}
use Rattle.amf_broker.specs.State.{State, first}
use Rattle.amf_broker.proofs.Law.{counts}
use Rattle.amf_once.specs.declared.taker.Taken.{Taken}
use Rattle.amf_once.specs.declared.taker.Taken.TheVariants.{New, Old, Ahead}
use Rattle.amf_once.specs.declared.event.Event.{Event}
use Rattle.amf_once.specs.declared.event.Event.TheVariants.{Ask, Arrive, Answer, Other}
use Rattle.amf_once.specs.declared.exchange.Exchange.{Exchange}
use Rattle.amf_once.specs.Taking.{judged, Said, fresh, repeated, other, says}
use Rattle.amf_once.specs.Hearing.{Below, AllSay}
use Rattle.amf_once.specs.Course.{Course, start, took, heard, answered, arrived, called, is_barred, step, run}
use Rattle.amf_once.specs.Shown.{Shows}
use Rattle.amf_once.proofs.Answering.{all_weaken}
use Rattle.amf_once.proofs.Stands.{Near, Level, Waits}
use Rattle.amf_once.proofs.OnceLaw.{stands, few_asked}

pub run-more : (es : List Event) (e : Event) (w : Course) → run (es ++ (e ∷ [])) w ≡ step e (run es w)
run-more [] e w = refl
run-more (x ∷ es) e w = run-more es e (step x w)

-- An event makes one call at most.

took-state : (t : Taken) (ds : List Delivery) (w : Course) → (took t ds w).state ≡ w.state
took-state New ds w = refl
took-state Old ds w = refl
took-state Ahead ds w = refl

heard-state : (x : Said) (w : Course) → (heard x w).state ≡ w.state
heard-state (fresh n ds) w = took-state (judged w.asks n) ds w
heard-state (repeated n ds) w = took-state (judged w.asks n) ds w
heard-state other w = refl

arrived-calls : (m : ℕ) (o : Option ℕ) (w : Course) → (arrived m o w).state.calls ≤ w.state.calls + 1
arrived-calls m None w = omega arith
arrived-calls m (Some n) w = let one = counts w.state m (PollNumbered 1 n) in omega arith

answered-calls : (o : Option Told) (w : Course) → (answered o w).state.calls ≤ w.state.calls + 1
answered-calls None w = omega arith
answered-calls (Some a) w = let same = ap (λ (s : State). s.calls) (heard-state (says a.reply) w) in omega arith

called-calls : (m : ℕ) (c : Call) (b : Bool) (w : Course) → (called m c b w).state.calls ≤ w.state.calls + 1
called-calls m c true w = omega arith
called-calls m c false w = let one = counts w.state m c in omega arith

step-calls : (e : Event) (w : Course) → (step e w).state.calls ≤ w.state.calls + 1
step-calls Ask w = omega arith
step-calls (Arrive m k) w = arrived-calls m (slice_get w.requests k) w
step-calls (Answer k) w = answered-calls (slice_get w.answers k) w
step-calls (Other m c) w = called-calls m c (is_barred 1 c) w

run-calls : (es : List Event) (w : Course) → (run es w).state.calls ≤ w.state.calls + length es
run-calls [] w = omega arith
run-calls (e ∷ es) w = let one = step-calls e w in let more = run-calls es (step e w) in omega arith

start-calls : (names : List (List ℕ)) → (start names).state.calls ≡ 1
unfolding first
start-calls names = counts (first names) 0 Connect

-- No answer has a number that is not asked yet.

form-below : (w : Course) (n : ℕ) → w.asks < n → Level 0 w ⊎ Waits 0 w → AllSay (Below n) w.answers
form-below w n less (inl l) = all_weaken (Below w.asks) (Below n) w.answers far l.answers
  where
    far : (x : Said) → Below w.asks x → Below n x
    far (fresh k ds) b = omega arith
    far (repeated k ds) b = omega arith
    far other b = tt
form-below w n less (inr l) = all_weaken (Near w.asks l.batch) (Below n) w.answers far l.answers
  where
    far : (x : Said) → Near w.asks l.batch x → Below n x
    far (fresh k ds) (inl b) = omega arith
    far (fresh k ds) (inr e) = let is = e.0 in omega arith
    far (repeated k ds) (inl b) = omega arith
    far (repeated k ds) (inr e) = let is = e.0 in omega arith
    far other b = tt

-- What the next event asks of an exchange.

pub calls_fit : (names : List (List ℕ)) (es later all : List Event) (b : Exchange) → es ++ later ≡ all → length all < 4294967296 → Shows b (run es (start names)) → b.broker.calls < 4611686018427387904
calls_fit names es later all b parts few s =
    let more = run-calls es (start names) in
    let one = start-calls names in
    let both = length-append es later in
    let whole = ap (λ (xs : List Event). length xs) parts in
    let less : (run es (start names)).state.calls < 4611686018427387904 = omega arith in
    subst (λ (t : State). t.calls < 4611686018427387904) (sym s.state) less

pub answers_fit : (names : List (List ℕ)) (es later all : List Event) (b : Exchange) → es ++ later ≡ all → length all < 4294967296 → Shows b (run es (start names)) → AllSay (Below 4611686018427387904) b.answers.items
answers_fit names es later all b parts few s =
    let w = run es (start names) in
    let asked = few_asked names es in
    let both = length-append es later in
    let whole = ap (λ (xs : List Event). length xs) parts in
    let less : w.asks < 4611686018427387904 = omega arith in
    subst (λ (l : List Told). AllSay (Below 4611686018427387904) l) (sym s.answers) (form-below w 4611686018427387904 less (stands 0 names es).form)
