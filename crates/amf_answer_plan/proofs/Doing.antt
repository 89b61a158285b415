-- One plan after another, by what was handed over.
use Rattle.std.proofs.Common.{◌≡◌, ◌∙◌, ℕ, ◌||◌, Bool, false, List, [], ◌∷◌, ◌++◌, map, refl, sym, ap, subst, inl, Result, Ok, Err, OnErr}
use Rattle.std.proofs.lemmas.List.{map-append}
use Rattle.amf_broker.specs.declared.call.Call.{Call}
use Rattle.amf_broker.specs.declared.reply.Reply.{Reply as Replied}
use Rattle.amf_broker.specs.History.{Entry as Event}
use Rattle.amf_answer_plan.specs.Did.{taken_both, Drawn, none_taken, moment_taken, entry_taken, no_answer, both_taken, Ran, StopsAt, Stopped}
use Rattle.amf_answer_plan.specs.Plan.{Plan, ◌>>=◌, moment, reply_to}
use Rattle.amf_answer_plan.specs.Replies.{fresh}
use Rattle.amf_answer_plan.specs.Runs.{Supply, Done, nothing, and_call, Outcome, gave, Runs}
use Rattle.amf_answer_plan.specs.Serving.{Taken, supply_of, did, none_left, more}
use Rattle.amf_answer_plan.specs.Stands.{Stands}
use Rattle.amf_answer_plan.proofs.Composed.{both, runs_then, runs_more}
use Rattle.amf_answer_plan.proofs.Standing.{at_none, stands_then, stands_first}

replies_of : List Event → List Replied
replies_of es = map (λ e. e.answer.reply) es

same_supply : (k l : Taken) → more (supply_of k) (supply_of l) ≡ supply_of (taken_both k l)
same_supply k l = ap (λ (rs : List Replied). record { moments = k.moments ++ l.moments; words = k.words ++ l.words; replies = rs }) (sym (map-append (λ e. e.answer.reply) k.entries l.entries))

same_did : (k l : Taken) → both (did k []) (did l []) ≡ did (taken_both k l) []
same_did k l = ap (λ (cs : List (ℕ × Call)). record { calls = cs; answers = [] }) (sym (map-append (λ e. (e.moment, e.call)) k.entries l.entries))

runs_both : {X Y : Type 0} (p : Plan X) (f : X → Plan Y) (k l : Taken) (x : X) (o : Outcome Y) → Runs p (supply_of k) (did k []) (gave x none_left) → Runs (f x) (supply_of l) (did l []) o → Runs (◌>>=◌ p f) (supply_of (taken_both k l)) (did (taken_both k l) []) o
runs_both p f k l x o a b =
    let r = runs_then p f (more (supply_of k) (supply_of l)) (supply_of l) (did k []) (did l []) x o (runs_more p (supply_of k) none_left (supply_of l) (did k []) x a) b in
    subst (λ (s : Supply). Runs (◌>>=◌ p f) s (did (taken_both k l) []) o) (same_supply k l) (subst (λ (d : Done). Runs (◌>>=◌ p f) (more (supply_of k) (supply_of l)) d o) (same_did k l) r)

stands_both : {X Y : Type 0} (At : Plan Y → Type 0) (p : Plan X) (f : X → Plan Y) (k l : Taken) (x : X) → Runs p (supply_of k) (did k []) (gave x none_left) → Stands At (f x) (supply_of l) (did l []) → Stands At (◌>>=◌ p f) (supply_of (taken_both k l)) (did (taken_both k l) [])
stands_both At p f k l x a b =
    let r = stands_then At p f (more (supply_of k) (supply_of l)) (supply_of l) (did k []) (did l []) x (runs_more p (supply_of k) none_left (supply_of l) (did k []) x a) b in
    subst (λ (s : Supply). Stands At (◌>>=◌ p f) s (did (taken_both k l) [])) (same_supply k l) (subst (λ (d : Done). Stands At (◌>>=◌ p f) (more (supply_of k) (supply_of l)) d) (same_did k l) r)

-- The laws of what is handed over.

abbrev pub HandsNone : {O : Type 0} → (O → O → Drawn → Type 0) → Type 0
HandsNone {O} handed = (a : O) → handed a a none_taken

abbrev pub HandsBoth : {O : Type 0} → (O → O → Drawn → Type 0) → Type 0
HandsBoth {O} handed = (a b c : O) (k l : Drawn) → handed a b k → handed b c l → handed a c (both_taken k l)

-- so much handed over between two states, and more after it
pub ran_then : {O X Y : Type 0} (handed : O → O → Drawn → Type 0) → HandsBoth handed → (p : Plan X) (f : X → Plan Y) (a b c : O) (x : X) (y : Y) → Ran handed p a b x → Ran handed (f x) b c y → Ran handed (◌>>=◌ p f) a c y
ran_then handed hands p f a b c x y r s = record {
  took = both_taken r.took s.took;
  was_handed = hands a b c r.took s.took r.was_handed s.was_handed;
  answered = λ i. r.answered i || s.answered i;
  runs = runs_both p f r.took.taken s.took.taken x (gave y none_left) r.runs s.runs;
}

pub stopped_then : {O X Y : Type 0} (handed : O → O → Drawn → Type 0) → HandsBoth handed → (p : Plan X) (f : X → Plan Y) (a b c : O) (x : X) → Ran handed p a b x → Stopped handed (f x) b c → Stopped handed (◌>>=◌ p f) a c
stopped_then handed hands p f a b c x r s = record {
  took = both_taken r.took s.took;
  was_handed = hands a b c r.took s.took r.was_handed s.was_handed;
  stands = subst (λ (u : Bool). Stands (StopsAt (u || s.took.unanswered)) (◌>>=◌ p f) (supply_of (taken_both r.took.taken s.took.taken)) (did (taken_both r.took.taken s.took.taken) [])) (sym r.answered) (stands_both (StopsAt s.took.unanswered) p f r.took.taken s.took.taken x r.runs s.stands);
}

pub stopped_first : {O X Y : Type 0} (handed : O → O → Drawn → Type 0) (p : Plan X) (f : X → Plan Y) (a b : O) → Stopped handed p a b → Stopped handed (◌>>=◌ p f) a b
stopped_first handed p f a b s = record { took = s.took; was_handed = s.was_handed; stands = stands_first s.took.unanswered p f (supply_of s.took.taken) (did s.took.taken []) s.stands }

-- nothing was done yet
pub not_begun : {O Y : Type 0} (handed : O → O → Drawn → Type 0) → HandsNone handed → (p : Plan Y) (a : O) → Stopped handed p a a
not_begun handed none p a = record { took = none_taken; was_handed = none a; stands = at_none (StopsAt false) p tt }

-- all of the first was done, and nothing of what follows
pub stopped_between : {O X Y : Type 0} (handed : O → O → Drawn → Type 0) → HandsNone handed → HandsBoth handed → (p : Plan X) (f : X → Plan Y) (a b : O) (x : X) → Ran handed p a b x → Stopped handed (◌>>=◌ p f) a b
stopped_between handed none hands p f a b x r = stopped_then handed hands p f a b b x r (not_begun handed none (f x) b)

-- what takes nothing
pub ran_nothing : {O Y : Type 0} (handed : O → O → Drawn → Type 0) → HandsNone handed → (p : Plan Y) (a : O) (y : Y) → Runs p none_left nothing (gave y none_left) → Ran handed p a a y
ran_nothing handed none p a y r = record { took = none_taken; was_handed = none a; answered = refl; runs = r }

-- What is said at an error, whichever it is.
pub at_err : {T E P : Type 0} (r : Result T E) → P → OnErr r P
at_err (Ok x) p = tt
at_err (Err e) p = p

-- What a call does.

pub same_step : (m n : ℕ) (c d : Call) → m ≡ n → c ≡ d → record { calls = (m, c) ∷ []; answers = [] } ≡ and_call n d nothing
same_step m n c d e f = ap (λ (z : ℕ). and_call z c nothing) e ∙ ap (λ (z : Call). and_call n z nothing) f

-- A call whose moment was taken before.

pub replied_ran : {O : Type 0} (handed : O → O → Drawn → Type 0) (a b : O) (m : ℕ) (call : Call) (e : Event) (r : Replied) → handed a b (entry_taken e) → e.moment ≡ m → e.call ≡ call → e.answer.reply ≡ r → Ran handed (reply_to m call) a b r
replied_ran handed a b m call e r given same_moment same_call same_reply = record {
  took = entry_taken e;
  was_handed = given;
  answered = refl;
  runs = (nothing, (refl, ap (λ (z : Replied). gave z none_left) (sym same_reply)), same_step e.moment m e.call call same_moment same_call);
}

pub replied_stopped : {O : Type 0} (handed : O → O → Drawn → Type 0) (a b : O) (m : ℕ) (call : Call) → handed a b no_answer → Stopped handed (reply_to m call) a b
replied_stopped handed a b m call given = record { took = no_answer; was_handed = given; stands = inl (record { at = tt; none = refl; no_more = refl }) }

-- A moment alone.

pub moment_ran : {O : Type 0} (handed : O → O → Drawn → Type 0) (a b : O) (m : ℕ) → handed a b (moment_taken m) → Ran handed moment a b m
moment_ran handed a b m given = record { took = moment_taken m; was_handed = given; answered = refl; runs = (refl, refl) }
