-- A device of proofs: what a plan came to between two states of the outside, and how much of one was begun.
use Rattle.std.specs.Prelude.{◌≡◌, ℕ, ◌||◌, Bool, true, false, [], ◌∷◌, ◌++◌, ⊤}
use Rattle.amf_broker.specs.History.{Entry as Event}
use Rattle.amf_answer_plan.specs.Plan.{Plan}
use Rattle.amf_answer_plan.specs.Runs.{gave, Runs}
use Rattle.amf_answer_plan.specs.Serving.{Taken, supply_of, did, none_left}
use Rattle.amf_answer_plan.specs.Stands.{Stands, AtCall}

abbrev pub taken_none : Taken
taken_none = record { moments = []; words = []; entries = [] }

abbrev pub taken_both : Taken → Taken → Taken
taken_both k l = record { moments = k.moments ++ l.moments; words = k.words ++ l.words; entries = k.entries ++ l.entries }

-- What was handed over, and whether a call had no answer.
pub record Drawn : Type 0 where
  pub taken : Taken
  pub unanswered : Bool

-- Nothing; one moment, word or entry; a call without an answer; and one thing after another.

abbrev pub none_taken : Drawn
none_taken = record { taken = taken_none; unanswered = false }

abbrev pub moment_taken : ℕ → Drawn
moment_taken m = record { taken = record { moments = m ∷ []; words = []; entries = [] }; unanswered = false }

abbrev pub word_taken : ℕ → Drawn
word_taken w = record { taken = record { moments = []; words = w ∷ []; entries = [] }; unanswered = false }

abbrev pub entry_taken : Event → Drawn
entry_taken e = record { taken = record { moments = []; words = []; entries = e ∷ [] }; unanswered = false }

abbrev pub no_answer : Drawn
no_answer = record { taken = taken_none; unanswered = true }

abbrev pub both_taken : Drawn → Drawn → Drawn
both_taken k l = record { taken = taken_both k.taken l.taken; unanswered = k.unanswered || l.unanswered }

-- between these states, all of the plan was done with what was handed over, and it gave this
pub record Ran {O Y : Type 0} (handed : O → O → Drawn → Type 0) (p : Plan Y) (old new : O) (y : Y) : Type 0 where
  pub took : Drawn
  pub was_handed : handed old new took
  pub answered : took.unanswered ≡ false
  pub runs : Runs p (supply_of took.taken) (did took.taken []) (gave y none_left)

-- where a plan may stop: at a call, if one had no answer
abbrev pub StopsAt : {X : Type 0} → (unanswered : Bool) → Plan X → Type 0
StopsAt true p = AtCall p
StopsAt false p = ⊤

-- or some first steps of it
pub record Stopped {O Y : Type 0} (handed : O → O → Drawn → Type 0) (p : Plan Y) (old new : O) : Type 0 where
  pub took : Drawn
  pub was_handed : handed old new took
  pub stands : Stands (StopsAt took.unanswered) p (supply_of took.taken) (did took.taken [])
