-- What a link is answered is a function of its arguments, and what was done of it so far is a beginning of that.
use Rattle.std.specs.Prelude.{◌≡◌, ℕ, List, ◌++◌}
use Rattle.std.specs.List.{AllByRecursion}
use Rattle.amf_service.specs.Meaning.{IsLawful}
use Rattle.amf_service.specs.Registry.{Entry}
use Rattle.amf_answer_plan.specs.Begun.{Begun}
use Rattle.amf_answer_plan.specs.Links.{link}
use Rattle.amf_answer_plan.specs.Respond.{Responded, Responds}
use Rattle.amf_answer_plan.specs.Runs.{Supply, Done}

-- each service gives isomorphic results for isomorphic arguments
abbrev pub AreLawful : List Entry → Type 0
AreLawful services = AllByRecursion (λ e. IsLawful e.means.gives) services

-- whichever graphs the code makes of what it reads, the calls, the answers and the end are the same
abbrev pub AnswersAreFixed : Type 0
AnswersAreFixed = (services : List Entry) → AreLawful services → (bytes : List ℕ) (s : Supply) (t u : Responded) → Responds services bytes s t → Responds services bytes s u → t ≡ u

-- the second list begins with the first
abbrev pub IsBeginning : {X : Type 0} → List X → List X → Type 0
IsBeginning {X} xs ys = (rest : List X) × (ys ≡ xs ++ rest)

-- the calls so far are the first calls, and the answers so far the first answers
abbrev pub BegunIsBeginning : Type 0
BegunIsBeginning =
    (services : List Entry) → AreLawful services → (bytes : List ℕ) (s : Supply) (d : Done) (t : Responded) → Begun (link services bytes) s d → Responds services bytes s t →
    IsBeginning d.calls t.calls × IsBeginning d.answers t.answers
