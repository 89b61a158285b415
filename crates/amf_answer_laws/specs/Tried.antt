-- A plan computed, where what is spelled and read is given: by this worked facts are decided.
use Rattle.std.specs.Prelude.{◌≡◌, ℕ, List, [], ◌∷◌, Option}
use Rattle.amf_broker.specs.declared.call.Call.{Call}
use Rattle.amf_graph.specs.Graph.{Graph}
use Rattle.amf_packet.specs.Packet.{Packet}
use Rattle.amf_answer_plan.specs.Links.{LinkEnd}
use Rattle.amf_answer_plan.specs.Plan.{Spelling, Cut, Plan, gives, takes_moment, takes_word, calls, spells, reads, cuts, unpacks, packs, writes}
use Rattle.amf_answer_plan.specs.Runs.{IsSpelling, IsUnpacked, IsPacked, IsStored, IsCut, Finds, Supply, Done, nothing, and_call, and_answer, Outcome, gave, ran_out, Runs}

-- what each step is to get
pub record Answers : Type 0 where
  pub spelled : Spelling → Graph → Option (List ℕ)
  pub stored : List ℕ → Option Graph
  pub cut : List ℕ → Cut
  pub unpacked : List ℕ → Option Packet
  pub packed : Packet → List ℕ

-- what was done and how it ended
pub record Tried (X : Type 0) : Type 0 where
  pub did : Done
  pub outcome : Outcome X

abbrev pub tells : {X : Type 0} → Outcome X → Tried X
tells o = record { did = nothing; outcome = o }

abbrev pub called : {X : Type 0} → ℕ → Call → Tried X → Tried X
called at call t = record { did = and_call at call t.did; outcome = t.outcome }

abbrev pub answered : {X : Type 0} → List ℕ → Tried X → Tried X
answered answer t = record { did = and_answer answer t.did; outcome = t.outcome }

abbrev pub taken : {A X : Type 0} → List A → (A → List A → Tried X) → Tried X
taken [] next = tells ran_out
taken (x ∷ xs) next = next x xs

abbrev pub tried : {X : Type 0} → Answers → Plan X → Supply → Tried X
tried a (gives x) s = tells (gave x s)
tried a (takes_moment next) s = taken s.moments (λ m ms. tried a (next m) (record s { moments = ms }))
tried a (takes_word next) s = taken s.words (λ w ws. tried a (next w) (record s { words = ws }))
tried a (calls at call next) s = taken s.replies (λ r rs. called at call (tried a (next r) (record s { replies = rs })))
tried a (spells how g next) s = tried a (next (a.spelled how g)) s
tried a (reads message next) s = tried a (next (a.stored message)) s
tried a (cuts bytes next) s = tried a (next (a.cut bytes)) s
tried a (unpacks bytes next) s = tried a (next (a.unpacked bytes)) s
tried a (packs p next) s = tried a (next (a.packed p)) s
tried a (writes answer next) s = answered answer (tried a next s)

-- what each step on the way got is right
abbrev pub TakesRight : {A : Type 0} → List A → (A → List A → Type 0) → Type 0
TakesRight [] next = Unit {0}
TakesRight (x ∷ xs) next = next x xs

abbrev pub IsRight : {X : Type 0} → Answers → Plan X → Supply → Type 0
IsRight a (gives x) s = Unit {0}
IsRight a (takes_moment next) s = TakesRight s.moments (λ m ms. IsRight a (next m) (record s { moments = ms }))
IsRight a (takes_word next) s = TakesRight s.words (λ w ws. IsRight a (next w) (record s { words = ws }))
IsRight a (calls at call next) s = TakesRight s.replies (λ r rs. IsRight a (next r) (record s { replies = rs }))
IsRight a (spells how g next) s = Finds (IsSpelling how g) (a.spelled how g) × IsRight a (next (a.spelled how g)) s
IsRight a (reads message next) s = Finds (λ h. IsStored h message) (a.stored message) × IsRight a (next (a.stored message)) s
IsRight a (cuts bytes next) s = IsCut bytes (a.cut bytes) × IsRight a (next (a.cut bytes)) s
IsRight a (unpacks bytes next) s = Finds (λ q. IsUnpacked q bytes) (a.unpacked bytes) × IsRight a (next (a.unpacked bytes)) s
IsRight a (packs p next) s = IsPacked p (a.packed p) × IsRight a (next (a.packed p)) s
IsRight a (writes answer next) s = IsRight a next s

-- where that is so, this is what comes of the plan
abbrev pub TriedIsRun : Type 0
TriedIsRun = (a : Answers) (p : Plan LinkEnd) (s : Supply) → IsRight a p s → Runs p s (tried a p s).did (tried a p s).outcome
