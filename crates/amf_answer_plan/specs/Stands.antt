-- Where the plan of a link stands when a read or a write of it fails, or memory or calls run out: at which step, with no more taken than what its steps so far take.
use Rattle.std.specs.Prelude.{◌≡◌, ℕ, ◌⊎◌, List, ◌++◌, Option, ⊤}
use Rattle.amf_graph.specs.Graph.{Graph}
use Rattle.amf_http.specs.Request.{IsOpen}
use Rattle.amf_packet.specs.Packet.{Packet}
use Rattle.amf_service.specs.Registry.{Entry}
use Rattle.amf_answer_plan.specs.Links.{LinkEnd, link}
use Rattle.amf_answer_plan.specs.Plan.{Cut, Plan, gives, takes_moment, takes_word, calls, spells, reads, cuts, unpacks, packs, writes}
use Rattle.amf_answer_plan.specs.Respond.{joined}
use Rattle.amf_answer_plan.specs.Runs.{IsSpelling, IsUnpacked, IsPacked, IsStored, IsCut, Finds, Supply, Done, nothing, and_call, and_answer, Takes}
use Rattle.amf_answer_plan.specs.Serving.{ServeEnd, ended, read_fault, write_fault, no_memory, spent, LinkBytes, Taken, supply_of, did, none_left, AreWritten}

-- it is at such a step; nothing is left of what was taken, and nothing more was done
pub record IsAt {X : Type 0} (At : Plan X → Type 0) (p : Plan X) (s : Supply) (d : Done) : Type 0 where
  pub at : At p
  pub none : s ≡ none_left
  pub no_more : d ≡ nothing

-- from this supply so much of the plan was done, and then it is at such a step
abbrev pub Stands : {X : Type 0} → (At : Plan X → Type 0) → Plan X → Supply → Done → Type 0
Stands At (gives x) s d = IsAt At (gives x) s d
Stands At (takes_moment next) s d = IsAt At (takes_moment next) s d ⊎ Takes s.moments ⊥ (λ m ms. Stands At (next m) (record s { moments = ms }) d)
Stands At (takes_word next) s d = IsAt At (takes_word next) s d ⊎ Takes s.words ⊥ (λ w ws. Stands At (next w) (record s { words = ws }) d)
Stands At (calls at call next) s d = IsAt At (calls at call next) s d ⊎ Takes s.replies ⊥ (λ r rs. (later : Done) × Stands At (next r) (record s { replies = rs }) later × (d ≡ and_call at call later))
Stands At (spells how g next) s d = IsAt At (spells how g next) s d ⊎ ((b : Option (List ℕ)) × Finds (IsSpelling how g) b × Stands At (next b) s d)
Stands At (reads message next) s d = IsAt At (reads message next) s d ⊎ ((g : Option Graph) × Finds (λ h. IsStored h message) g × Stands At (next g) s d)
Stands At (cuts bytes next) s d = IsAt At (cuts bytes next) s d ⊎ ((c : Cut) × IsCut bytes c × Stands At (next c) s d)
Stands At (unpacks bytes next) s d = IsAt At (unpacks bytes next) s d ⊎ ((p : Option Packet) × Finds (λ q. IsUnpacked q bytes) p × Stands At (next p) s d)
Stands At (packs p next) s d = IsAt At (packs p next) s d ⊎ ((b : List ℕ) × IsPacked p b × Stands At (next b) s d)
Stands At (writes answer next) s d = IsAt At (writes answer next) s d ⊎ ((later : Done) × Stands At next s later × (d ≡ and_answer answer later))

-- the next step is a call of the desk
abbrev pub AtCall : {X : Type 0} → Plan X → Type 0
AtCall (calls at call next) = ⊤
AtCall _ = ⊥

-- the next step writes this answer
abbrev pub AtWriting : List ℕ → Plan LinkEnd → Type 0
AtWriting answer (writes a next) = a ≡ answer
AtWriting answer _ = ⊥

-- the next step looks at these bytes
abbrev pub AtBytes : List ℕ → Plan LinkEnd → Type 0
AtBytes bytes (cuts b next) = b ≡ bytes
AtBytes bytes _ = ⊥

-- Where a link takes no more, the plan stands at the writing of the answer that was cut. Where it gives no more, the bytes that came behind the requests that were answered are open, and whatever followed there, the plan would look at it.
-- Where memory ran out, it stands at some step, and where the calls did, at a call.
abbrev pub StopsBy : (List ℕ → Plan LinkEnd) → LinkBytes → Taken → ServeEnd → Type 0
StopsBy plan b k write_fault = (answers : List (List ℕ)) × (front : List ℕ) × (back : List ℕ) × Stands (AtWriting (front ++ back)) (plan b.left) (supply_of k) (did k answers) × AreWritten b (joined answers ++ front)
StopsBy plan b k read_fault = (answers : List (List ℕ)) × (used : List ℕ) × (partial : List ℕ) × (b.left ≡ used ++ (partial ++ b.leaves)) × IsOpen partial × ((x : List ℕ) → Stands (AtBytes x) (plan (used ++ x)) (supply_of k) (did k answers)) × AreWritten b (joined answers)
StopsBy plan b k no_memory = (answers : List (List ℕ)) × Stands (λ p. ⊤) (plan b.left) (supply_of k) (did k answers) × AreWritten b (joined answers)
StopsBy plan b k spent = (answers : List (List ℕ)) × Stands AtCall (plan b.left) (supply_of k) (did k answers) × AreWritten b (joined answers)
StopsBy plan b k (ended end) = ⊤

-- what the services answer to a link
abbrev pub Stops : List Entry → LinkBytes → Taken → ServeEnd → Type 0
Stops services b k end = StopsBy (link services) b k end
