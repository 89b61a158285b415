-- A plan that was carried out so far, and not to its end.
use Rattle.std.specs.Prelude.{◌≡◌, ℕ, ◌⊎◌, List, Option}
use Rattle.amf_graph.specs.Graph.{Graph}
use Rattle.amf_packet.specs.Packet.{Packet}
use Rattle.amf_answer_plan.specs.Plan.{Cut, Plan, gives, takes_moment, takes_word, calls, spells, reads, cuts, unpacks, packs, writes}
use Rattle.amf_answer_plan.specs.Runs.{IsSpelling, IsUnpacked, IsPacked, IsStored, IsCut, Finds, Supply, Done, nothing, and_call, and_answer, Takes}

-- from this supply so much of the plan was done: some first calls and some first answers
abbrev pub Begun : {X : Type 0} → Plan X → Supply → Done → Type 0
Begun (gives x) s d = d ≡ nothing
Begun (takes_moment next) s d = (d ≡ nothing) ⊎ Takes s.moments ⊥ (λ m ms. Begun (next m) (record s { moments = ms }) d)
Begun (takes_word next) s d = (d ≡ nothing) ⊎ Takes s.words ⊥ (λ w ws. Begun (next w) (record s { words = ws }) d)
Begun (calls at call next) s d = (d ≡ nothing) ⊎ Takes s.replies ⊥ (λ r rs. (later : Done) × Begun (next r) (record s { replies = rs }) later × (d ≡ and_call at call later))
Begun (spells how g next) s d = (d ≡ nothing) ⊎ ((b : Option (List ℕ)) × Finds (IsSpelling how g) b × Begun (next b) s d)
Begun (reads message next) s d = (d ≡ nothing) ⊎ ((g : Option Graph) × Finds (λ h. IsStored h message) g × Begun (next g) s d)
Begun (cuts bytes next) s d = (d ≡ nothing) ⊎ ((c : Cut) × IsCut bytes c × Begun (next c) s d)
Begun (unpacks bytes next) s d = (d ≡ nothing) ⊎ ((p : Option Packet) × Finds (λ q. IsUnpacked q bytes) p × Begun (next p) s d)
Begun (packs p next) s d = (d ≡ nothing) ⊎ ((b : List ℕ) × IsPacked p b × Begun (next b) s d)
Begun (writes answer next) s d = (d ≡ nothing) ⊎ ((later : Done) × Begun next s later × (d ≡ and_answer answer later))
