-- What is computed of a plan is what comes of it.
use Rattle.std.proofs.Common.{◌≡◌, List, [], ◌∷◌, refl}
use Rattle.amf_answer_plan.specs.Plan.{Plan, gives, takes_moment, takes_word, calls, spells, reads, cuts, unpacks, packs, writes}
use Rattle.amf_answer_plan.specs.Runs.{Supply, Done, Outcome, Runs, Takes, nothing, and_call, ran_out}
use Rattle.amf_answer_laws.specs.Tried.{Answers, Tried, tried, taken, TakesRight, called, IsRight}

taken_runs : {A X : Type 0} (xs : List A) (f : A → List A → Tried X) (right : A → List A → Type 0) (N : Done → Outcome X → A → List A → Type 0)
    → ((x : A) (ys : List A) → right x ys → N (f x ys).did (f x ys).outcome x ys)
    → TakesRight xs right → Takes xs (((taken xs f).did ≡ nothing) × ((taken xs f).outcome ≡ ran_out)) (N (taken xs f).did (taken xs f).outcome)
taken_runs [] f right N step r = (refl, refl)
taken_runs (x ∷ xs) f right N step r = step x xs r

pub tried_runs : {X : Type 0} (a : Answers) (p : Plan X) (s : Supply) → IsRight a p s → Runs p s (tried a p s).did (tried a p s).outcome
tried_runs a (gives x) s right = (refl, refl)
tried_runs a (takes_moment next) s right =
    taken_runs s.moments (λ m ms. tried a (next m) (record s { moments = ms })) (λ m ms. IsRight a (next m) (record s { moments = ms }))
    (λ d o m ms. Runs (next m) (record s { moments = ms }) d o) (λ m ms r. tried_runs a (next m) (record s { moments = ms }) r) right
tried_runs a (takes_word next) s right =
    taken_runs s.words (λ w ws. tried a (next w) (record s { words = ws })) (λ w ws. IsRight a (next w) (record s { words = ws }))
    (λ d o w ws. Runs (next w) (record s { words = ws }) d o) (λ w ws r. tried_runs a (next w) (record s { words = ws }) r) right
tried_runs a (calls at call next) s right =
    taken_runs s.replies (λ r rs. called at call (tried a (next r) (record s { replies = rs }))) (λ r rs. IsRight a (next r) (record s { replies = rs }))
    (λ d o r rs. (later : Done) × Runs (next r) (record s { replies = rs }) later o × (d ≡ and_call at call later))
    (λ r rs h. ((tried a (next r) (record s { replies = rs })).did, tried_runs a (next r) (record s { replies = rs }) h, refl)) right
tried_runs a (spells how g next) s right = (a.spelled how g, right.0, tried_runs a (next (a.spelled how g)) s right.1)
tried_runs a (reads message next) s right = (a.stored message, right.0, tried_runs a (next (a.stored message)) s right.1)
tried_runs a (cuts bytes next) s right = (a.cut bytes, right.0, tried_runs a (next (a.cut bytes)) s right.1)
tried_runs a (unpacks bytes next) s right = (a.unpacked bytes, right.0, tried_runs a (next (a.unpacked bytes)) s right.1)
tried_runs a (packs p next) s right = (a.packed p, right.0, tried_runs a (next (a.packed p)) s right.1)
tried_runs a (writes answer next) s right = ((tried a next s).did, tried_runs a next s right, refl)
