-- One plan and then another: what comes of both, what was begun of both, and what more supply leaves.
use Rattle.std.proofs.Common.{◌≡◌, List, [], ◌∷◌, ◌++◌, ◌⊎◌, refl, sym, ap, ◌∙◌, subst, inl, inr}
use Rattle.amf_answer_plan.specs.Begun.{Begun}
use Rattle.amf_answer_plan.specs.Plan.{Plan, gives, takes_moment, takes_word, calls, spells, reads, cuts, unpacks, packs, writes, ◌>>=◌}
use Rattle.amf_answer_plan.specs.Runs.{Supply, Done, nothing, Outcome, gave, ran_out, Takes, Runs}
use Rattle.amf_answer_plan.specs.Serving.{more}

-- what is done first, and then more
abbrev pub both : Done → Done → Done
both d e = record { calls = d.calls ++ e.calls; answers = d.answers ++ e.answers }

-- the first is taken of the same list
pub taken_as : {A : Type 0} (xs : List A) (out also : Type 0) (some other : A → List A → Type 0) → (out → also) → ((x : A) (ys : List A) → some x ys → other x ys) → Takes xs out some → Takes xs also other
taken_as [] out also some other f g a = f a
taken_as (x ∷ xs) out also some other f g a = g x xs a

-- the first is taken of a longer list
taken_more : {A : Type 0} (xs zs : List A) (out also : Type 0) (some other : A → List A → Type 0) → (out → ⊥) → ((x : A) (ys : List A) → some x ys → other x (ys ++ zs)) → Takes xs out some → Takes (xs ++ zs) also other
taken_more [] zs out also some other f g a = absurd (f a)
taken_more (x ∷ xs) zs out also some other f g a = g x xs a

no_end : {X : Type 0} (x : X) (t : Supply) → gave x t ≡ ran_out → ⊥
no_end x t e = cc

no_gift : {X : Type 0} (x : X) (t : Supply) → ran_out ≡ gave x t → ⊥
no_gift x t e = cc

same_gift : {X : Type 0} (x y : X) (s t : Supply) → gave x t ≡ gave y s → (x ≡ y) × (t ≡ s)
same_gift x y s t e = (cc, cc)

after_none : (d e : Done) → d ≡ nothing → both d e ≡ e
after_none d e h = ap (λ z. both z e) h

-- Where the first plan gives a value.

pub runs_then : {X Y : Type 0} (p : Plan X) (f : X → Plan Y) (s t : Supply) (d e : Done) (x : X) (o : Outcome Y) → Runs p s d (gave x t) → Runs (f x) t e o → Runs (◌>>=◌ p f) s (both d e) o
runs_then (gives y) f s t d e x o a b =
    let g = same_gift x y s t a.1 in
    subst (λ z. Runs (f y) s z o) (sym (after_none d e a.0)) (subst (λ z. Runs (f z) s e o) g.0 (subst (λ z. Runs (f x) z e o) g.1 b))
runs_then (takes_moment p) f s t d e x o a b =
    taken_as s.moments _ _ _ _ (λ z. absurd (no_end x t z.1)) (λ m ms z. runs_then (p m) f (record s { moments = ms }) t d e x o z b) a
runs_then (takes_word p) f s t d e x o a b =
    taken_as s.words _ _ _ _ (λ z. absurd (no_end x t z.1)) (λ w ws z. runs_then (p w) f (record s { words = ws }) t d e x o z b) a
runs_then (calls n c p) f s t d e x o a b =
    taken_as s.replies _ _ _ _ (λ z. absurd (no_end x t z.1)) (λ r rs z. (both z.0 e, runs_then (p r) f (record s { replies = rs }) t z.0 e x o z.1 b, ap (λ w. both w e) z.2)) a
runs_then (spells how g p) f s t d e x o a b = (a.0, a.1, runs_then (p a.0) f s t d e x o a.2 b)
runs_then (reads message p) f s t d e x o a b = (a.0, a.1, runs_then (p a.0) f s t d e x o a.2 b)
runs_then (cuts bytes p) f s t d e x o a b = (a.0, a.1, runs_then (p a.0) f s t d e x o a.2 b)
runs_then (unpacks bytes p) f s t d e x o a b = (a.0, a.1, runs_then (p a.0) f s t d e x o a.2 b)
runs_then (packs q p) f s t d e x o a b = (a.0, a.1, runs_then (p a.0) f s t d e x o a.2 b)
runs_then (writes answer p) f s t d e x o a b = (both a.0 e, runs_then p f s t a.0 e x o a.1 b, ap (λ w. both w e) a.2)

-- Where the first plan runs out.

pub runs_out : {X Y : Type 0} (p : Plan X) (f : X → Plan Y) (s : Supply) (d : Done) → Runs p s d ran_out → Runs (◌>>=◌ p f) s d ran_out
runs_out (gives y) f s d a = absurd (no_gift y s a.1)
runs_out (takes_moment p) f s d a = taken_as s.moments _ _ _ _ (λ z. (z.0, refl)) (λ m ms z. runs_out (p m) f (record s { moments = ms }) d z) a
runs_out (takes_word p) f s d a = taken_as s.words _ _ _ _ (λ z. (z.0, refl)) (λ w ws z. runs_out (p w) f (record s { words = ws }) d z) a
runs_out (calls n c p) f s d a =
    taken_as s.replies _ _ _ _ (λ z. (z.0, refl)) (λ r rs z. (z.0, runs_out (p r) f (record s { replies = rs }) z.0 z.1, z.2)) a
runs_out (spells how g p) f s d a = (a.0, a.1, runs_out (p a.0) f s d a.2)
runs_out (reads message p) f s d a = (a.0, a.1, runs_out (p a.0) f s d a.2)
runs_out (cuts bytes p) f s d a = (a.0, a.1, runs_out (p a.0) f s d a.2)
runs_out (unpacks bytes p) f s d a = (a.0, a.1, runs_out (p a.0) f s d a.2)
runs_out (packs q p) f s d a = (a.0, a.1, runs_out (p a.0) f s d a.2)
runs_out (writes answer p) f s d a = (a.0, runs_out p f s a.0 a.1, a.2)

-- More supply: it is left where a value is given, and what was begun stays so.

pub runs_more : {X : Type 0} (p : Plan X) (s t u : Supply) (d : Done) (x : X) → Runs p s d (gave x t) → Runs p (more s u) d (gave x (more t u))
runs_more (gives y) s t u d x a = let g = same_gift x y s t a.1 in (a.0, ap (λ z. gave z (more t u)) g.0 ∙ ap (λ z. gave y (more z u)) g.1)
runs_more (takes_moment p) s t u d x a =
    taken_more s.moments u.moments _ _ _ _ (λ z. no_end x t z.1) (λ m ms z. runs_more (p m) (record s { moments = ms }) t u d x z) a
runs_more (takes_word p) s t u d x a =
    taken_more s.words u.words _ _ _ _ (λ z. no_end x t z.1) (λ w ws z. runs_more (p w) (record s { words = ws }) t u d x z) a
runs_more (calls n c p) s t u d x a =
    taken_more s.replies u.replies _ _ _ _ (λ z. no_end x t z.1) (λ r rs z. (z.0, runs_more (p r) (record s { replies = rs }) t u z.0 x z.1, z.2)) a
runs_more (spells how g p) s t u d x a = (a.0, a.1, runs_more (p a.0) s t u d x a.2)
runs_more (reads message p) s t u d x a = (a.0, a.1, runs_more (p a.0) s t u d x a.2)
runs_more (cuts bytes p) s t u d x a = (a.0, a.1, runs_more (p a.0) s t u d x a.2)
runs_more (unpacks bytes p) s t u d x a = (a.0, a.1, runs_more (p a.0) s t u d x a.2)
runs_more (packs q p) s t u d x a = (a.0, a.1, runs_more (p a.0) s t u d x a.2)
runs_more (writes answer p) s t u d x a = (a.0, runs_more p s t u a.0 x a.1, a.2)

pub begun_more : {X : Type 0} (p : Plan X) (s u : Supply) (d : Done) → Begun p s d → Begun p (more s u) d
begun_more (gives x) s u d a = a
begun_more (takes_moment p) s u d (inl a) = inl a
begun_more (takes_moment p) s u d (inr a) = inr (taken_more s.moments u.moments _ _ _ _ (λ z. z) (λ m ms z. begun_more (p m) (record s { moments = ms }) u d z) a)
begun_more (takes_word p) s u d (inl a) = inl a
begun_more (takes_word p) s u d (inr a) = inr (taken_more s.words u.words _ _ _ _ (λ z. z) (λ w ws z. begun_more (p w) (record s { words = ws }) u d z) a)
begun_more (calls n c p) s u d (inl a) = inl a
begun_more (calls n c p) s u d (inr a) =
    inr (taken_more s.replies u.replies _ _ _ _ (λ z. z) (λ r rs z. (z.0, begun_more (p r) (record s { replies = rs }) u z.0 z.1, z.2)) a)
begun_more (spells how g p) s u d (inl a) = inl a
begun_more (spells how g p) s u d (inr a) = inr (a.0, a.1, begun_more (p a.0) s u d a.2)
begun_more (reads message p) s u d (inl a) = inl a
begun_more (reads message p) s u d (inr a) = inr (a.0, a.1, begun_more (p a.0) s u d a.2)
begun_more (cuts bytes p) s u d (inl a) = inl a
begun_more (cuts bytes p) s u d (inr a) = inr (a.0, a.1, begun_more (p a.0) s u d a.2)
begun_more (unpacks bytes p) s u d (inl a) = inl a
begun_more (unpacks bytes p) s u d (inr a) = inr (a.0, a.1, begun_more (p a.0) s u d a.2)
begun_more (packs q p) s u d (inl a) = inl a
begun_more (packs q p) s u d (inr a) = inr (a.0, a.1, begun_more (p a.0) s u d a.2)
begun_more (writes answer p) s u d (inl a) = inl a
begun_more (writes answer p) s u d (inr a) = inr (a.0, begun_more p s u a.0 a.1, a.2)

-- What was begun.

pub none_begun : {X : Type 0} (p : Plan X) (s : Supply) (d : Done) → d ≡ nothing → Begun p s d
none_begun (gives x) s d e = e
none_begun (takes_moment p) s d e = inl e
none_begun (takes_word p) s d e = inl e
none_begun (calls n c p) s d e = inl e
none_begun (spells how g p) s d e = inl e
none_begun (reads message p) s d e = inl e
none_begun (cuts bytes p) s d e = inl e
none_begun (unpacks bytes p) s d e = inl e
none_begun (packs q p) s d e = inl e
none_begun (writes answer p) s d e = inl e

-- so much of the first plan is so much of both
pub begun_first : {X Y : Type 0} (p : Plan X) (f : X → Plan Y) (s : Supply) (d : Done) → Begun p s d → Begun (◌>>=◌ p f) s d
begun_first (gives x) f s d a = none_begun (f x) s d a
begun_first (takes_moment p) f s d (inl a) = inl a
begun_first (takes_moment p) f s d (inr a) = inr (taken_as s.moments _ _ _ _ (λ z. z) (λ m ms z. begun_first (p m) f (record s { moments = ms }) d z) a)
begun_first (takes_word p) f s d (inl a) = inl a
begun_first (takes_word p) f s d (inr a) = inr (taken_as s.words _ _ _ _ (λ z. z) (λ w ws z. begun_first (p w) f (record s { words = ws }) d z) a)
begun_first (calls n c p) f s d (inl a) = inl a
begun_first (calls n c p) f s d (inr a) =
    inr (taken_as s.replies _ _ _ _ (λ z. z) (λ r rs z. (z.0, begun_first (p r) f (record s { replies = rs }) z.0 z.1, z.2)) a)
begun_first (spells how g p) f s d (inl a) = inl a
begun_first (spells how g p) f s d (inr a) = inr (a.0, a.1, begun_first (p a.0) f s d a.2)
begun_first (reads message p) f s d (inl a) = inl a
begun_first (reads message p) f s d (inr a) = inr (a.0, a.1, begun_first (p a.0) f s d a.2)
begun_first (cuts bytes p) f s d (inl a) = inl a
begun_first (cuts bytes p) f s d (inr a) = inr (a.0, a.1, begun_first (p a.0) f s d a.2)
begun_first (unpacks bytes p) f s d (inl a) = inl a
begun_first (unpacks bytes p) f s d (inr a) = inr (a.0, a.1, begun_first (p a.0) f s d a.2)
begun_first (packs q p) f s d (inl a) = inl a
begun_first (packs q p) f s d (inr a) = inr (a.0, a.1, begun_first (p a.0) f s d a.2)
begun_first (writes answer p) f s d (inl a) = inl a
begun_first (writes answer p) f s d (inr a) = inr (a.0, begun_first p f s a.0 a.1, a.2)

-- the whole of the first plan, and so much of what comes then
pub begun_then : {X Y : Type 0} (p : Plan X) (f : X → Plan Y) (s t : Supply) (d e : Done) (x : X) → Runs p s d (gave x t) → Begun (f x) t e → Begun (◌>>=◌ p f) s (both d e)
begun_then (gives y) f s t d e x a b =
    let g = same_gift x y s t a.1 in
    subst (λ z. Begun (f y) s z) (sym (after_none d e a.0)) (subst (λ z. Begun (f z) s e) g.0 (subst (λ z. Begun (f x) z e) g.1 b))
begun_then (takes_moment p) f s t d e x a b =
    inr (taken_as s.moments _ _ _ _ (λ z. no_end x t z.1) (λ m ms z. begun_then (p m) f (record s { moments = ms }) t d e x z b) a)
begun_then (takes_word p) f s t d e x a b =
    inr (taken_as s.words _ _ _ _ (λ z. no_end x t z.1) (λ w ws z. begun_then (p w) f (record s { words = ws }) t d e x z b) a)
begun_then (calls n c p) f s t d e x a b =
    inr (taken_as s.replies _ _ _ _ (λ z. no_end x t z.1) (λ r rs z. (both z.0 e, begun_then (p r) f (record s { replies = rs }) t z.0 e x z.1 b, ap (λ w. both w e) z.2)) a)
begun_then (spells how g p) f s t d e x a b = inr (a.0, a.1, begun_then (p a.0) f s t d e x a.2 b)
begun_then (reads message p) f s t d e x a b = inr (a.0, a.1, begun_then (p a.0) f s t d e x a.2 b)
begun_then (cuts bytes p) f s t d e x a b = inr (a.0, a.1, begun_then (p a.0) f s t d e x a.2 b)
begun_then (unpacks bytes p) f s t d e x a b = inr (a.0, a.1, begun_then (p a.0) f s t d e x a.2 b)
begun_then (packs q p) f s t d e x a b = inr (a.0, a.1, begun_then (p a.0) f s t d e x a.2 b)
begun_then (writes answer p) f s t d e x a b = inr (both a.0 e, begun_then p f s t a.0 e x a.1 b, ap (λ w. both w e) a.2)

begun_taken : {A : Type 0} (xs : List A) (out none : Type 0) (some other : A → List A → Type 0) → (out → none) → ((x : A) (ys : List A) → some x ys → other x ys) → Takes xs out some → none ⊎ Takes xs ⊥ other
begun_taken [] out none some other f g a = inl (f a)
begun_taken (x ∷ xs) out none some other f g a = inr (g x xs a)

-- what was done was begun
pub runs_begun : {X : Type 0} (p : Plan X) (s : Supply) (d : Done) (o : Outcome X) → Runs p s d o → Begun p s d
runs_begun (gives x) s d o a = a.0
runs_begun (takes_moment p) s d o a = begun_taken s.moments _ _ _ _ (λ z. z.0) (λ m ms z. runs_begun (p m) (record s { moments = ms }) d o z) a
runs_begun (takes_word p) s d o a = begun_taken s.words _ _ _ _ (λ z. z.0) (λ w ws z. runs_begun (p w) (record s { words = ws }) d o z) a
runs_begun (calls n c p) s d o a = begun_taken s.replies _ _ _ _ (λ z. z.0) (λ r rs z. (z.0, runs_begun (p r) (record s { replies = rs }) z.0 o z.1, z.2)) a
runs_begun (spells how g p) s d o a = inr (a.0, a.1, runs_begun (p a.0) s d o a.2)
runs_begun (reads message p) s d o a = inr (a.0, a.1, runs_begun (p a.0) s d o a.2)
runs_begun (cuts bytes p) s d o a = inr (a.0, a.1, runs_begun (p a.0) s d o a.2)
runs_begun (unpacks bytes p) s d o a = inr (a.0, a.1, runs_begun (p a.0) s d o a.2)
runs_begun (packs q p) s d o a = inr (a.0, a.1, runs_begun (p a.0) s d o a.2)
runs_begun (writes answer p) s d o a = inr (a.0, runs_begun p s a.0 o a.1, a.2)
