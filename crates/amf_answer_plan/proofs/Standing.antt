-- One plan and then another, by where they stand.
use Rattle.std.proofs.Common.{◌≡◌, Bool, true, false, List, [], ◌∷◌, ◌++◌, ◌⊎◌, refl, sym, ap, ◌∙◌, subst, inl, inr}
use Rattle.amf_answer_plan.specs.Begun.{Begun}
use Rattle.amf_answer_plan.specs.Did.{StopsAt}
use Rattle.amf_answer_plan.specs.Plan.{Plan, gives, takes_moment, takes_word, calls, spells, reads, cuts, unpacks, packs, writes, ◌>>=◌}
use Rattle.amf_answer_plan.specs.Runs.{Supply, Done, nothing, Outcome, gave, ran_out, Takes, Runs}
use Rattle.amf_answer_plan.specs.Serving.{none_left, more}
use Rattle.amf_answer_plan.specs.Stands.{IsAt, Stands}
use Rattle.amf_answer_plan.proofs.Composed.{both, taken_as}

-- the first is taken of a longer list
taken_more : {A : Type 0} (xs zs : List A) (some other : A → List A → Type 0) → ((x : A) (ys : List A) → some x ys → other x (ys ++ zs)) → Takes xs ⊥ some → Takes (xs ++ zs) ⊥ other
taken_more [] zs some other g a = absurd a
taken_more (x ∷ xs) zs some other g a = g x xs a

no_end : {X : Type 0} (x : X) (t : Supply) → gave x t ≡ ran_out → ⊥
no_end x t e = cc

same_gift : {X : Type 0} (x y : X) (s t : Supply) → gave x t ≡ gave y s → (x ≡ y) × (t ≡ s)
same_gift x y s t e = (cc, cc)

after_none : (d e : Done) → d ≡ nothing → both d e ≡ e
after_none d e h = ap (λ z. both z e) h

-- where nothing was taken or done
pub at_none : {X : Type 0} (At : Plan X → Type 0) (p : Plan X) → At p → Stands At p none_left nothing
at_none At (gives x) a = record { at = a; none = refl; no_more = refl }
at_none At (takes_moment p) a = inl (record { at = a; none = refl; no_more = refl })
at_none At (takes_word p) a = inl (record { at = a; none = refl; no_more = refl })
at_none At (calls n c p) a = inl (record { at = a; none = refl; no_more = refl })
at_none At (spells how g p) a = inl (record { at = a; none = refl; no_more = refl })
at_none At (reads message p) a = inl (record { at = a; none = refl; no_more = refl })
at_none At (cuts bytes p) a = inl (record { at = a; none = refl; no_more = refl })
at_none At (unpacks bytes p) a = inl (record { at = a; none = refl; no_more = refl })
at_none At (packs q p) a = inl (record { at = a; none = refl; no_more = refl })
at_none At (writes answer p) a = inl (record { at = a; none = refl; no_more = refl })

-- the whole of the first plan, and where the next one stands
pub stands_then : {X Y : Type 0} (At : Plan Y → Type 0) (p : Plan X) (f : X → Plan Y) (s t : Supply) (d e : Done) (x : X) → Runs p s d (gave x t) → Stands At (f x) t e → Stands At (◌>>=◌ p f) s (both d e)
stands_then At (gives y) f s t d e x a b =
    let g = same_gift x y s t a.1 in
    subst (λ z. Stands At (f y) s z) (sym (after_none d e a.0)) (subst (λ z. Stands At (f z) s e) g.0 (subst (λ z. Stands At (f x) z e) g.1 b))
stands_then At (takes_moment p) f s t d e x a b =
    inr (taken_as s.moments _ _ _ _ (λ z. no_end x t z.1) (λ m ms z. stands_then At (p m) f (record s { moments = ms }) t d e x z b) a)
stands_then At (takes_word p) f s t d e x a b =
    inr (taken_as s.words _ _ _ _ (λ z. no_end x t z.1) (λ w ws z. stands_then At (p w) f (record s { words = ws }) t d e x z b) a)
stands_then At (calls n c p) f s t d e x a b =
    inr (taken_as s.replies _ _ _ _ (λ z. no_end x t z.1) (λ r rs z. (both z.0 e, stands_then At (p r) f (record s { replies = rs }) t z.0 e x z.1 b, ap (λ w. both w e) z.2)) a)
stands_then At (spells how g p) f s t d e x a b = inr (a.0, a.1, stands_then At (p a.0) f s t d e x a.2 b)
stands_then At (reads message p) f s t d e x a b = inr (a.0, a.1, stands_then At (p a.0) f s t d e x a.2 b)
stands_then At (cuts bytes p) f s t d e x a b = inr (a.0, a.1, stands_then At (p a.0) f s t d e x a.2 b)
stands_then At (unpacks bytes p) f s t d e x a b = inr (a.0, a.1, stands_then At (p a.0) f s t d e x a.2 b)
stands_then At (packs q p) f s t d e x a b = inr (a.0, a.1, stands_then At (p a.0) f s t d e x a.2 b)
stands_then At (writes answer p) f s t d e x a b = inr (both a.0 e, stands_then At p f s t a.0 e x a.1 b, ap (λ w. both w e) a.2)

-- from where a plan stands on
goes_on_here : {X : Type 0} (At : Plan X → Type 0) (r p : Plan X) (s t : Supply) (d e : Done) → IsAt (λ q. q ≡ r) p s d → Stands At r t e → Stands At p (more s t) (both d e)
goes_on_here At r p s t d e i b =
    subst (λ z. Stands At p (more z t) (both d e)) (sym i.none) (subst (λ z. Stands At p (more none_left t) (both z e)) (sym i.no_more) (subst (λ q. Stands At q t e) (sym i.at) b))

pub stands_on : {X : Type 0} (At : Plan X → Type 0) (r p : Plan X) (s t : Supply) (d e : Done) → Stands (λ q. q ≡ r) p s d → Stands At r t e → Stands At p (more s t) (both d e)
stands_on At r (gives x) s t d e i b = goes_on_here At r (gives x) s t d e i b
stands_on At r (takes_moment p) s t d e (inl i) b = goes_on_here At r (takes_moment p) s t d e i b
stands_on At r (takes_moment p) s t d e (inr a) b = inr (taken_more s.moments t.moments _ _ (λ m ms z. stands_on At r (p m) (record s { moments = ms }) t d e z b) a)
stands_on At r (takes_word p) s t d e (inl i) b = goes_on_here At r (takes_word p) s t d e i b
stands_on At r (takes_word p) s t d e (inr a) b = inr (taken_more s.words t.words _ _ (λ w ws z. stands_on At r (p w) (record s { words = ws }) t d e z b) a)
stands_on At r (calls n c p) s t d e (inl i) b = goes_on_here At r (calls n c p) s t d e i b
stands_on At r (calls n c p) s t d e (inr a) b =
    inr (taken_more s.replies t.replies _ _ (λ x xs z. (both z.0 e, stands_on At r (p x) (record s { replies = xs }) t z.0 e z.1 b, ap (λ w. both w e) z.2)) a)
stands_on At r (spells how g p) s t d e (inl i) b = goes_on_here At r (spells how g p) s t d e i b
stands_on At r (spells how g p) s t d e (inr a) b = inr (a.0, a.1, stands_on At r (p a.0) s t d e a.2 b)
stands_on At r (reads message p) s t d e (inl i) b = goes_on_here At r (reads message p) s t d e i b
stands_on At r (reads message p) s t d e (inr a) b = inr (a.0, a.1, stands_on At r (p a.0) s t d e a.2 b)
stands_on At r (cuts bytes p) s t d e (inl i) b = goes_on_here At r (cuts bytes p) s t d e i b
stands_on At r (cuts bytes p) s t d e (inr a) b = inr (a.0, a.1, stands_on At r (p a.0) s t d e a.2 b)
stands_on At r (unpacks bytes p) s t d e (inl i) b = goes_on_here At r (unpacks bytes p) s t d e i b
stands_on At r (unpacks bytes p) s t d e (inr a) b = inr (a.0, a.1, stands_on At r (p a.0) s t d e a.2 b)
stands_on At r (packs q p) s t d e (inl i) b = goes_on_here At r (packs q p) s t d e i b
stands_on At r (packs q p) s t d e (inr a) b = inr (a.0, a.1, stands_on At r (p a.0) s t d e a.2 b)
stands_on At r (writes answer p) s t d e (inl i) b = goes_on_here At r (writes answer p) s t d e i b
stands_on At r (writes answer p) s t d e (inr a) b = inr (both a.0 e, stands_on At r p s t a.0 e a.1 b, ap (λ w. both w e) a.2)

-- a plan that stands so was begun
pub stands_begun : {X : Type 0} (At : Plan X → Type 0) (p : Plan X) (s : Supply) (d : Done) → Stands At p s d → Begun p s d
stands_begun At (gives x) s d i = i.no_more
stands_begun At (takes_moment p) s d (inl i) = inl (i.no_more)
stands_begun At (takes_moment p) s d (inr a) = inr (taken_as s.moments _ _ _ _ (λ z. z) (λ m ms z. stands_begun At (p m) (record s { moments = ms }) d z) a)
stands_begun At (takes_word p) s d (inl i) = inl (i.no_more)
stands_begun At (takes_word p) s d (inr a) = inr (taken_as s.words _ _ _ _ (λ z. z) (λ w ws z. stands_begun At (p w) (record s { words = ws }) d z) a)
stands_begun At (calls n c p) s d (inl i) = inl (i.no_more)
stands_begun At (calls n c p) s d (inr a) = inr (taken_as s.replies _ _ _ _ (λ z. z) (λ r rs z. (z.0, stands_begun At (p r) (record s { replies = rs }) z.0 z.1, z.2)) a)
stands_begun At (spells how g p) s d (inl i) = inl (i.no_more)
stands_begun At (spells how g p) s d (inr a) = inr (a.0, a.1, stands_begun At (p a.0) s d a.2)
stands_begun At (reads message p) s d (inl i) = inl (i.no_more)
stands_begun At (reads message p) s d (inr a) = inr (a.0, a.1, stands_begun At (p a.0) s d a.2)
stands_begun At (cuts bytes p) s d (inl i) = inl (i.no_more)
stands_begun At (cuts bytes p) s d (inr a) = inr (a.0, a.1, stands_begun At (p a.0) s d a.2)
stands_begun At (unpacks bytes p) s d (inl i) = inl (i.no_more)
stands_begun At (unpacks bytes p) s d (inr a) = inr (a.0, a.1, stands_begun At (p a.0) s d a.2)
stands_begun At (packs q p) s d (inl i) = inl (i.no_more)
stands_begun At (packs q p) s d (inr a) = inr (a.0, a.1, stands_begun At (p a.0) s d a.2)
stands_begun At (writes answer p) s d (inl i) = inl (i.no_more)
stands_begun At (writes answer p) s d (inr a) = inr (a.0, stands_begun At p s a.0 a.1, a.2)

-- less is said of the step
pub stands_weaker : {X : Type 0} (At Also : Plan X → Type 0) → ((p : Plan X) → At p → Also p) → (p : Plan X) (s : Supply) (d : Done) → Stands At p s d → Stands Also p s d
stands_weaker At Also f (gives x) s d i = record { at = f (gives x) i.at; none = i.none; no_more = i.no_more }
stands_weaker At Also f (takes_moment p) s d (inl i) = inl (record { at = f (takes_moment p) i.at; none = i.none; no_more = i.no_more })
stands_weaker At Also f (takes_moment p) s d (inr a) = inr (taken_as s.moments _ _ _ _ (λ z. z) (λ m ms z. stands_weaker At Also f (p m) (record s { moments = ms }) d z) a)
stands_weaker At Also f (takes_word p) s d (inl i) = inl (record { at = f (takes_word p) i.at; none = i.none; no_more = i.no_more })
stands_weaker At Also f (takes_word p) s d (inr a) = inr (taken_as s.words _ _ _ _ (λ z. z) (λ w ws z. stands_weaker At Also f (p w) (record s { words = ws }) d z) a)
stands_weaker At Also f (calls n c p) s d (inl i) = inl (record { at = f (calls n c p) i.at; none = i.none; no_more = i.no_more })
stands_weaker At Also f (calls n c p) s d (inr a) = inr (taken_as s.replies _ _ _ _ (λ z. z) (λ r rs z. (z.0, stands_weaker At Also f (p r) (record s { replies = rs }) z.0 z.1, z.2)) a)
stands_weaker At Also f (spells how g p) s d (inl i) = inl (record { at = f (spells how g p) i.at; none = i.none; no_more = i.no_more })
stands_weaker At Also f (spells how g p) s d (inr a) = inr (a.0, a.1, stands_weaker At Also f (p a.0) s d a.2)
stands_weaker At Also f (reads message p) s d (inl i) = inl (record { at = f (reads message p) i.at; none = i.none; no_more = i.no_more })
stands_weaker At Also f (reads message p) s d (inr a) = inr (a.0, a.1, stands_weaker At Also f (p a.0) s d a.2)
stands_weaker At Also f (cuts bytes p) s d (inl i) = inl (record { at = f (cuts bytes p) i.at; none = i.none; no_more = i.no_more })
stands_weaker At Also f (cuts bytes p) s d (inr a) = inr (a.0, a.1, stands_weaker At Also f (p a.0) s d a.2)
stands_weaker At Also f (unpacks bytes p) s d (inl i) = inl (record { at = f (unpacks bytes p) i.at; none = i.none; no_more = i.no_more })
stands_weaker At Also f (unpacks bytes p) s d (inr a) = inr (a.0, a.1, stands_weaker At Also f (p a.0) s d a.2)
stands_weaker At Also f (packs q p) s d (inl i) = inl (record { at = f (packs q p) i.at; none = i.none; no_more = i.no_more })
stands_weaker At Also f (packs q p) s d (inr a) = inr (a.0, a.1, stands_weaker At Also f (p a.0) s d a.2)
stands_weaker At Also f (writes answer p) s d (inl i) = inl (record { at = f (writes answer p) i.at; none = i.none; no_more = i.no_more })
stands_weaker At Also f (writes answer p) s d (inr a) = inr (a.0, stands_weaker At Also f p s a.0 a.1, a.2)

-- the step of the first plan is that of both, but where the first is over
gives_on : {X Y : Type 0} (unanswered : Bool) (x : X) (p : Plan Y) → StopsAt unanswered (gives x) → StopsAt unanswered p
gives_on true x p a = absurd a
gives_on false x p a = tt

stops_first : {X Y : Type 0} (unanswered : Bool) (p : Plan X) (f : X → Plan Y) → StopsAt unanswered p → StopsAt unanswered (◌>>=◌ p f)
stops_first false p f a = tt
stops_first true (calls n c p) f a = tt
stops_first true _ f a = absurd a

-- so much of the first plan is so much of both
pub stands_first : {X Y : Type 0} (unanswered : Bool) (p : Plan X) (f : X → Plan Y) (s : Supply) (d : Done) → Stands (StopsAt unanswered) p s d → Stands (StopsAt unanswered) (◌>>=◌ p f) s d
stands_first u (gives x) f s d i = subst (λ z. Stands (StopsAt u) (f x) z d) (sym i.none) (subst (λ z. Stands (StopsAt u) (f x) none_left z) (sym i.no_more) (at_none (StopsAt u) (f x) (gives_on u x (f x) i.at)))
stands_first u (takes_moment p) f s d (inl i) = inl (record { at = stops_first u (takes_moment p) f i.at; none = i.none; no_more = i.no_more })
stands_first u (takes_moment p) f s d (inr a) = inr (taken_as s.moments _ _ _ _ (λ z. z) (λ m ms z. stands_first u (p m) f (record s { moments = ms }) d z) a)
stands_first u (takes_word p) f s d (inl i) = inl (record { at = stops_first u (takes_word p) f i.at; none = i.none; no_more = i.no_more })
stands_first u (takes_word p) f s d (inr a) = inr (taken_as s.words _ _ _ _ (λ z. z) (λ w ws z. stands_first u (p w) f (record s { words = ws }) d z) a)
stands_first u (calls n c p) f s d (inl i) = inl (record { at = stops_first u (calls n c p) f i.at; none = i.none; no_more = i.no_more })
stands_first u (calls n c p) f s d (inr a) = inr (taken_as s.replies _ _ _ _ (λ z. z) (λ r rs z. (z.0, stands_first u (p r) f (record s { replies = rs }) z.0 z.1, z.2)) a)
stands_first u (spells how g p) f s d (inl i) = inl (record { at = stops_first u (spells how g p) f i.at; none = i.none; no_more = i.no_more })
stands_first u (spells how g p) f s d (inr a) = inr (a.0, a.1, stands_first u (p a.0) f s d a.2)
stands_first u (reads message p) f s d (inl i) = inl (record { at = stops_first u (reads message p) f i.at; none = i.none; no_more = i.no_more })
stands_first u (reads message p) f s d (inr a) = inr (a.0, a.1, stands_first u (p a.0) f s d a.2)
stands_first u (cuts bytes p) f s d (inl i) = inl (record { at = stops_first u (cuts bytes p) f i.at; none = i.none; no_more = i.no_more })
stands_first u (cuts bytes p) f s d (inr a) = inr (a.0, a.1, stands_first u (p a.0) f s d a.2)
stands_first u (unpacks bytes p) f s d (inl i) = inl (record { at = stops_first u (unpacks bytes p) f i.at; none = i.none; no_more = i.no_more })
stands_first u (unpacks bytes p) f s d (inr a) = inr (a.0, a.1, stands_first u (p a.0) f s d a.2)
stands_first u (packs q p) f s d (inl i) = inl (record { at = stops_first u (packs q p) f i.at; none = i.none; no_more = i.no_more })
stands_first u (packs q p) f s d (inr a) = inr (a.0, a.1, stands_first u (p a.0) f s d a.2)
stands_first u (writes answer p) f s d (inl i) = inl (record { at = stops_first u (writes answer p) f i.at; none = i.none; no_more = i.no_more })
stands_first u (writes answer p) f s d (inr a) = inr (a.0, stands_first u p f s a.0 a.1, a.2)
