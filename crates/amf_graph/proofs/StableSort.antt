-- What a stable sort of std ensures names one list alone, that of an insertion sort.
use Rattle.std.proofs.Common.{◌≡◌, suc, ◌+◌, Bool, true, false, cond, not, ◌&&◌, List, [], ◌∷◌, length, get_or, sym, refl, ap, ◌∙◌, subst, arith}
use Rattle.std.specs.List.{AllByRecursion, filter}
use Rattle.std.specs.List.Sorted.{IsSortedBy, IsStableBy, ties}
use Rattle.std.specs.Cmp.{IsStrictWeakOrder}
use Rattle.amf_graph.specs.ByName.{insert_stable, stable_sort}
use Rattle.amf_graph.proofs.Lists.{cons_same}

module _ {X : Type 0} (lt : X → X → Bool) where
  abbrev HeadNot : X → List X → Type 0
  HeadNot p [] = Unit {0}
  HeadNot p (q ∷ qs) = lt q p ≡ false

  abbrev Rising : List X → Type 0
  Rising [] = Unit {0}
  Rising (p ∷ ps) = HeadNot p ps × Rising ps

module _ {X : Type 0} (lt : X → X → Bool) (o : IsStrictWeakOrder lt) where
  ties_both : (a b : Bool) → (not a && not b) ≡ true → (a ≡ false) × (b ≡ false)
  ties_both true b e = cc
  ties_both false true e = cc
  ties_both false false e = (refl, refl)

  ties_from : (a b : Bool) → a ≡ false → b ≡ false → (not a && not b) ≡ true
  ties_from true b e f = cc
  ties_from false true e f = cc
  ties_from false false e f = refl

  not_self : (x : X) → lt x x ≡ false
  not_self x = go (lt x x) refl
    where
      go : (b : Bool) → lt x x ≡ b → lt x x ≡ false
      go true e = o.one_way x x e
      go false e = e

  ties_self : (x : X) → ties lt x x ≡ true
  ties_self x = ties_from (lt x x) (lt x x) (not_self x) (not_self x)

  head_insert : (r p : X) (qs : List X) → lt p r ≡ false → HeadNot lt r qs → HeadNot lt r (insert_stable lt p qs)
  head_insert r p [] e h = e
  head_insert r p (q ∷ qs) e h = go (lt q p)
    where
      go : (t : Bool) → HeadNot lt r (cond t (q ∷ insert_stable lt p qs) (p ∷ q ∷ qs))
      go true = h
      go false = e

  insert_rising : (p : X) (qs : List X) → Rising lt qs → Rising lt (insert_stable lt p qs)
  insert_rising p [] h = (tt, tt)
  insert_rising p (q ∷ qs) h = go (lt q p) refl (insert_rising p qs h.1)
    where
      go : (t : Bool) → lt q p ≡ t → Rising lt (insert_stable lt p qs) → Rising lt (cond t (q ∷ insert_stable lt p qs) (p ∷ q ∷ qs))
      go true e r = (head_insert q p qs (o.one_way q p e) h.0, r)
      go false e r = (e, h)

  sort_rising : (ps : List X) → Rising lt (stable_sort lt ps)
  sort_rising [] = tt
  sort_rising (p ∷ ps) = insert_rising p (stable_sort lt ps) (sort_rising ps)

  insert_ties : (x p : X) (qs : List X) → filter (ties lt x) (insert_stable lt p qs) ≡ filter (ties lt x) (p ∷ qs)
  insert_ties x p [] = refl
  insert_ties x p (q ∷ qs) = go (lt q p) refl (insert_ties x p qs)
    where
      swap : (a b : Bool) → (a ≡ true → b ≡ true → ⊥) → (fs : List X) → cond a (q ∷ cond b (p ∷ fs) fs) (cond b (p ∷ fs) fs) ≡ cond b (p ∷ cond a (q ∷ fs) fs) (cond a (q ∷ fs) fs)
      swap true true h fs = absurd (h refl refl)
      swap true false h fs = refl
      swap false true h fs = refl
      swap false false h fs = refl

      go : (t : Bool) → lt q p ≡ t → filter (ties lt x) (insert_stable lt p qs) ≡ filter (ties lt x) (p ∷ qs) → filter (ties lt x) (cond t (q ∷ insert_stable lt p qs) (p ∷ q ∷ qs)) ≡ filter (ties lt x) (p ∷ q ∷ qs)
      go false e r = refl
      go true e r =
          ap (λ w. cond (ties lt x q) (q ∷ w) w) r
          ∙ swap (ties lt x q) (ties lt x p) (λ a b. let f : lt q p ≡ false = o.chain q x p (ties_both (lt x q) (lt q x) a).1 (ties_both (lt x p) (lt p x) b).0 in cc) (filter (ties lt x) qs)

  sort_ties : (x : X) (ps : List X) → filter (ties lt x) (stable_sort lt ps) ≡ filter (ties lt x) ps
  sort_ties x [] = refl
  sort_ties x (p ∷ ps) = insert_ties x p (stable_sort lt ps) ∙ ap (λ w. cond (ties lt x p) (p ∷ w) w) (sort_ties x ps)

  -- no element of a rising list is below its head
  above_head : (y : X) (ys : List X) → Rising lt ys → HeadNot lt y ys → AllByRecursion (λ w. lt w y ≡ false) ys
  above_head y [] r h = tt
  above_head y (z ∷ zs) r h = (h, step zs r.1 (above_head z zs r.1 r.0))
    where
      step : (ws : List X) → Rising lt ws → AllByRecursion (λ w. lt w z ≡ false) ws → AllByRecursion (λ w. lt w y ≡ false) ws
      step [] r a = tt
      step (w ∷ ws) r a = (o.chain w z y a.0 h, step ws r.1 a.1)

  -- what heads a filter is an element
  from_filter : (P : X → Type 0) (t : X → Bool) (ys : List X) (w : X) (r : List X) → filter t ys ≡ w ∷ r → AllByRecursion P ys → P w
  from_filter P t [] w r e a = cc
  from_filter P t (y ∷ ys) w r e a = go (t y) (λ f. from_filter P t ys w r f a.1) e
    where
      go : (b : Bool) → (filter t ys ≡ w ∷ r → P w) → cond b (y ∷ filter t ys) (filter t ys) ≡ w ∷ r → P w
      go true f e = subst P (cons_same e).0 a.0
      go false f e = f e

  keeps_head : (t : X → Bool) (y : X) (ys : List X) → t y ≡ true → filter t (y ∷ ys) ≡ y ∷ filter t ys
  keeps_head t y ys e = ap (λ b. cond b (y ∷ filter t ys) (filter t ys)) e

  rising_unique : (ys zs : List X) → Rising lt ys → Rising lt zs → ((x : X) → filter (ties lt x) ys ≡ filter (ties lt x) zs) → ys ≡ zs
  rising_unique [] [] r s h = refl
  rising_unique [] (z ∷ zs) r s h = let e : [] ≡ z ∷ filter (ties lt z) zs = h z ∙ keeps_head (ties lt z) z zs (ties_self z) in cc
  rising_unique (y ∷ ys) [] r s h = let e : y ∷ filter (ties lt y) ys ≡ [] = sym (keeps_head (ties lt y) y ys (ties_self y)) ∙ h y in cc
  rising_unique (y ∷ ys) (z ∷ zs) r s h =
      let a : lt z y ≡ false = from_filter (λ w. lt w y ≡ false) (ties lt z) (y ∷ ys) z (filter (ties lt z) zs) (h z ∙ keeps_head (ties lt z) z zs (ties_self z)) (not_self y, above_head y ys r.1 r.0) in
      let b : lt y z ≡ false = from_filter (λ w. lt w z ≡ false) (ties lt y) (z ∷ zs) y (filter (ties lt y) ys) (sym (h y) ∙ keeps_head (ties lt y) y ys (ties_self y)) (not_self z, above_head z zs s.1 s.0) in
      let e : y ∷ filter (ties lt y) ys ≡ z ∷ filter (ties lt y) zs = sym (keeps_head (ties lt y) y ys (ties_self y)) ∙ h y ∙ keeps_head (ties lt y) z zs (ties_from (lt y z) (lt z y) b a) in
      let same : y ≡ z = (cons_same e).0 in
      ap (λ w. w ∷ ys) same ∙ ap (λ w. z ∷ w) (rising_unique ys zs r.1 s.1 (λ x. tail x same (ties lt x z) refl))
    where
      tail : (x : X) → y ≡ z → (t : Bool) → ties lt x z ≡ t → filter (ties lt x) ys ≡ filter (ties lt x) zs
      tail x same true e =
          (cons_same (sym (keeps_head (ties lt x) y ys (ap (λ w. ties lt x w) same ∙ e)) ∙ h x ∙ keeps_head (ties lt x) z zs e)).1
      tail x same false e =
          ap (λ b. cond b (y ∷ filter (ties lt x) ys) (filter (ties lt x) ys)) (sym (ap (λ w. ties lt x w) same ∙ e)) ∙ h x ∙ ap (λ b. cond b (z ∷ filter (ties lt x) zs) (filter (ties lt x) zs)) e

  rising_from_sorted : (ys : List X) → IsSortedBy lt ys → Rising lt ys
  rising_from_sorted [] h = tt
  rising_from_sorted (y ∷ []) h = (tt, tt)
  rising_from_sorted (y ∷ z ∷ zs) h = (h 0 y (omega arith) (omega arith), rising_from_sorted (z ∷ zs) (λ k d l m. let e : suc k + 1 ≡ suc (k + 1) = omega arith in subst (λ w. lt (get_or (y ∷ z ∷ zs) w d) (get_or (z ∷ zs) k d) ≡ false) e (h (suc k) d (omega arith) (omega arith))))

  -- the two clauses of a stable sort name its result
  pub stable_sort_is : (xs ys : List X) → IsSortedBy lt ys → IsStableBy lt xs ys → ys ≡ stable_sort lt xs
  stable_sort_is xs ys s t = rising_unique ys (stable_sort lt xs) (rising_from_sorted ys s) (sort_rising xs) (λ x. t x ∙ sym (sort_ties x xs))

  pub stable_sort_again : (xs : List X) → stable_sort lt (stable_sort lt xs) ≡ stable_sort lt xs
  stable_sort_again xs = rising_unique (stable_sort lt (stable_sort lt xs)) (stable_sort lt xs) (sort_rising (stable_sort lt xs)) (sort_rising xs) (λ x. sort_ties x (stable_sort lt xs))

module _ {X : Type 0} (lt : X → X → Bool) where
  insert_all : (Q : X → Type 0) (p : X) (qs : List X) → Q p → AllByRecursion Q qs → AllByRecursion Q (insert_stable lt p qs)
  insert_all Q p [] n h = (n, tt)
  insert_all Q p (q ∷ qs) n h = go (lt q p) (insert_all Q p qs n h.1)
    where
      go : (t : Bool) → AllByRecursion Q (insert_stable lt p qs) → AllByRecursion Q (cond t (q ∷ insert_stable lt p qs) (p ∷ q ∷ qs))
      go true r = (h.0, r)
      go false r = (n, h)

  pub sort_all : (Q : X → Type 0) (ps : List X) → AllByRecursion Q ps → AllByRecursion Q (stable_sort lt ps)
  sort_all Q [] h = tt
  sort_all Q (p ∷ ps) h = insert_all Q p (stable_sort lt ps) h.0 (sort_all Q ps h.1)

  insert_all_back : (Q : X → Type 0) (p : X) (qs : List X) → AllByRecursion Q (insert_stable lt p qs) → Q p × AllByRecursion Q qs
  insert_all_back Q p [] h = h
  insert_all_back Q p (q ∷ qs) h = go (lt q p) (insert_all_back Q p qs) h
    where
      go : (t : Bool) → (AllByRecursion Q (insert_stable lt p qs) → Q p × AllByRecursion Q qs) → AllByRecursion Q (cond t (q ∷ insert_stable lt p qs) (p ∷ q ∷ qs)) → Q p × (Q q × AllByRecursion Q qs)
      go true r h = let o = r h.1 in (o.0, (h.0, o.1))
      go false r h = h

  pub sort_all_back : (Q : X → Type 0) (ps : List X) → AllByRecursion Q (stable_sort lt ps) → AllByRecursion Q ps
  sort_all_back Q [] h = tt
  sort_all_back Q (p ∷ ps) h = let o = insert_all_back Q p (stable_sort lt ps) h in (o.0, sort_all_back Q ps o.1)

  insert_length : (p : X) (qs : List X) → length (insert_stable lt p qs) ≡ suc (length qs)
  insert_length p [] = refl
  insert_length p (q ∷ qs) = go (lt q p) (insert_length p qs)
    where
      go : (t : Bool) → length (insert_stable lt p qs) ≡ suc (length qs) → length (cond t (q ∷ insert_stable lt p qs) (p ∷ q ∷ qs)) ≡ suc (suc (length qs))
      go true r = ap suc r
      go false r = refl

  pub sort_length : (ps : List X) → length (stable_sort lt ps) ≡ length ps
  sort_length [] = refl
  sort_length (p ∷ ps) = insert_length p (stable_sort lt ps) ∙ ap suc (sort_length ps)
