-- The walk of a graph: it has one end, without repeats, within the graph and closed under parts.
use Rattle.std.proofs.Common.{◌≡◌, ℕ, ◌<◌, ◌≤◌, List, [], ◌∷◌, ◌++◌, length, slice_get, Some, sym, refl, ap, ◌∙◌, subst, inl, inr, arith}
use Rattle.std.specs.List.{AllByRecursion}
use Rattle.std.proofs.lemmas.Bool.{cases_lt}
use Rattle.std.proofs.lemmas.Option.{same_Some, slice_get_within}
use Rattle.amf_graph.specs.Graph.{Value, leaf, node, Graph, node_at}
use Rattle.amf_graph.specs.Order.{Absent, IsDistinct, values_met, Walks, over, past, again, first}
use Rattle.amf_graph.proofs.Lists.{at_left, at_end, at_push, length_pushed}

abbrev pub Within : Graph → List ℕ → Type 0
Within g xs = (k i : ℕ) → slice_get xs k ≡ Some i → i < length g.nodes

pub distinct_push : (xs : List ℕ) (n : ℕ) → Absent xs n → IsDistinct xs → IsDistinct (xs ++ n ∷ [])
distinct_push xs n new d j k i a b =
    elim (at_push xs n j i a) [
      | inl p ↦ elim (at_push xs n k i b) [ inl q ↦ d j k i p q | inr q ↦ absurd (new j (p ∙ ap (λ w. Some w) (sym q.1))) ]
      | inr p ↦ elim (at_push xs n k i b) [ inl q ↦ absurd (new k (q ∙ ap (λ w. Some w) (sym p.1))) | inr q ↦ p.0 ∙ sym q.0 ]
    ]

pub walks_fixed : {g : Graph} {xs ys zs : List ℕ} {vs : List Value} → Walks g xs vs ys → Walks g xs vs zs → ys ≡ zs
walks_fixed over over = refl
walks_fixed (past x a) (past y b) = walks_fixed a b
walks_fixed (again i k e a) (again j l f b) = walks_fixed a b
walks_fixed (again i k e a) (first j l n b) = absurd (n k e)
walks_fixed (first i m n a) (again j l f b) = absurd (n l f)
walks_fixed (first i l n a) (first j k m b) = walks_fixed a b

pub walk_stays : {g : Graph} {xs ys : List ℕ} {vs : List Value} → Walks g xs vs ys → (k i : ℕ) → slice_get xs k ≡ Some i → slice_get ys k ≡ Some i
walk_stays over k i e = e
walk_stays (past x a) k i e = walk_stays a k i e
walk_stays (again j l f a) k i e = walk_stays a k i e
walk_stays {xs = xs} (first j l n a) k i e = walk_stays a k i (at_left xs (j ∷ []) k i e)

pub walk_distinct : {g : Graph} {xs ys : List ℕ} {vs : List Value} → Walks g xs vs ys → IsDistinct xs → IsDistinct ys
walk_distinct over d = d
walk_distinct (past x a) d = walk_distinct a d
walk_distinct (again j l f a) d = walk_distinct a d
walk_distinct {xs = xs} (first j l n a) d = walk_distinct a (distinct_push xs j n d)

within_push : (g : Graph) (xs : List ℕ) (j : ℕ) → j < length g.nodes → Within g xs → Within g (xs ++ j ∷ [])
within_push g xs j l d k i a = elim (at_push xs j k i a) [ inl q ↦ d k i q | inr q ↦ subst (λ w. w < length g.nodes) q.1 l ]

pub walk_within : {g : Graph} {xs ys : List ℕ} {vs : List Value} → Walks g xs vs ys → Within g xs → Within g ys
walk_within over d = d
walk_within (past x a) d = walk_within a d
walk_within (again j l f a) d = walk_within a d
walk_within {g} {xs = xs} (first j l n a) d = walk_within a (within_push g xs j l d)

-- a node among the values stands in the list
abbrev pub In : List ℕ → Value → Type 0
In ys (leaf x) = Unit {0}
In ys (node i) = (k : ℕ) × (slice_get ys k ≡ Some i)

pub each_left : {X : Type 0} (P : X → Type 0) (xs ys : List X) → AllByRecursion P (xs ++ ys) → AllByRecursion P xs
each_left P [] ys h = tt
each_left P (x ∷ xs) ys h = (h.0, each_left P xs ys h.1)

pub each_right : {X : Type 0} (P : X → Type 0) (xs ys : List X) → AllByRecursion P (xs ++ ys) → AllByRecursion P ys
each_right P [] ys h = h
each_right P (x ∷ xs) ys h = each_right P xs ys h.1

-- every value gone through is in the list in the end, and so is each value of a node that was met on the way
pub walk_closed : {g : Graph} {xs ys : List ℕ} {vs : List Value} → Walks g xs vs ys → AllByRecursion (In ys) vs × ((k i : ℕ) → length xs ≤ k → slice_get ys k ≡ Some i → AllByRecursion (In ys) (values_met (node_at g i)))
walk_closed {xs = xs} over = (tt, λ k i l e. absurd (omega (arith, slice_get_within xs k i e)))
walk_closed (past x a) = let o = walk_closed a in ((tt, o.0), o.1)
walk_closed (again j l f a) = let o = walk_closed a in (((l, walk_stays a l j f), o.0), o.1)
walk_closed {g} (first {met = xs} {all = ys} {vs = vs} j l n a) =
    let o = walk_closed a in
    let here : slice_get ys (length xs) ≡ Some j = walk_stays a (length xs) j (at_end xs j) in (
      (((length xs, here)), each_right (In ys) (values_met (node_at g j)) vs o.0),
      λ k i m e. elim (cases_lt (length xs) k) [
        | inl above ↦ o.1 k i (subst (λ w. w ≤ k) (sym (length_pushed xs j)) above) e
        | inr below ↦
            let at : length xs ≡ k = omega arith in
            let same : j ≡ i = same_Some j i (sym here ∙ ap (λ w. slice_get ys w) at ∙ e) in
            subst (λ w. AllByRecursion (In ys) (values_met (node_at g w))) same (each_left (In ys) (values_met (node_at g j)) vs o.0)
      ],
    )
