-- The walk with what is met again: it goes with the order, and it is one.
use Rattle.std.proofs.Common.{◌≡◌, ℕ, zero, suc, List, [], ◌∷◌, ◌++◌, length, slice_get, Some, sym, refl, ap, ◌∙◌, subst, append_assoc, append-nil}
use Rattle.std.proofs.lemmas.Option.{same_Some}
use Rattle.amf_graph.specs.Graph.{Value, Graph}
use Rattle.amf_graph.specs.Order.{IsDistinct, Walks, over as walk_over, past as walk_past, again as walk_again, first as walk_first}
use Rattle.amf_graph.proofs.Lists.{at_left, at_end, no_entry}
use Rattle.amf_graph.proofs.Walks.{distinct_push}
use Rattle.amf0_spelling.specs.Meets.{Meets, over, past, again, first}

pub meets_prefix : {g : Graph} {xs all ks : List ℕ} {vs : List Value} → Meets g xs vs all ks → (rest : List ℕ) × (all ≡ xs ++ rest)
meets_prefix {xs = xs} over = ([], sym (append-nil xs))
meets_prefix (past x w) = meets_prefix w
meets_prefix (again i k e w) = meets_prefix w
meets_prefix {xs = xs} (first i l n w) = let o = meets_prefix w in (i ∷ o.0, o.1 ∙ append_assoc xs (i ∷ []) o.0)

pub meets_stays : {g : Graph} {xs all ks : List ℕ} {vs : List Value} → Meets g xs vs all ks → (k i : ℕ) → slice_get xs k ≡ Some i → slice_get all k ≡ Some i
meets_stays {xs = xs} w k i e = let o = meets_prefix w in subst (λ z. slice_get z k ≡ Some i) (sym o.1) (at_left xs o.0 k i e)

pub meets_first : {g : Graph} {all ks : List ℕ} {vs : List Value} (xs : List ℕ) (i : ℕ) → Meets g (xs ++ i ∷ []) vs all ks → slice_get all (length xs) ≡ Some i
meets_first xs i w = meets_stays w (length xs) i (at_end xs i)

-- each walk has its list of what is met again
pub walk_meets : {g : Graph} {xs ys : List ℕ} {vs : List Value} → Walks g xs vs ys → (more : List ℕ) × Meets g xs vs ys more
walk_meets walk_over = ([], over)
walk_meets (walk_past x w) = let o = walk_meets w in (o.0, past x o.1)
walk_meets (walk_again i k e w) = let o = walk_meets w in (k ∷ o.0, again i k e o.1)
walk_meets (walk_first i l n w) = let o = walk_meets w in (o.0, first i l n o.1)

pub meets_walk : {g : Graph} {xs ys ks : List ℕ} {vs : List Value} → Meets g xs vs ys ks → Walks g xs vs ys
meets_walk over = walk_over
meets_walk (past x w) = walk_past x (meets_walk w)
meets_walk (again i k e w) = walk_again i k e (meets_walk w)
meets_walk (first i l n w) = walk_first i l n (meets_walk w)

-- one end, and one list
pub meets_fixed : {g : Graph} {xs ys zs ks ls : List ℕ} {vs : List Value} → IsDistinct xs → Meets g xs vs ys ks → Meets g xs vs zs ls → (ys ≡ zs) × (ks ≡ ls)
meets_fixed d over over = (refl, refl)
meets_fixed d (past x a) (past y b) = meets_fixed d a b
meets_fixed d (again {more = us} i k e a) (again j l f b) = let o = meets_fixed d a b in let s = d k l i e f in (o.0, ap (λ w. w ∷ us) s ∙ ap (λ w. l ∷ w) o.1)
meets_fixed d (again i k e a) (first j l n b) = absurd (n k e)
meets_fixed d (first i m n a) (again j l f b) = absurd (n l f)
meets_fixed {xs = xs} d (first i l n a) (first j k m b) = meets_fixed (distinct_push xs i n d) a b

-- what is met again has been met
pub meets_within : {g : Graph} {xs ys ks : List ℕ} {vs : List Value} → Meets g xs vs ys ks → (j k : ℕ) → slice_get ks j ≡ Some k → (i : ℕ) × (slice_get ys k ≡ Some i)
meets_within over j k e = absurd (no_entry j k e)
meets_within (past x w) j k e = meets_within w j k e
meets_within {ys = ys} (again i l f w) zero k e = (i, subst (λ z. slice_get ys z ≡ Some i) (same_Some l k e) (meets_stays w l i f))
meets_within (again i l f w) (suc j) k e = meets_within w j k e
meets_within (first i l n w) j k e = meets_within w j k e
