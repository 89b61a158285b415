-- The nodes that an index can name, in the order in which they are met.
use Rattle.std.proofs.Common.{◌≡◌, ℕ, zero, suc, ◌+◌, ◌≤◌, Bool, true, false, cond, List, [], ◌∷◌, ◌++◌, length, take, slice_get, Some, sym, refl, ap, ◌∙◌, subst, arith}
use Rattle.std.proofs.lemmas.Option.{same_Some}
use Rattle.amf_graph.specs.Graph.{Graph, node_at}
use Rattle.amf_graph.specs.Order.{IsDistinct}
use Rattle.amf_graph.proofs.Lists.{no_entry}
use Rattle.amf0_spelling.specs.Lacks0.{enters0, entered}

pub entered_push : (g : Graph) (xs : List ℕ) (i : ℕ) → entered g (xs ++ i ∷ []) ≡ entered g xs ++ cond (enters0 (node_at g i).head) (i ∷ []) []
entered_push g [] i = refl
entered_push g (x ∷ xs) i = go (enters0 (node_at g x).head) (entered_push g xs i)
  where
    go : (b : Bool) → entered g (xs ++ i ∷ []) ≡ entered g xs ++ cond (enters0 (node_at g i).head) (i ∷ []) [] →
        cond b (x ∷ entered g (xs ++ i ∷ [])) (entered g (xs ++ i ∷ [])) ≡ cond b (x ∷ entered g xs) (entered g xs) ++ cond (enters0 (node_at g i).head) (i ∷ []) []
    go true e = ap (λ w. x ∷ w) e
    go false e = e

-- the place of a node among them
pub entered_at : (g : Graph) (xs : List ℕ) (k i : ℕ) → slice_get xs k ≡ Some i → enters0 (node_at g i).head ≡ true → slice_get (entered g xs) (length (entered g (take k xs))) ≡ Some i
entered_at g [] k i e f = cc
entered_at g (x ∷ xs) zero i e f =
    let same : x ≡ i = same_Some x i e in
    let here : enters0 (node_at g x).head ≡ true = ap (λ w. enters0 (node_at g w).head) same ∙ f in
    ap (λ b. slice_get (cond b (x ∷ entered g xs) (entered g xs)) 0) here ∙ ap (λ w. Some w) same
entered_at g (x ∷ xs) (suc k) i e f = go (enters0 (node_at g x).head) (entered_at g xs k i e f)
  where
    go : (b : Bool) → slice_get (entered g xs) (length (entered g (take k xs))) ≡ Some i →
        slice_get (cond b (x ∷ entered g xs) (entered g xs)) (length (cond b (x ∷ entered g (take k xs)) (entered g (take k xs)))) ≡ Some i
    go true e = e
    go false e = e

-- what is entered enters
pub entered_enters : (g : Graph) (xs : List ℕ) (k i : ℕ) → slice_get (entered g xs) k ≡ Some i → enters0 (node_at g i).head ≡ true
entered_enters g [] k i e = cc
entered_enters g (x ∷ xs) k i e = go (enters0 (node_at g x).head) refl (entered_enters g xs) k e
  where
    go : (b : Bool) → enters0 (node_at g x).head ≡ b → ((k i : ℕ) → slice_get (entered g xs) k ≡ Some i → enters0 (node_at g i).head ≡ true) → (k : ℕ) → slice_get (cond b (x ∷ entered g xs) (entered g xs)) k ≡ Some i → enters0 (node_at g i).head ≡ true
    go true f r zero e = ap (λ w. enters0 (node_at g w).head) (sym (same_Some x i e)) ∙ f
    go true f r (suc k) e = r k i e
    go false f r k e = r k i e

-- and is there
entered_in : (g : Graph) (xs : List ℕ) (k i : ℕ) → slice_get (entered g xs) k ≡ Some i → (l : ℕ) × (slice_get xs l ≡ Some i)
entered_in g [] k i e = absurd (no_entry k i e)
entered_in g (x ∷ xs) k i e = go (enters0 (node_at g x).head) (entered_in g xs) k e
  where
    go : (b : Bool) → ((k i : ℕ) → slice_get (entered g xs) k ≡ Some i → (l : ℕ) × (slice_get xs l ≡ Some i)) → (k : ℕ) → slice_get (cond b (x ∷ entered g xs) (entered g xs)) k ≡ Some i → (l : ℕ) × (slice_get (x ∷ xs) l ≡ Some i)
    go true r zero e = (0, e)
    go true r (suc k) e = let o = r k i e in (suc o.0, o.1)
    go false r k e = let o = r k i e in (suc o.0, o.1)

pub entered_distinct : (g : Graph) (xs : List ℕ) → IsDistinct xs → IsDistinct (entered g xs)
entered_distinct g [] d j k i e f = absurd (no_entry j i e)
entered_distinct g (x ∷ xs) d j k i e f = go (enters0 (node_at g x).head) (entered_distinct g xs (λ j k i e f. let s = d (suc j) (suc k) i e f in omega (arith, s))) j k i e f
  where
    not_later : (n i : ℕ) → x ≡ i → slice_get (entered g xs) n ≡ Some i → ⊥
    not_later n i s e = let o = entered_in g xs n i e in let z = d 0 (suc o.0) i (ap (λ w. Some w) s) o.1 in absurd (omega (arith, z))

    go : (b : Bool) → IsDistinct (entered g xs) → IsDistinct (cond b (x ∷ entered g xs) (entered g xs))
    go true r zero zero i e f = refl
    go true r zero (suc k) i e f = absurd (not_later k i (same_Some x i e) f)
    go true r (suc j) zero i e f = absurd (not_later j i (same_Some x i f) e)
    go true r (suc j) (suc k) i e f = ap suc (r j k i e f)
    go false r j k i e f = r j k i e f

-- what is appended, by place
pub at_right : (xs ys : List ℕ) (p q i : ℕ) → p ≡ length xs + q → slice_get (xs ++ ys) p ≡ Some i → slice_get ys q ≡ Some i
at_right [] ys p q i e f = subst (λ w. slice_get ys w ≡ Some i) (let d : p ≡ q = omega (arith, e) in d) f
at_right (x ∷ xs) ys zero q i e f = absurd (omega (arith, e))
at_right (x ∷ xs) ys (suc p) q i e f = at_right xs ys p q i (omega (arith, e)) f

pub right_at : (xs ys : List ℕ) (q i : ℕ) → slice_get ys q ≡ Some i → slice_get (xs ++ ys) (length xs + q) ≡ Some i
right_at [] ys q i f = subst (λ w. slice_get ys w ≡ Some i) (let d : q ≡ 0 + q = omega arith in d) f
right_at (x ∷ xs) ys q i f = subst (λ w. slice_get (x ∷ (xs ++ ys)) w ≡ Some i) (let d : suc (length xs + q) ≡ suc (length xs) + q = omega arith in d) (right_at xs ys q i f)

pub take_front : (xs ys : List ℕ) (k : ℕ) → k ≤ length xs → take k (xs ++ ys) ≡ take k xs
take_front xs ys zero l = refl
take_front [] ys (suc k) l = absurd (omega arith)
take_front (x ∷ xs) ys (suc k) l = ap (λ w. x ∷ w) (take_front xs ys k (omega arith))
