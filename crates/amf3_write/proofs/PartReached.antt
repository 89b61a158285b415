-- What a part leads to is reached from the root, so it has a number; and the first lack of the part that is the whole graph is the graph's.
use Rattle.std.proofs.Common.{◌≡◌, ℕ, zero, suc, ◌≤◌, List, [], ◌∷◌, ◌++◌, length, slice_get, Some, sym, ap, ◌∙◌, subst, inl, inr, arith}
use Rattle.std.specs.List.{AllByRecursion}
use Rattle.std.proofs.lemmas.Bool.{cases_lt}
use Rattle.std.proofs.lemmas.Option.{same_Some, slice_get_within}
use Rattle.amf_graph.specs.declared.lack.LackKind.{LackKind}
use Rattle.amf_graph.specs.declared.lack.LackKind.TheVariants.{EmptyName}
use Rattle.amf_graph.specs.Graph.{Value, node, Graph, node_at}
use Rattle.amf_graph.specs.Order.{values_met, Walks, over, past, again, first, IsOrder}
use Rattle.amf_graph.specs.Reached.{IsReachedValue}
use Rattle.amf_graph.proofs.Lists.{at_end, length_pushed}
use Rattle.amf_graph.proofs.Walks.{In, walks_fixed, walk_closed}
use Rattle.amf3_spelling.specs.Lacks3.{Lacks3, IsLack3}
use Rattle.amf_graph.proofs.Reaching.{held_stands, reached_stands}
use Rattle.amf3_write.specs.PartLacks.{PartLacks3, IsPartLack3, HasUnnamed}
use Rattle.amf3_write.proofs.Wrote.{each_append}
use Rattle.amf3_write.proofs.Leading.{walk_stays}

-- an entry that is not among the first ones
at_behind : {X : Type 0} (xs ys : List X) (k : ℕ) (x : X) → length xs ≤ k → slice_get (xs ++ ys) k ≡ Some x → (j : ℕ) × (slice_get ys j ≡ Some x)
at_behind [] ys k x l e = (k, e)
at_behind (y ∷ xs) ys zero x l e = absurd (omega arith)
at_behind (y ∷ xs) ys (suc k) x l e = at_behind xs ys k x (omega arith) e

module _ (g : Graph) (order : List ℕ) (walk : IsOrder g order) where
  met_in : (j k : ℕ) → slice_get order k ≡ Some j → AllByRecursion (In order) (values_met (node_at g j))
  met_in j k e = (walk_closed walk).1 k j (omega arith) e

  pub value_in : (v : Value) → IsReachedValue g v → In order v
  value_in v (inl e) = subst (λ w. In order w) e (walk_closed walk).0.0
  value_in v (inr (j, r, h)) = let o = reached_stands g order walk j r in held_stands g order walk j o.0 o.1 v h

  -- the nodes that a walk over nodes of the order meets
  found_in : {met all : List ℕ} {vs : List Value} → Walks g met vs all → AllByRecursion (In order) vs → (k i : ℕ) → length met ≤ k → slice_get all k ≡ Some i → In order (node i)
  found_in {met} over h k i l e = absurd (omega (arith, slice_get_within met k i e))
  found_in (past x a) h k i l e = found_in a h.1 k i l e
  found_in (again j n f a) h k i l e = found_in a h.1 k i l e
  found_in {met} {all} (first {vs = vs} j m n a) h k i l e = elim (cases_lt (length met) k) [
    | inl above ↦ found_in a (each_append (In order) (values_met (node_at g j)) vs (met_in j h.0.0 h.0.1) h.1) k i (subst (λ w. w ≤ k) (sym (length_pushed met j)) above) e
    | inr below ↦
        let at : length met ≡ k = omega arith in
        let same : j ≡ i = same_Some j i (sym (walk_stays a (length met) j (at_end met j)) ∙ ap (λ w. slice_get all w) at ∙ e) in
        subst (λ w. In order (node w)) same h.0
  ]

  -- a part with a node that has an empty name has a lack with a number
  pub some_lack : (v : Value) (met found : List ℕ) → IsReachedValue g v → HasUnnamed g v met → Walks g met (v ∷ []) (met ++ found) → (n : ℕ) × (k : LackKind) × PartLacks3 g order found n k
  some_lack v met found r h w =
      let at = h.is_met (met ++ found) w in
      let place = at_behind met found at.0 h.node at.1 at.2 in
      let number = found_in w (value_in v r, tt) at.0 h.node at.1 at.2 in
      (number.0, EmptyName, record { node = h.node; numbered = number.1; place = place.0; is_found = place.1; lacks = h.unnamed })

-- The whole graph.

pub whole_lack : (g : Graph) (number : ℕ) (kind : LackKind) → IsPartLack3 g g.root [] number kind → IsLack3 g number kind
whole_lack g number kind p = (
  p.order,
  p.is_order,
  record {
    lacks = there number kind p.first.lacks;
    least = λ n k l. p.first.least n k (back n k l);
    first = λ k l. p.first.first k (back number k l);
  },
)
  where
    same : p.order ≡ p.found
    same = walks_fixed p.is_order p.walk

    back : (n : ℕ) (k : LackKind) → Lacks3 g p.order n k → PartLacks3 g p.order p.found n k
    back n k l = record { node = l.0; numbered = l.1; place = n; is_found = subst (λ w. slice_get w n ≡ Some l.0) same l.1; lacks = l.2 }

    there : (n : ℕ) (k : LackKind) → PartLacks3 g p.order p.found n k → Lacks3 g p.order n k
    there n k l = (l.node, l.numbered, l.lacks)
