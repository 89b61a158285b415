-- What the holder of a file's pairs leads to is reached, and is not the holder.
use Rattle.std.proofs.Common.{◌≡◌, ℕ, cond, List, [], ◌∷◌, ◌++◌, ap, ◌∙◌, subst, inl, inr, append-nil}
use Rattle.std.specs.List.{AllByRecursion}
use Rattle.amf_graph.specs.Graph.{Value, leaf, node, Graph, node_at}
use Rattle.amf_graph.specs.ByName.{by_name}
use Rattle.amf_graph.specs.Order.{is_array, seconds, values_met, Walks, again, first}
use Rattle.amf_graph.specs.Reached.{Reached, at_root, inside, Holds, IsReachedValue}
use Rattle.amf_graph.proofs.Alls.{each_from}
use Rattle.amf_graph.proofs.Lists.{no_entry}
use Rattle.amf_graph.proofs.NameOrder.{by_name_all}
use Rattle.amf3_spelling.proofs.Aside3.{IsOf, IsClosed}
use Rattle.amf_sol.specs.SharedObject.{IsHolder}

module _ (g : Graph) (h : ℕ) where
  -- reached, and not the holder
  abbrev pub IsOther : ℕ → Type 0
  IsOther i = Reached g i × (i ≡ h → ⊥)

  -- a value that leads to no holder
  abbrev pub OtherValue : Value → Type 0
  OtherValue = IsOf IsOther

module _ (g : Graph) (h : ℕ) (holder : IsHolder g h) where
  pub held_other : (i : ℕ) → Reached g i → (v : Value) → Holds (node_at g i) v → OtherValue g h v
  held_other i r (leaf x) k = tt
  held_other i r (node j) k = (inside i r k, λ e. holder.unheld i r (subst (λ n. Holds (node_at g i) (node n)) e k))

  pub closed : IsClosed (IsOther g h) g
  closed i q = (
    each_from (OtherValue g h) (node_at g i).values (λ k v e. held_other i q.0 v (inl (k, e))),
    each_from (λ (p : List ℕ × Value). OtherValue g h p.1) (node_at g i).names (λ k p e. held_other i q.0 p.1 (inr (k, p.0, e))),
  )

  reached : Reached g h
  reached = at_root holder.pairs.root

  -- the pairs, in the order of their names
  pub pairs_other : AllByRecursion (λ p. OtherValue g h p.1) (by_name (node_at g h).names)
  pairs_other = by_name_all (λ (p : List ℕ × Value). OtherValue g h p.1) (node_at g h).names (each_from (λ (p : List ℕ × Value). OtherValue g h p.1) (node_at g h).names (λ k p e. held_other h reached p.1 (inr (k, p.0, e))))

  pub pairs_reached : AllByRecursion (λ p. IsReachedValue g p.1) (by_name (node_at g h).names)
  pairs_reached = by_name_all (λ (p : List ℕ × Value). IsReachedValue g p.1) (node_at g h).names (each_from (λ (p : List ℕ × Value). IsReachedValue g p.1) (node_at g h).names (λ k p e. inr (h, reached, inr (k, p.0, e))))

  -- the values of the holder are those of its pairs
  pub holder_met : values_met (node_at g h) ≡ seconds (by_name (node_at g h).names)
  holder_met =
      let a = node_at g h in
      let ps = seconds (by_name a.names) in
      ap (λ b. cond b (ps ++ a.values) (a.values ++ ps)) (ap is_array holder.pairs.head) ∙ ap (λ vs. vs ++ ps) holder.pairs.unsealed

  begun : {order : List ℕ} → Walks g [] (node h ∷ []) order → Walks g (h ∷ []) (values_met (node_at g h)) order
  begun (again i k e w) = absurd (no_entry k i e)
  begun {order} (first i l n w) = subst (λ z. Walks g (h ∷ []) z order) (append-nil (values_met (node_at g h))) w

  -- the order begins with the holder, and goes on over its pairs
  pub order_begun : (order : List ℕ) → Walks g [] (g.root ∷ []) order → Walks g (h ∷ []) (seconds (by_name (node_at g h).names)) order
  order_begun order w = subst (λ z. Walks g (h ∷ []) z order) holder_met (begun (subst (λ v. Walks g [] (v ∷ []) order) holder.pairs.root w))
