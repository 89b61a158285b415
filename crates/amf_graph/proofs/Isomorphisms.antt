-- Isomorphic is symmetric and transitive.
use Rattle.std.proofs.Common.{◌≡◌, ℕ, zero, suc, Bool, true, false, cond, eqb, List, [], ◌∷◌, ◌++◌, slice_get, Some, sym, refl, ap, ◌∙◌, subst, inl, inr, eq-eqb}
use Rattle.std.specs.List.{AllZip}
use Rattle.std.proofs.lemmas.Option.{same_Some}
use Rattle.std.proofs.lemmas.Bool.{eqb-true}
use Rattle.amf_graph.specs.Graph.{Value, leaf, node, Node, Graph, node_at}
use Rattle.amf_graph.specs.ByName.{by_name}
use Rattle.amf_graph.specs.Isomorphic.{ValuesMatch, PairsMatch, NodesMatch, StandIn, Isomorphic}
use Rattle.amf_graph.proofs.Lists.{at_left, at_right, in_either}
use Rattle.amf_graph.proofs.Matching.{Implies, values_more, nodes_more}

abbrev Flip : (ℕ → ℕ → Type 0) → ℕ → ℕ → Type 0
Flip P i j = P j i

values_flip : (P : ℕ → ℕ → Type 0) (v w : Value) → ValuesMatch P v w → ValuesMatch (Flip P) w v
values_flip P (leaf x) (leaf y) m = sym m
values_flip P (node i) (node j) m = m
values_flip P (leaf x) (node j) m = elim m [ ]
values_flip P (node i) (leaf y) m = elim m [ ]

zip_flip : {A : Type 0} (R S : A → A → Type 0) → ((x y : A) → R x y → S y x) → (xs ys : List A) → AllZip R xs ys → AllZip S ys xs
zip_flip R S h [] [] m = tt
zip_flip R S h [] (y ∷ ys) m = elim m [ ]
zip_flip R S h (x ∷ xs) [] m = elim m [ ]
zip_flip R S h (x ∷ xs) (y ∷ ys) m = (h x y m.0, zip_flip R S h xs ys m.1)

nodes_flip : (P : ℕ → ℕ → Type 0) (a b : Node) → NodesMatch P a b → NodesMatch (Flip P) b a
nodes_flip P a b m = record {
  head = sym m.head;
  names = zip_flip (PairsMatch P) (PairsMatch (Flip P)) (λ p q n. (sym n.0, values_flip P p.1 q.1 n.1)) (by_name a.names) (by_name b.names) m.names;
  values = zip_flip (ValuesMatch P) (ValuesMatch (Flip P)) (values_flip P) a.values b.values m.values;
}

abbrev flipped : List (ℕ × ℕ) → List (ℕ × ℕ)
flipped [] = []
flipped (p ∷ ps) = (p.1, p.0) ∷ flipped ps

flipped_at : (ps : List (ℕ × ℕ)) (k i j : ℕ) → slice_get ps k ≡ Some (i, j) → slice_get (flipped ps) k ≡ Some (j, i)
flipped_at [] k i j e = cc
flipped_at (p ∷ ps) zero i j e = let q = same_Some p (i, j) e in ap (λ (x : ℕ × ℕ). Some (x.1, x.0)) q
flipped_at (p ∷ ps) (suc k) i j e = flipped_at ps k i j e

at_flipped : (ps : List (ℕ × ℕ)) (k i j : ℕ) → slice_get (flipped ps) k ≡ Some (i, j) → slice_get ps k ≡ Some (j, i)
at_flipped [] k i j e = cc
at_flipped (p ∷ ps) zero i j e = let q = same_Some (p.1, p.0) (i, j) e in ap (λ (x : ℕ × ℕ). Some (x.1, x.0)) q
at_flipped (p ∷ ps) (suc k) i j e = at_flipped ps k i j e

pub isomorphic_sym : (g h : Graph) → Isomorphic g h → Isomorphic h g
isomorphic_sym g h i =
    let to : Implies (Flip (StandIn i.pairs)) (StandIn (flipped i.pairs)) = λ a b p. (p.0, flipped_at i.pairs p.0 b a p.1) in
    let from : Implies (StandIn (flipped i.pairs)) (Flip (StandIn i.pairs)) = λ a b p. (p.0, at_flipped i.pairs p.0 a b p.1) in
    record {
      pairs = flipped i.pairs;
      left = λ a b c p q. i.right b c a (from a b p) (from a c q);
      right = λ a b c p q. i.left c a b (from a c p) (from b c q);
      within = λ a b p. let w = i.within b a (from a b p) in (w.1, w.0);
      root = values_more (Flip (StandIn i.pairs)) (StandIn (flipped i.pairs)) to h.root g.root (values_flip (StandIn i.pairs) g.root h.root i.root);
      nodes = λ a b p. nodes_more (Flip (StandIn i.pairs)) (StandIn (flipped i.pairs)) to (node_at h a) (node_at g b) (nodes_flip (StandIn i.pairs) (node_at g b) (node_at h a) (i.nodes b a (from a b p)));
    }

-- one pairing after another
abbrev pub After : (ℕ → ℕ → Type 0) → (ℕ → ℕ → Type 0) → ℕ → ℕ → Type 0
After P Q i k = (j : ℕ) × P i j × Q j k

values_after : (P Q : ℕ → ℕ → Type 0) (v w u : Value) → ValuesMatch P v w → ValuesMatch Q w u → ValuesMatch (After P Q) v u
values_after P Q (leaf x) (leaf y) (leaf z) m n = m ∙ n
values_after P Q (leaf x) (leaf y) (node k) m n = elim n [ ]
values_after P Q (leaf x) (node j) u m n = elim m [ ]
values_after P Q (node i) (leaf y) u m n = elim m [ ]
values_after P Q (node i) (node j) (leaf z) m n = elim n [ ]
values_after P Q (node i) (node j) (node k) m n = (j, m, n)

zip_after : {A : Type 0} (R S T : A → A → Type 0) → ((x y z : A) → R x y → S y z → T x z) → (xs ys zs : List A) → AllZip R xs ys → AllZip S ys zs → AllZip T xs zs
zip_after R S T h [] [] [] m n = tt
zip_after R S T h [] [] (z ∷ zs) m n = elim n [ ]
zip_after R S T h [] (y ∷ ys) zs m n = elim m [ ]
zip_after R S T h (x ∷ xs) [] zs m n = elim m [ ]
zip_after R S T h (x ∷ xs) (y ∷ ys) [] m n = elim n [ ]
zip_after R S T h (x ∷ xs) (y ∷ ys) (z ∷ zs) m n = (h x y z m.0 n.0, zip_after R S T h xs ys zs m.1 n.1)

nodes_after : (P Q : ℕ → ℕ → Type 0) (a b c : Node) → NodesMatch P a b → NodesMatch Q b c → NodesMatch (After P Q) a c
nodes_after P Q a b c m n = record {
  head = m.head ∙ n.head;
  names = zip_after (PairsMatch P) (PairsMatch Q) (PairsMatch (After P Q)) (λ p q r x y. (x.0 ∙ y.0, values_after P Q p.1 q.1 r.1 x.1 y.1)) (by_name a.names) (by_name b.names) (by_name c.names) m.names n.names;
  values = zip_after (ValuesMatch P) (ValuesMatch Q) (ValuesMatch (After P Q)) (values_after P Q) a.values b.values c.values m.values n.values;
}

-- the pairs that begin with p and go on in the list
abbrev joined : ℕ × ℕ → List (ℕ × ℕ) → List (ℕ × ℕ)
joined p [] = []
joined p (q ∷ qs) = cond (eqb p.1 q.0) ((p.0, q.1) ∷ joined p qs) (joined p qs)

abbrev composed : List (ℕ × ℕ) → List (ℕ × ℕ) → List (ℕ × ℕ)
composed [] qs = []
composed (p ∷ ps) qs = joined p qs ++ composed ps qs

joined_at : (p : ℕ × ℕ) (qs : List (ℕ × ℕ)) (k i l : ℕ) → slice_get (joined p qs) k ≡ Some (i, l) → (i ≡ p.0) × StandIn qs p.1 l
joined_at p [] k i l e = cc
joined_at p (q ∷ qs) k i l e = go (eqb p.1 q.0) refl k e (λ m f. joined_at p qs m i l f)
  where
    go : (t : Bool) → eqb p.1 q.0 ≡ t → (k : ℕ) → slice_get (cond t ((p.0, q.1) ∷ joined p qs) (joined p qs)) k ≡ Some (i, l) → ((m : ℕ) → slice_get (joined p qs) m ≡ Some (i, l) → (i ≡ p.0) × StandIn qs p.1 l) → (i ≡ p.0) × StandIn (q ∷ qs) p.1 l
    go true f zero e r =
        let s = same_Some (p.0, q.1) (i, l) e in
        let same : p.1 ≡ q.0 = eqb-true p.1 q.0 f in
        (sym (ap (λ (x : ℕ × ℕ). x.0) s), (0, ap (λ (x : ℕ). Some (x, q.1)) (sym same) ∙ ap (λ (x : ℕ × ℕ). Some (p.1, x.1)) s))
    go true f (suc k) e r = let o = r k e in (o.0, (suc o.1.0, o.1.1))
    go false f k e r = let o = r k e in (o.0, (suc o.1.0, o.1.1))

at_joined : (p : ℕ × ℕ) (qs : List (ℕ × ℕ)) (k l : ℕ) → slice_get qs k ≡ Some (p.1, l) → StandIn (joined p qs) p.0 l
at_joined p [] k l e = cc
at_joined p (q ∷ qs) zero l e =
    let s = same_Some q (p.1, l) e in
    let f : eqb p.1 q.0 ≡ true = eq-eqb p.1 q.0 (sym (ap (λ (x : ℕ × ℕ). x.0) s)) in
    subst (λ t. StandIn (cond t ((p.0, q.1) ∷ joined p qs) (joined p qs)) p.0 l) (sym f) (0, ap (λ (x : ℕ × ℕ). Some (p.0, x.1)) s)
at_joined p (q ∷ qs) (suc k) l e = go (eqb p.1 q.0) (at_joined p qs k l e)
  where
    go : (t : Bool) → StandIn (joined p qs) p.0 l → StandIn (cond t ((p.0, q.1) ∷ joined p qs) (joined p qs)) p.0 l
    go true r = (suc r.0, r.1)
    go false r = r

composed_at : (ps qs : List (ℕ × ℕ)) (k i l : ℕ) → slice_get (composed ps qs) k ≡ Some (i, l) → After (StandIn ps) (StandIn qs) i l
composed_at [] qs k i l e = cc
composed_at (p ∷ ps) qs k i l e =
    elim (in_either (joined p qs) (composed ps qs) k (i, l) e) [
      | inl m ↦ let o = joined_at p qs m.0 i l m.1 in (p.1, (0, ap (λ x. Some (x, p.1)) (sym o.0)), o.1)
      | inr m ↦ let o = composed_at ps qs m.0 i l m.1 in (o.0, (suc o.1.0, o.1.1), o.2)
    ]

at_composed : (ps qs : List (ℕ × ℕ)) (k i j l : ℕ) → slice_get ps k ≡ Some (i, j) → StandIn qs j l → StandIn (composed ps qs) i l
at_composed [] qs k i j l e m = cc
at_composed (p ∷ ps) qs zero i j l e m =
    let s = same_Some p (i, j) e in
    let o = at_joined p qs m.0 l (m.1 ∙ ap (λ (x : ℕ × ℕ). Some (x.1, l)) (sym s)) in
    subst (λ x. StandIn (joined p qs ++ composed ps qs) x l) (ap (λ (x : ℕ × ℕ). x.0) s) (o.0, at_left (joined p qs) (composed ps qs) o.0 (p.0, l) o.1)
at_composed (p ∷ ps) qs (suc k) i j l e m = let o = at_composed ps qs k i j l e m in at_right (joined p qs) (composed ps qs) o.0 (i, l) o.1

pub isomorphic_trans : (g h f : Graph) → Isomorphic g h → Isomorphic h f → Isomorphic g f
isomorphic_trans g h f x y =
    let P : ℕ → ℕ → Type 0 = After (StandIn x.pairs) (StandIn y.pairs) in
    let Q : ℕ → ℕ → Type 0 = StandIn (composed x.pairs y.pairs) in
    let to : Implies (After (StandIn x.pairs) (StandIn y.pairs)) (StandIn (composed x.pairs y.pairs)) = λ i l p. at_composed x.pairs y.pairs p.1.0 i p.0 l p.1.1 p.2 in
    let from : Implies (StandIn (composed x.pairs y.pairs)) (After (StandIn x.pairs) (StandIn y.pairs)) = λ i l p. composed_at x.pairs y.pairs p.0 i l p.1 in
    record {
      pairs = composed x.pairs y.pairs;
      left = λ i j k p q.
          let v = from i j p in
          let w = from i k q in
          let same : w.0 ≡ v.0 = x.left i w.0 v.0 w.1 v.1 in
          y.left v.0 j k v.2 (subst (λ z. StandIn y.pairs z k) same w.2);
      right = λ i j k p q.
          let v = from i k p in
          let w = from j k q in
          let same : w.0 ≡ v.0 = y.right w.0 v.0 k w.2 v.2 in
          x.right i j v.0 v.1 (subst (λ z. StandIn x.pairs j z) same w.1);
      within = λ i j p. let v = from i j p in ((x.within i v.0 v.1).0, (y.within v.0 j v.2).1);
      root = values_more (After (StandIn x.pairs) (StandIn y.pairs)) (StandIn (composed x.pairs y.pairs)) to g.root f.root (values_after (StandIn x.pairs) (StandIn y.pairs) g.root h.root f.root x.root y.root);
      nodes = λ i l p. let v = from i l p in nodes_more (After (StandIn x.pairs) (StandIn y.pairs)) (StandIn (composed x.pairs y.pairs)) to (node_at g i) (node_at f l)
          (nodes_after (StandIn x.pairs) (StandIn y.pairs) (node_at g i) (node_at h v.0) (node_at f l) (x.nodes i v.0 v.1) (y.nodes v.0 l v.2));
    }
