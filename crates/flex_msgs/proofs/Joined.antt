-- Two graphs that stand apart in one.
use Rattle.std.proofs.Common.{◌≡◌, ℕ, zero, suc, ◌+◌, ◌<◌, ◌⊎◌, Bool, true, false, cond, List, [], ◌∷◌, ◌++◌, length, map, slice_get, Some, sym, refl, ap, ◌∙◌, subst, arith, inl, inr}
use Rattle.std.specs.List.{AllZip}
use Rattle.std.proofs.Math.ListN as listn
use Rattle.std.proofs.lemmas.List.{length-map, length-append, get_or-append-add, get_or_append_left}
use Rattle.std.proofs.lemmas.Option.{same_Some}
use Rattle.amf_graph.specs.Graph.{Value, leaf, node, Node, Graph, node_at, no_node}
use Rattle.amf_graph.specs.ByName.{before, by_name, insert_stable}
use Rattle.amf_graph.specs.Isomorphic.{ValuesMatch, PairsMatch, NodesMatch, StandIn}
use Rattle.amf_graph.proofs.Lists.{at_left}
use Rattle.amf_graph.proofs.Matching.{Implies, values_more, zip_more, nodes_more}
use Rattle.amf_graph.specs.Roots.{SameFrom}
use Rattle.flex_msgs.specs.Answers.{shifted_value, shifted_node, shifted_nodes}
use Rattle.flex_msgs.specs.FlexLaws.{AreApart, joined, JoinLaw}

-- Pairs whose first numbers are moved.

abbrev moved : ℕ → List (ℕ × ℕ) → List (ℕ × ℕ)
moved n ps = map (λ p. (n + p.0, p.1)) ps

moved_at : (n : ℕ) (ps : List (ℕ × ℕ)) (k i j : ℕ) → slice_get (moved n ps) k ≡ Some (i, j) → (l : ℕ) × (slice_get ps k ≡ Some (l, j)) × (i ≡ n + l)
moved_at n [] k i j e = cc
moved_at n (p ∷ ps) zero i j e =
    let q = same_Some (n + p.0, p.1) (i, j) e in
    let second : p.1 ≡ j = ap (λ (w : ℕ × ℕ). w.1) q in
    (p.0, ap (λ w. Some (p.0, w)) second, sym (ap (λ (w : ℕ × ℕ). w.0) q))
moved_at n (p ∷ ps) (suc k) i j e = moved_at n ps k i j e

at_moved : (n : ℕ) (ps : List (ℕ × ℕ)) (k l j : ℕ) → slice_get ps k ≡ Some (l, j) → slice_get (moved n ps) k ≡ Some (n + l, j)
at_moved n [] k l j e = cc
at_moved n (p ∷ ps) zero l j e = let q = same_Some p (l, j) e in ap (λ (w : ℕ × ℕ). Some (n + w.0, w.1)) q
at_moved n (p ∷ ps) (suc k) l j e = at_moved n ps k l j e

pub at_right : {X : Type 0} (xs ys : List X) (k : ℕ) (y : X) → slice_get ys k ≡ Some y → (m : ℕ) × (slice_get (xs ++ ys) m ≡ Some y)
at_right [] ys k y e = (k, e)
at_right (x ∷ xs) ys k y e = let r = at_right xs ys k y e in (suc r.0, r.1)

pub at_either : {X : Type 0} (xs ys : List X) (k : ℕ) (y : X) → slice_get (xs ++ ys) k ≡ Some y → (slice_get xs k ≡ Some y) ⊎ ((m : ℕ) × (slice_get ys m ≡ Some y))
at_either [] ys k y e = inr (k, e)
at_either (x ∷ xs) ys zero y e = inl e
at_either (x ∷ xs) ys (suc k) y e = at_either xs ys k y e

pub zip_append : {A : Type 0} (R : A → A → Type 0) (xs ys us ws : List A) → AllZip R xs ys → AllZip R us ws → AllZip R (xs ++ us) (ys ++ ws)
zip_append R [] [] us ws m n = n
zip_append R [] (y ∷ ys) us ws m n = elim m [ ]
zip_append R (x ∷ xs) [] us ws m n = elim m [ ]
zip_append R (x ∷ xs) (y ∷ ys) us ws m n = (m.0, zip_append R xs ys us ws m.1 n)

zip_mapped : {A : Type 0} (R S : A → A → Type 0) (f : A → A) → ((x y : A) → R x y → S (f x) y) → (xs ys : List A) → AllZip R xs ys → AllZip S (map f xs) ys
zip_mapped R S f h [] [] m = tt
zip_mapped R S f h [] (y ∷ ys) m = elim m [ ]
zip_mapped R S f h (x ∷ xs) [] m = elim m [ ]
zip_mapped R S f h (x ∷ xs) (y ∷ ys) m = (h x y m.0, zip_mapped R S f h xs ys m.1)

-- By-name order goes by the names alone.

module _ (n : ℕ) where
  abbrev shifted_pair : List ℕ × Value → List ℕ × Value
  shifted_pair p = (p.0, shifted_value n p.1)

  insert_shifted : (p : List ℕ × Value) (qs : List (List ℕ × Value)) → insert_stable before (shifted_pair p) (map shifted_pair qs) ≡ map shifted_pair (insert_stable before p qs)
  insert_shifted p [] = refl
  insert_shifted p (q ∷ qs) = go (before q p) (insert_shifted p qs)
    where
      go : (t : Bool) → insert_stable before (shifted_pair p) (map shifted_pair qs) ≡ map shifted_pair (insert_stable before p qs) → cond t (shifted_pair q ∷ insert_stable before (shifted_pair p) (map shifted_pair qs)) (shifted_pair p ∷ shifted_pair q ∷ map shifted_pair qs) ≡ map shifted_pair (cond t (q ∷ insert_stable before p qs) (p ∷ q ∷ qs))
      go true e = ap (λ w. shifted_pair q ∷ w) e
      go false e = refl

  pub sorted_shifted : (ps : List (List ℕ × Value)) → by_name (map shifted_pair ps) ≡ map shifted_pair (by_name ps)
  sorted_shifted [] = refl
  sorted_shifted (p ∷ ps) = ap (insert_stable before (shifted_pair p)) (sorted_shifted ps) ∙ insert_shifted p (by_name ps)

module _ (g k h : Graph) (vs ws us xs : List Value) (s : SameFrom g h vs ws) (t : SameFrom k h us xs) (apart : AreApart s.pairs t.pairs) where
  abbrev n : ℕ
  n = length g.nodes

  abbrev all_pairs : List (ℕ × ℕ)
  all_pairs = s.pairs ++ moved n t.pairs

  abbrev Q : ℕ → ℕ → Type 0
  Q = StandIn all_pairs

  abbrev New : ℕ → ℕ → Type 0
  New i j = (l : ℕ) × StandIn t.pairs l j × (i ≡ n + l)

  split : (i j : ℕ) → Q i j → StandIn s.pairs i j ⊎ New i j
  split i j q = elim (at_either s.pairs (moved n t.pairs) q.0 (i, j) q.1) [
    | inl p ↦ inl (q.0, p)
    | inr p ↦ let r = moved_at n t.pairs p.0 i j p.1 in inr (r.0, (p.0, r.1), r.2)
  ]

  old_pair : Implies (StandIn s.pairs) Q
  old_pair i j p = (p.0, at_left s.pairs (moved n t.pairs) p.0 (i, j) p.1)

  new : (l j : ℕ) → StandIn t.pairs l j → Q (n + l) j
  new l j p = at_right s.pairs (moved n t.pairs) p.0 (n + l, j) (at_moved n t.pairs p.0 l j p.1)

  left_of : (i j m : ℕ) → StandIn s.pairs i j ⊎ New i j → StandIn s.pairs i m ⊎ New i m → j ≡ m
  left_of i j m (inl p) (inl q) = s.left i j m p q
  left_of i j m (inl p) (inr q) = absurd (omega (arith, (s.within i j p).0, q.2))
  left_of i j m (inr p) (inl q) = absurd (omega (arith, (s.within i m q).0, p.2))
  left_of i j m (inr p) (inr q) =
      let same : q.0 ≡ p.0 = omega (arith, p.2, q.2) in
      t.left p.0 j m p.1 (subst (λ l. StandIn t.pairs l m) same q.1)

  right_of : (i j m : ℕ) → StandIn s.pairs i m ⊎ New i m → StandIn s.pairs j m ⊎ New j m → i ≡ j
  right_of i j m (inl p) (inl q) = s.right i j m p q
  right_of i j m (inl p) (inr q) = absurd (apart i m q.0 p q.1)
  right_of i j m (inr p) (inl q) = absurd (apart j m p.0 q p.1)
  right_of i j m (inr p) (inr q) = let same : p.0 ≡ q.0 = t.right p.0 q.0 m p.1 q.1 in omega (arith, p.2, q.2, same)

  count : length (joined g k).nodes ≡ n + length k.nodes
  count = length-append g.nodes (shifted_nodes n k.nodes) ∙ ap (λ m. n + m) (length-map k.nodes (shifted_node n))

  value_shifted : (v w : Value) → ValuesMatch (StandIn t.pairs) v w → ValuesMatch Q (shifted_value n v) w
  value_shifted (leaf x) (leaf y) m = m
  value_shifted (leaf x) (node j) m = elim m [ ]
  value_shifted (node i) (leaf y) m = elim m [ ]
  value_shifted (node i) (node j) m = new i j m

  node_shifted : (a b : Node) → NodesMatch (StandIn t.pairs) a b → NodesMatch Q (shifted_node n a) b
  node_shifted a b m = record {
    head = m.head;
    names = subst (λ ps. AllZip (PairsMatch Q) ps (by_name b.names)) (sym (sorted_shifted n a.names)) (zip_mapped (PairsMatch (StandIn t.pairs)) (PairsMatch Q) (shifted_pair n) (λ p q e. (e.0, value_shifted p.1 q.1 e.1)) (by_name a.names) (by_name b.names) m.names);
    values = zip_mapped (ValuesMatch (StandIn t.pairs)) (ValuesMatch Q) (shifted_value n) value_shifted a.values b.values m.values;
  }

  at_old : (i : ℕ) → i < n → node_at (joined g k) i ≡ node_at g i
  at_old i l = get_or_append_left g.nodes (shifted_nodes n k.nodes) no_node i l

  at_new : (l : ℕ) → node_at (joined g k) (n + l) ≡ shifted_node n (node_at k l)
  at_new l = get_or-append-add g.nodes (shifted_nodes n k.nodes) l no_node ∙ listn.get_or-map (shifted_node n) k.nodes l no_node

  pub joined_where : (R : ℕ → Type 0) → ((i j : ℕ) → StandIn s.pairs i j → R j) → ((i j : ℕ) → StandIn t.pairs i j → R j) → (all : SameFrom (joined g k) h (vs ++ map (shifted_value n) us) (ws ++ xs)) × ((i j : ℕ) → StandIn all.pairs i j → R j)
  joined_where R first second = (
    record {
      pairs = all_pairs;
      left = λ i j m p q. left_of i j m (split i j p) (split i m q);
      right = λ i j m p q. right_of i j m (split i m p) (split j m q);
      within = λ i j p. elim (split i j p) [
        | inl q ↦ let w = s.within i j q in (omega (arith, w.0, count), w.1)
        | inr q ↦ let w = t.within q.0 j q.1 in (omega (arith, w.0, q.2, count), w.1)
      ];
      roots = zip_append (ValuesMatch Q) vs ws (map (shifted_value n) us) xs (zip_more (ValuesMatch (StandIn s.pairs)) (ValuesMatch Q) (values_more (StandIn s.pairs) Q old_pair) vs ws s.roots) (zip_mapped (ValuesMatch (StandIn t.pairs)) (ValuesMatch Q) (shifted_value n) value_shifted us xs t.roots);
      nodes = λ i j p. elim (split i j p) [
        | inl q ↦ subst (λ a. NodesMatch Q a (node_at h j)) (sym (at_old i (s.within i j q).0)) (nodes_more (StandIn s.pairs) Q old_pair (node_at g i) (node_at h j) (s.nodes i j q))
        | inr q ↦ subst (λ m. NodesMatch Q (node_at (joined g k) m) (node_at h j)) (sym q.2) (subst (λ a. NodesMatch Q a (node_at h j)) (sym (at_new q.0)) (node_shifted (node_at k q.0) (node_at h j) (t.nodes q.0 j q.1)))
      ];
    },
    λ i j p. elim (split i j p) [
      | inl q ↦ first i j q
      | inr q ↦ second q.0 j q.1
    ],
  )

  pub same_joined : SameFrom (joined g k) h (vs ++ map (shifted_value n) us) (ws ++ xs)
  same_joined = (joined_where (λ j. Unit {0}) (λ i j p. tt) (λ i j p. tt)).0

pub join_law : JoinLaw
join_law g k h vs ws us xs s t apart = same_joined g k h vs ws us xs s t apart
