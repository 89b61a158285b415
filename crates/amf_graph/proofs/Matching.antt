-- Matchings of values, pairs and nodes.
use Rattle.std.proofs.Common.{◌≡◌, ℕ, Bool, true, false, cond, List, [], ◌∷◌, sym, ap, ◌∙◌, subst}
use Rattle.std.specs.List.{AllZip}
use Rattle.amf_graph.specs.Graph.{Value, leaf, node, Node}
use Rattle.amf_graph.specs.Isomorphic.{ValuesMatch, PairsMatch, NodesMatch}
use Rattle.amf_graph.specs.ByName.{before, by_name}
use Rattle.std.specs.Ordering.{is_lt, nat_cmp}
use Rattle.std.specs.Cmp.Lexicographic.{slice_cmp}
use Rattle.amf_graph.specs.ByName.{insert_stable}

-- a relation on node numbers that is part of another
abbrev pub Implies : (ℕ → ℕ → Type 0) → (ℕ → ℕ → Type 0) → Type 0
Implies P Q = (i j : ℕ) → P i j → Q i j

pub values_more : (P Q : ℕ → ℕ → Type 0) → Implies P Q → (v w : Value) → ValuesMatch P v w → ValuesMatch Q v w
values_more P Q h (leaf x) (leaf y) m = m
values_more P Q h (node i) (node j) m = h i j m
values_more P Q h (leaf x) (node j) m = elim m [ ]
values_more P Q h (node i) (leaf y) m = elim m [ ]

pub zip_more : {A : Type 0} (R S : A → A → Type 0) → ((x y : A) → R x y → S x y) → (xs ys : List A) → AllZip R xs ys → AllZip S xs ys
zip_more R S h [] [] m = m
zip_more R S h [] (y ∷ ys) m = elim m [ ]
zip_more R S h (x ∷ xs) [] m = elim m [ ]
zip_more R S h (x ∷ xs) (y ∷ ys) m = (h x y m.0, zip_more R S h xs ys m.1)

pub pairs_more : (P Q : ℕ → ℕ → Type 0) → Implies P Q → (p q : List ℕ × Value) → PairsMatch P p q → PairsMatch Q p q
pairs_more P Q h p q m = (m.0, values_more P Q h p.1 q.1 m.1)

pub nodes_more : (P Q : ℕ → ℕ → Type 0) → Implies P Q → (a b : Node) → NodesMatch P a b → NodesMatch Q a b
nodes_more P Q h a b m = record {
  head = m.head;
  names = zip_more (PairsMatch P) (PairsMatch Q) (pairs_more P Q h) (by_name a.names) (by_name b.names) m.names;
  values = zip_more (ValuesMatch P) (ValuesMatch Q) (values_more P Q h) a.values b.values m.values;
}

-- a stable sort goes by the names alone
insert_match : (P : ℕ → ℕ → Type 0) (p q : List ℕ × Value) (ps qs : List (List ℕ × Value)) → PairsMatch P p q → AllZip (PairsMatch P) ps qs → AllZip (PairsMatch P) (insert_stable before p ps) (insert_stable before q qs)
insert_match P p q [] [] m n = (m, n)
insert_match P p q [] (y ∷ qs) m n = elim n [ ]
insert_match P p q (x ∷ ps) [] m n = elim n [ ]
insert_match P p q (x ∷ ps) (y ∷ qs) m n =
    let e : before y q ≡ before x p = sym (ap (λ z. is_lt (slice_cmp nat_cmp z p.0)) n.0.0 ∙ ap (λ z. is_lt (slice_cmp nat_cmp y.0 z)) m.0) in
    subst (λ t. AllZip (PairsMatch P) (insert_stable before p (x ∷ ps)) (cond t (y ∷ insert_stable before q qs) (q ∷ y ∷ qs))) (sym e) (go (before x p) (insert_match P p q ps qs m n.1))
  where
    go : (t : Bool) → AllZip (PairsMatch P) (insert_stable before p ps) (insert_stable before q qs) → AllZip (PairsMatch P) (cond t (x ∷ insert_stable before p ps) (p ∷ x ∷ ps)) (cond t (y ∷ insert_stable before q qs) (q ∷ y ∷ qs))
    go true r = (n.0, r)
    go false r = (m, n)

pub by_name_match : (P : ℕ → ℕ → Type 0) (ps qs : List (List ℕ × Value)) → AllZip (PairsMatch P) ps qs → AllZip (PairsMatch P) (by_name ps) (by_name qs)
by_name_match P [] [] m = m
by_name_match P [] (y ∷ qs) m = elim m [ ]
by_name_match P (x ∷ ps) [] m = elim m [ ]
by_name_match P (x ∷ ps) (y ∷ qs) m = insert_match P x y (by_name ps) (by_name qs) m.0 (by_name_match P ps qs m.1)
