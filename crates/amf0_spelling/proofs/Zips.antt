-- Relations between lists place by place, and what a sort by name does to them.
use Rattle.std.proofs.Common.{◌≡◌, ℕ, suc, Bool, true, false, cond, List, [], ◌∷◌, ◌++◌, length, sym, refl, ap, ◌∙◌, subst}
use Rattle.std.specs.List.{AllZip}
use Rattle.std.specs.Ordering.{is_lt, nat_cmp}
use Rattle.std.specs.Cmp.Lexicographic.{slice_cmp}
use Rattle.amf_graph.specs.Graph.{Value}
use Rattle.amf_graph.specs.ByName.{insert_stable, before, by_name}
use Rattle.amf_graph.proofs.NameOrder.{by_name_again}

pub zip_length : {A B : Type 0} (R : A → B → Type 0) (xs : List A) (ys : List B) → AllZip R xs ys → length xs ≡ length ys
zip_length R [] [] m = refl
zip_length R [] (y ∷ ys) m = elim m [ ]
zip_length R (x ∷ xs) [] m = elim m [ ]
zip_length R (x ∷ xs) (y ∷ ys) m = ap suc (zip_length R xs ys m.1)

pub zip_append : {A B : Type 0} (R : A → B → Type 0) (xs : List A) (ys : List B) (us : List A) (ws : List B) → AllZip R xs ys → AllZip R us ws → AllZip R (xs ++ us) (ys ++ ws)
zip_append R [] [] us ws m n = n
zip_append R [] (y ∷ ys) us ws m n = elim m [ ]
zip_append R (x ∷ xs) [] us ws m n = elim m [ ]
zip_append R (x ∷ xs) (y ∷ ys) us ws m n = (m.0, zip_append R xs ys us ws m.1 n)

-- a square: what stands beside two lists that match place by place matches too
pub zip_square : {A B C D : Type 0} (R : A → B → Type 0) (S : A → C → Type 0) (T : B → D → Type 0) (U : C → D → Type 0) →
    ((a : A) (b : B) (c : C) (d : D) → R a b → S a c → T b d → U c d) → (us : List A) (bs : List B) (cs : List C) (ds : List D) → AllZip R us bs → AllZip S us cs → AllZip T bs ds → AllZip U cs ds
zip_square R S T U f [] [] [] [] r s t = tt
zip_square R S T U f [] [] [] (d ∷ ds) r s t = elim t [ ]
zip_square R S T U f [] [] (c ∷ cs) ds r s t = elim s [ ]
zip_square R S T U f [] (b ∷ bs) cs ds r s t = elim r [ ]
zip_square R S T U f (a ∷ us) [] cs ds r s t = elim r [ ]
zip_square R S T U f (a ∷ us) (b ∷ bs) [] ds r s t = elim s [ ]
zip_square R S T U f (a ∷ us) (b ∷ bs) (c ∷ cs) [] r s t = elim t [ ]
zip_square R S T U f (a ∷ us) (b ∷ bs) (c ∷ cs) (d ∷ ds) r s t = (f a b c d r.0 s.0 t.0, zip_square R S T U f us bs cs ds r.1 s.1 t.1)

-- pairs of one name whose values are in a relation
abbrev pub PairsBy : (Value → Value → Type 0) → List ℕ × Value → List ℕ × Value → Type 0
PairsBy V p q = (p.0 ≡ q.0) × V p.1 q.1

-- a stable sort goes by the names alone
insert_match : (V : Value → Value → Type 0) (p q : List ℕ × Value) (ps qs : List (List ℕ × Value)) → PairsBy V p q → AllZip (PairsBy V) ps qs → AllZip (PairsBy V) (insert_stable before p ps) (insert_stable before q qs)
insert_match V p q [] [] m n = (m, n)
insert_match V p q [] (y ∷ qs) m n = elim n [ ]
insert_match V p q (x ∷ ps) [] m n = elim n [ ]
insert_match V p q (x ∷ ps) (y ∷ qs) m n =
    let e : before y q ≡ before x p = sym (ap (λ z. is_lt (slice_cmp nat_cmp z p.0)) n.0.0 ∙ ap (λ z. is_lt (slice_cmp nat_cmp y.0 z)) m.0) in
    subst (λ t. AllZip (PairsBy V) (insert_stable before p (x ∷ ps)) (cond t (y ∷ insert_stable before q qs) (q ∷ y ∷ qs))) (sym e) (go (before x p) (insert_match V p q ps qs m n.1))
  where
    go : (t : Bool) → AllZip (PairsBy V) (insert_stable before p ps) (insert_stable before q qs) → AllZip (PairsBy V) (cond t (x ∷ insert_stable before p ps) (p ∷ x ∷ ps)) (cond t (y ∷ insert_stable before q qs) (q ∷ y ∷ qs))
    go true r = (n.0, r)
    go false r = (m, n)

pub by_name_by : (V : Value → Value → Type 0) (ps qs : List (List ℕ × Value)) → AllZip (PairsBy V) ps qs → AllZip (PairsBy V) (by_name ps) (by_name qs)
by_name_by V [] [] m = m
by_name_by V [] (y ∷ qs) m = elim m [ ]
by_name_by V (x ∷ ps) [] m = elim m [ ]
by_name_by V (x ∷ ps) (y ∷ qs) m = insert_match V x y (by_name ps) (by_name qs) m.0 (by_name_by V ps qs m.1)

-- what is appended may be sorted before
pub by_name_append : (ps qs : List (List ℕ × Value)) → by_name (ps ++ by_name qs) ≡ by_name (ps ++ qs)
by_name_append [] qs = by_name_again qs
by_name_append (p ∷ ps) qs = ap (insert_stable before p) (by_name_append ps qs)
