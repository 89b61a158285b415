-- Pairs whose names are the same, place by place.
use Rattle.std.proofs.Common.{◌≡◌, ℕ, Bool, true, false, cond, List, [], ◌∷◌, length, suc, sym, ap, refl, ◌∙◌, subst}
use Rattle.std.specs.Prelude.{◌↔◌}
use Rattle.std.specs.List.{AllZip, AllByRecursion}
use Rattle.std.specs.Ordering.{is_lt, nat_cmp}
use Rattle.std.specs.Cmp.Lexicographic.{slice_cmp}
use Rattle.amf_graph.specs.declared.value.Value.{Value as Stored}
use Rattle.amf_graph.specs.declared.value.TextId.{TextId}
use Rattle.amf_graph.specs.Graph.{Value}
use Rattle.amf_graph.specs.Arena.{Arena, text_at, value_content}
use Rattle.amf_graph.specs.ByName.{before, by_name, insert_stable}
use Rattle.amf_graph.specs.Isomorphic.{ValuesMatch, PairsMatch, StandIn}
use Rattle.amf_graph.proofs.Matching.{by_name_match}
use Rattle.amf_iso.specs.Contents.{pairs_of, ArePairs}
use Rattle.amf_iso.specs.Walking.{NamesMatch, SecondsMatch, NamedMatch, IsPair}
use Rattle.amf_iso.proofs.Remaining.{Remains}

abbrev SameName : List ℕ × Value → List ℕ × Value → Type 0
SameName p q = p.0 ≡ q.0

-- A stable sort goes by the names alone.

insert_names : (p q : List ℕ × Value) (ps qs : List (List ℕ × Value)) → SameName p q → AllZip SameName ps qs → AllZip SameName (insert_stable before p ps) (insert_stable before q qs)
insert_names p q [] [] m n = (m, n)
insert_names p q [] (y ∷ qs) m n = absurd n
insert_names p q (x ∷ ps) [] m n = absurd n
insert_names p q (x ∷ ps) (y ∷ qs) m n =
    let e : before y q ≡ before x p = sym (ap (λ z. is_lt (slice_cmp nat_cmp z p.0)) n.0 ∙ ap (λ z. is_lt (slice_cmp nat_cmp y.0 z)) m) in
    subst (λ t. AllZip SameName (insert_stable before p (x ∷ ps)) (cond t (y ∷ insert_stable before q qs) (q ∷ y ∷ qs))) (sym e) (go (before x p) (insert_names p q ps qs m n.1))
  where
    go : (t : Bool) → AllZip SameName (insert_stable before p ps) (insert_stable before q qs) → AllZip SameName (cond t (x ∷ insert_stable before p ps) (p ∷ x ∷ ps)) (cond t (y ∷ insert_stable before q qs) (q ∷ y ∷ qs))
    go true r = (n.0, r)
    go false r = (m, n)

by_name_names : (ps qs : List (List ℕ × Value)) → AllZip SameName ps qs → AllZip SameName (by_name ps) (by_name qs)
by_name_names [] [] m = m
by_name_names [] (y ∷ qs) m = absurd m
by_name_names (x ∷ ps) [] m = absurd m
by_name_names (x ∷ ps) (y ∷ qs) m = insert_names x y (by_name ps) (by_name qs) m.0 (by_name_names ps qs m.1)

insert_back : (P : ℕ → ℕ → Type 0) (p q : List ℕ × Value) (ps qs : List (List ℕ × Value)) → SameName p q → AllZip SameName ps qs → AllZip (PairsMatch P) (insert_stable before p ps) (insert_stable before q qs) → PairsMatch P p q × AllZip (PairsMatch P) ps qs
insert_back P p q [] [] m n z = z
insert_back P p q [] (y ∷ qs) m n z = absurd n
insert_back P p q (x ∷ ps) [] m n z = absurd n
insert_back P p q (x ∷ ps) (y ∷ qs) m n z =
    let e : before y q ≡ before x p = sym (ap (λ z. is_lt (slice_cmp nat_cmp z p.0)) n.0 ∙ ap (λ z. is_lt (slice_cmp nat_cmp y.0 z)) m) in
    go (insert_back P p q ps qs m n.1) (before x p) (subst (λ t. AllZip (PairsMatch P) (insert_stable before p (x ∷ ps)) (cond t (y ∷ insert_stable before q qs) (q ∷ y ∷ qs))) e z)
  where
    go : (AllZip (PairsMatch P) (insert_stable before p ps) (insert_stable before q qs) → PairsMatch P p q × AllZip (PairsMatch P) ps qs) → (t : Bool) → AllZip (PairsMatch P) (cond t (x ∷ insert_stable before p ps) (p ∷ x ∷ ps)) (cond t (y ∷ insert_stable before q qs) (q ∷ y ∷ qs)) → PairsMatch P p q × AllZip (PairsMatch P) (x ∷ ps) (y ∷ qs)
    go back true w = let r = back w.1 in (r.0, (w.0, r.1))
    go back false w = w

by_name_back : (P : ℕ → ℕ → Type 0) (ps qs : List (List ℕ × Value)) → AllZip SameName ps qs → AllZip (PairsMatch P) (by_name ps) (by_name qs) → AllZip (PairsMatch P) ps qs
by_name_back P [] [] m z = z
by_name_back P [] (y ∷ qs) m z = absurd m
by_name_back P (x ∷ ps) [] m z = absurd m
by_name_back P (x ∷ ps) (y ∷ qs) m z = let r = insert_back P x y (by_name ps) (by_name qs) m.0 (by_name_names ps qs m.1) z in (r.0, by_name_back P ps qs m.1 r.1)

module _ (a b : Arena) where
  names_content : (ps qs : List (TextId × Stored)) → NamesMatch a b ps qs → AllZip SameName (pairs_of a ps) (pairs_of b qs)
  names_content [] [] m = tt
  names_content [] (q ∷ qs) m = absurd m
  names_content (p ∷ ps) [] m = absurd m
  names_content (p ∷ ps) (q ∷ qs) m = (m.0, names_content ps qs m.1)

  abbrev Pairs : (ℕ → ℕ → Type 0) → List (TextId × Stored) → List (TextId × Stored) → Type 0
  Pairs P ps qs = AllZip (PairsMatch P) (pairs_of a ps) (pairs_of b qs)

  abbrev Seconds : (ℕ → ℕ → Type 0) → List (TextId × Stored) → List (TextId × Stored) → Type 0
  Seconds P ps qs = AllZip (λ p q. ValuesMatch P (value_content a p.1) (value_content b q.1)) ps qs

  names_with : (P : ℕ → ℕ → Type 0) (ps qs : List (TextId × Stored)) → NamesMatch a b ps qs → Seconds P ps qs → Pairs P ps qs
  names_with P [] [] m s = tt
  names_with P [] (q ∷ qs) m s = absurd m
  names_with P (p ∷ ps) [] m s = absurd m
  names_with P (p ∷ ps) (q ∷ qs) m s = ((m.0, s.0), names_with P ps qs m.1 s.1)

  seconds_of : (P : ℕ → ℕ → Type 0) (ps qs : List (TextId × Stored)) → Pairs P ps qs → Seconds P ps qs
  seconds_of P [] [] z = tt
  seconds_of P [] (q ∷ qs) z = absurd z
  seconds_of P (p ∷ ps) [] z = absurd z
  seconds_of P (p ∷ ps) (q ∷ qs) z = (z.0.1, seconds_of P ps qs z.1)

  names_of : (P : ℕ → ℕ → Type 0) (ps qs : List (TextId × Stored)) → Pairs P ps qs → NamesMatch a b ps qs
  names_of P [] [] z = tt
  names_of P [] (q ∷ qs) z = absurd z
  names_of P (p ∷ ps) [] z = absurd z
  names_of P (p ∷ ps) (q ∷ qs) z = (z.0.0, names_of P ps qs z.1)

  pub names_long : (ps qs : List (TextId × Stored)) → NamesMatch a b ps qs → length ps ≡ length qs
  names_long [] [] m = refl
  names_long [] (q ∷ qs) m = absurd m
  names_long (p ∷ ps) [] m = absurd m
  names_long (p ∷ ps) (q ∷ qs) m = ap suc (names_long ps qs m.1)

  -- where the names agree as they stand, the values decide as they stand
  pub as_they_stand : (ps qs : List (TextId × Stored)) → NamesMatch a b ps qs → (pairs : List (ℕ × ℕ)) → NamedMatch a b ps qs pairs ↔ SecondsMatch a b ps qs pairs
  as_they_stand ps qs m pairs = (
    λ z. seconds_of (StandIn pairs) ps qs (by_name_back (StandIn pairs) (pairs_of a ps) (pairs_of b qs) (names_content ps qs m) z),
    λ s. by_name_match (StandIn pairs) (pairs_of a ps) (pairs_of b qs) (names_with (StandIn pairs) ps qs m s),
  )

  module _ (ps qs xs ys : List (TextId × Stored)) (e : pairs_of a xs ≡ by_name (pairs_of a ps)) (f : pairs_of b ys ≡ by_name (pairs_of b qs)) where
    sorted : (pairs : List (ℕ × ℕ)) → NamedMatch a b ps qs pairs → Pairs (StandIn pairs) xs ys
    sorted pairs z = subst (λ (w : List (List ℕ × Value)). AllZip (PairsMatch (StandIn pairs)) (pairs_of a xs) w) (sym f) (subst (λ (w : List (List ℕ × Value)). AllZip (PairsMatch (StandIn pairs)) w (by_name (pairs_of b qs))) (sym e) z)

    -- and where they agree in by-name order, in that order
    pub in_order : NamesMatch a b xs ys → (pairs : List (ℕ × ℕ)) → NamedMatch a b ps qs pairs ↔ SecondsMatch a b xs ys pairs
    in_order m pairs = (
      λ z. seconds_of (StandIn pairs) xs ys (sorted pairs z),
      λ s. subst (λ (w : List (List ℕ × Value)). AllZip (PairsMatch (StandIn pairs)) (by_name (pairs_of a ps)) w) f (subst (λ (w : List (List ℕ × Value)). AllZip (PairsMatch (StandIn pairs)) w (pairs_of b ys)) e (names_with (StandIn pairs) xs ys m s)),
    )

    -- other names are not alike
    pub other_names : (NamesMatch a b xs ys → ⊥) → (pairs : List (ℕ × ℕ)) → NamedMatch a b ps qs pairs → ⊥
    other_names n pairs z = n (names_of (StandIn pairs) xs ys (sorted pairs z))

-- Pairs that are gone through together.

pub pairs_there : (a : Arena) (ps : List (TextId × Stored)) → ArePairs a ps → AllByRecursion (IsPair a) ps
pairs_there a [] h = tt
pairs_there a (p ∷ ps) h = (h.0, pairs_there a ps h.1)

pub names_remain : (a b : Arena) (ps qs : List (TextId × Stored)) → length ps ≡ length qs → ArePairs a ps → ArePairs b qs → Remains (IsPair a) (IsPair b) (λ p q. text_at a p.0.0 ≡ text_at b q.0.0) (NamesMatch a b ps qs) ps qs
names_remain a b ps qs l h k = record { long = l; left = pairs_there a ps h; right = pairs_there b qs k; onward = λ w. w; back = λ z. z }

pub seconds_remain : (a b : Arena) (ps qs : List (TextId × Stored)) → length ps ≡ length qs → ArePairs a ps → ArePairs b qs → (pairs : List (ℕ × ℕ)) → Remains (IsPair a) (IsPair b) (λ p q. ValuesMatch (StandIn pairs) (value_content a p.1) (value_content b q.1)) (SecondsMatch a b ps qs pairs) ps qs
seconds_remain a b ps qs l h k pairs = record { long = l; left = pairs_there a ps h; right = pairs_there b qs k; onward = λ w. w; back = λ z. z }
