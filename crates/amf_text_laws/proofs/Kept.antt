-- The pairs of an isomorphism whose first nodes are reached.
use Rattle.std.proofs.Common.{◌≡◌, ℕ, zero, suc, Bool, true, false, if◌then◌else◌, List, [], ◌∷◌, slice_get, Some, refl, sym, ap, subst, inl, inr}
use Rattle.std.specs.Prelude.{◌||◌, ◌==◌}
use Rattle.std.specs.List.{AllZip, AllByRecursion}
use Rattle.std.proofs.lemmas.Bool.{eqb-true, eq-eqb}
use Rattle.std.proofs.lemmas.Option.{same_Some}
use Rattle.amf_graph.specs.Graph.{Value, leaf, node, Node}
use Rattle.amf_graph.specs.ByName.{by_name}
use Rattle.amf_graph.specs.Isomorphic.{ValuesMatch, PairsMatch, NodesMatch, StandIn}
use Rattle.amf_graph.specs.Reached.{Holds}
use Rattle.amf_graph.proofs.Alls.{each_from}
use Rattle.amf_graph.proofs.NameOrder.{by_name_all}

-- whether the number is among these
abbrev pub is_among : List ℕ → ℕ → Bool
is_among [] i = false
is_among (x ∷ xs) i = (x == i) || is_among xs i

pub among : (xs : List ℕ) (k i : ℕ) → slice_get xs k ≡ Some i → is_among xs i ≡ true
among [] k i e = cc
among (x ∷ xs) zero i e = ap (λ b. b || is_among xs i) (eq-eqb x i (same_Some x i e))
among (x ∷ xs) (suc k) i e = go (x == i) (among xs k i e)
  where
    go : (b : Bool) → is_among xs i ≡ true → (b || is_among xs i) ≡ true
    go true h = refl
    go false h = h

pub from_among : (xs : List ℕ) (i : ℕ) → is_among xs i ≡ true → (k : ℕ) × (slice_get xs k ≡ Some i)
from_among [] i e = absurd cc
from_among (x ∷ xs) i e = go (x == i) refl e (from_among xs i)
  where
    go : (b : Bool) → (x == i) ≡ b → (b || is_among xs i) ≡ true → (is_among xs i ≡ true → (k : ℕ) × (slice_get xs k ≡ Some i)) → (k : ℕ) × (slice_get (x ∷ xs) k ≡ Some i)
    go true f h more = (0, ap (λ z. Some z) (eqb-true x i f))
    go false f h more = let m = more h in (suc m.0, m.1)

abbrev pub kept : List ℕ → List (ℕ × ℕ) → List (ℕ × ℕ)
kept xs [] = []
kept xs (p ∷ ps) = if is_among xs p.0 then p ∷ kept xs ps else kept xs ps

pub to_kept : (xs : List ℕ) (ps : List (ℕ × ℕ)) (k i j : ℕ) → slice_get ps k ≡ Some (i, j) → is_among xs i ≡ true → StandIn (kept xs ps) i j
to_kept xs [] k i j e h = absurd cc
to_kept xs (p ∷ ps) zero i j e h =
    let same : p ≡ (i, j) = same_Some p (i, j) e in
    subst (λ b. StandIn (if b then p ∷ kept xs ps else kept xs ps) i j) (sym (subst (λ (q : ℕ × ℕ). is_among xs q.0 ≡ true) (sym same) h)) (0, e)
to_kept xs (p ∷ ps) (suc k) i j e h = go (is_among xs p.0) (to_kept xs ps k i j e h)
  where
    go : (b : Bool) → StandIn (kept xs ps) i j → StandIn (if b then p ∷ kept xs ps else kept xs ps) i j
    go true s = (suc s.0, s.1)
    go false s = s

pub from_kept : (xs : List ℕ) (ps : List (ℕ × ℕ)) (i j : ℕ) → StandIn (kept xs ps) i j → StandIn ps i j × (is_among xs i ≡ true)
from_kept xs [] i j s = let e = s.1 in absurd cc
from_kept xs (p ∷ ps) i j s = go (is_among xs p.0) refl s (from_kept xs ps i j)
  where
    one : (k : ℕ) → is_among xs p.0 ≡ true → slice_get (p ∷ kept xs ps) k ≡ Some (i, j) → (StandIn (kept xs ps) i j → StandIn ps i j × (is_among xs i ≡ true)) → StandIn (p ∷ ps) i j × (is_among xs i ≡ true)
    one zero h e more = ((0, e), subst (λ (q : ℕ × ℕ). is_among xs q.0 ≡ true) (same_Some p (i, j) e) h)
    one (suc k) h e more = let m = more (k, e) in ((suc m.0.0, m.0.1), m.1)

    go : (b : Bool) → is_among xs p.0 ≡ b → StandIn (if b then p ∷ kept xs ps else kept xs ps) i j → (StandIn (kept xs ps) i j → StandIn ps i j × (is_among xs i ≡ true)) → StandIn (p ∷ ps) i j × (is_among xs i ≡ true)
    go true h s more = one s.0 h s.1 more
    go false h s more = let m = more s in ((suc m.0.0, m.0.1), m.1)

-- A value or node whose parts are reached matches by those pairs alone.

module _ (xs : List ℕ) (ps : List (ℕ × ℕ)) where
  abbrev pub IsAmong : Value → Type 0
  IsAmong (leaf x) = Unit {0}
  IsAmong (node i) = is_among xs i ≡ true

  pub value_kept : (v w : Value) → IsAmong v → ValuesMatch (StandIn ps) v w → ValuesMatch (StandIn (kept xs ps)) v w
  value_kept (leaf x) (leaf y) a m = m
  value_kept (leaf x) (node j) a m = elim m [ ]
  value_kept (node i) (leaf y) a m = elim m [ ]
  value_kept (node i) (node j) a m = to_kept xs ps m.0 i j m.1 a

  values_kept : (vs ws : List Value) → AllByRecursion IsAmong vs → AllZip (ValuesMatch (StandIn ps)) vs ws → AllZip (ValuesMatch (StandIn (kept xs ps))) vs ws
  values_kept [] [] a m = tt
  values_kept [] (w ∷ ws) a m = elim m [ ]
  values_kept (v ∷ vs) [] a m = elim m [ ]
  values_kept (v ∷ vs) (w ∷ ws) a m = (value_kept v w a.0 m.0, values_kept vs ws a.1 m.1)

  pairs_kept : (vs ws : List (List ℕ × Value)) → AllByRecursion (λ p. IsAmong p.1) vs → AllZip (PairsMatch (StandIn ps)) vs ws → AllZip (PairsMatch (StandIn (kept xs ps))) vs ws
  pairs_kept [] [] a m = tt
  pairs_kept [] (w ∷ ws) a m = elim m [ ]
  pairs_kept (v ∷ vs) [] a m = elim m [ ]
  pairs_kept (v ∷ vs) (w ∷ ws) a m = ((m.0.0, value_kept v.1 w.1 a.0 m.0.1), pairs_kept vs ws a.1 m.1)

  pub node_kept : (a b : Node) → ((v : Value) → Holds a v → IsAmong v) → NodesMatch (StandIn ps) a b → NodesMatch (StandIn (kept xs ps)) a b
  node_kept a b h m = record {
    head = m.head;
    names = pairs_kept (by_name a.names) (by_name b.names) (by_name_all (λ p. IsAmong p.1) a.names (each_from (λ (p : List ℕ × Value). IsAmong p.1) a.names (λ k p e. h p.1 (inr (k, p.0, e))))) m.names;
    values = values_kept a.values b.values (each_from IsAmong a.values (λ k v e. h v (inl (k, e)))) m.values;
  }
