-- Nodes are counted, one more; and a node is met at two places exactly where it is counted twice.
use Rattle.std.proofs.Common.{◌≡◌, ◌≢◌, ℕ, zero, suc, ◌+◌, ◌<◌, ◌≤◌, ◌⊎◌, Bool, true, false, if◌then◌else◌, List, [], ◌∷◌, ◌++◌, length, slice_get, set, take, drop, replicate, add-one, Some, refl, sym, ap, ◌∙◌, subst, inl, inr, arith}
use Rattle.std.specs.Prelude.{◌==◌}
use Rattle.std.specs.List.{flat_map}
use Rattle.std.proofs.Math.Seq.{take-suc}
use Rattle.std.proofs.lemmas.Bool.{cases_eq, cases_lt}
use Rattle.std.proofs.lemmas.List.{length-set, length-map, length-replicate, get_or-replicate, append-nil, drop_all, take_all}
use Rattle.std.proofs.lemmas.Option.{same_Some, slice_get_within, slice_get-get_or, get_or_from_slice_get}
use Rattle.std.proofs.lemmas.Grind.{flat_map-append}
use Rattle.amf_graph.specs.declared.value.NodeId.{NodeId}
use Rattle.amf_graph.specs.declared.value.Value.{Value as Stored}
use Rattle.amf_graph.specs.declared.value.Value.TheVariants.{Undefined, Null, Bool as Flag, Integer, Double, Text, Node as NodeRef}
use Rattle.amf_graph.specs.Arena.{Arena, value_content, node_content, graph_of}
use Rattle.amf_graph.specs.Graph.{Leaf, Value, leaf, node, Graph, node_at}
use Rattle.amf_graph.specs.Order.{Absent, values_met, IsOrder}
use Rattle.amf_graph.proofs.Walks.{walk_within}
use Rattle.amf_text.specs.Texts.{all_met, IsShared}
use Rattle.amf_text_write.specs.declared.meetings.Meetings.{Meetings}
use Rattle.amf_text_write.specs.declared.meetings.Meetings.TheVariants as meetings
use Rattle.amf_text_write.specs.Counts.{met_times, meetings_of, AreCounts}
use Rattle.amf_text_write.proofs.Bools.{if_true, if_false, eq_true, eq_false}

-- ---- one more value

same_step : (t : Bool) (m n : ℕ) → m ≡ n → (if t then suc m else m) ≡ (if t then suc n else n)
same_step t m n e = ap (λ k. if t then suc k else k) e

more_step : (t : Bool) (m n : ℕ) → m ≡ suc n → (if t then suc m else m) ≡ suc (if t then suc n else n)
more_step true m n e = ap suc e
more_step false m n e = e

leaf_adds : (i : ℕ) (x : Leaf) (vs : List Value) → met_times i (vs ++ leaf x ∷ []) ≡ met_times i vs
leaf_adds i x [] = refl
leaf_adds i x (leaf y ∷ vs) = leaf_adds i x vs
leaf_adds i x (node j ∷ vs) = same_step (j == i) (met_times i (vs ++ leaf x ∷ [])) (met_times i vs) (leaf_adds i x vs)

other_adds : (i n : ℕ) (vs : List Value) → n ≢ i → met_times i (vs ++ node n ∷ []) ≡ met_times i vs
other_adds i n [] d = if_false (n == i) 1 0 (eq_false n i d)
other_adds i n (leaf y ∷ vs) d = other_adds i n vs d
other_adds i n (node j ∷ vs) d = same_step (j == i) (met_times i (vs ++ node n ∷ [])) (met_times i vs) (other_adds i n vs d)

itself_adds : (i : ℕ) (vs : List Value) → met_times i (vs ++ node i ∷ []) ≡ suc (met_times i vs)
itself_adds i [] = if_true (i == i) 1 0 (eq_true i i refl)
itself_adds i (leaf y ∷ vs) = itself_adds i vs
itself_adds i (node j ∷ vs) = more_step (j == i) (met_times i (vs ++ node i ∷ [])) (met_times i vs) (itself_adds i vs)

pub set_there : {X : Type 0} (xs : List X) (i : ℕ) (y : X) → i < length xs → slice_get (set xs i y) i ≡ Some y
set_there [] i y l = absurd (omega arith)
set_there (z ∷ xs) zero y l = refl
set_there (z ∷ xs) (suc i) y l = set_there xs i y (omega arith)

pub set_elsewhere : {X : Type 0} (xs : List X) (i j : ℕ) (y : X) → (j ≡ i → ⊥) → slice_get (set xs i y) j ≡ slice_get xs j
set_elsewhere [] i j y n = refl
set_elsewhere (z ∷ xs) zero zero y n = absurd (n refl)
set_elsewhere (z ∷ xs) zero (suc j) y n = refl
set_elsewhere (z ∷ xs) (suc i) zero y n = refl
set_elsewhere (z ∷ xs) (suc i) (suc j) y n = set_elsewhere xs i j y (λ e. n (ap suc e))

leaf_counted : (order : List ℕ) (vs : List Value) (cs : List Meetings) (x : Leaf) → AreCounts order vs cs → AreCounts order (vs ++ leaf x ∷ []) cs
leaf_counted order vs cs x h = record {
  all = h.all;
  each = λ k i e. h.each k i e ∙ ap (λ n. Some (meetings_of n)) (sym (leaf_adds i x vs));
}

-- a node that has no number
pub absent_counted : (order : List ℕ) (vs : List Value) (cs : List Meetings) (n : ℕ) → Absent order n → AreCounts order vs cs → AreCounts order (vs ++ node n ∷ []) cs
absent_counted order vs cs n away h = record {
  all = h.all;
  each = λ k i e.
      let other : n ≢ i = λ s. away k (e ∙ ap (λ w. Some w) (sym s)) in
      h.each k i e ∙ ap (λ w. Some (meetings_of w)) (sym (other_adds i n vs other));
}

-- a node of this number
pub node_counted : (order : List ℕ) (vs : List Value) (cs : List Meetings) (p n : ℕ) (m more : Meetings) → slice_get order p ≡ Some n → ((k : ℕ) → slice_get order k ≡ Some n → k ≡ p) → slice_get cs p ≡ Some m → ((t : ℕ) → m ≡ meetings_of t → more ≡ meetings_of (suc t))
    → AreCounts order vs cs → AreCounts order (vs ++ node n ∷ []) (set cs p more)
node_counted order vs cs p n m more at alone read again h = record {
  all = length-set cs p more ∙ h.all;
  each = λ k i e. go k i e (cases_eq k p);
}
  where
    before : m ≡ meetings_of (met_times n vs)
    before = same_Some m (meetings_of (met_times n vs)) (sym read ∙ h.each p n at)

    here : slice_get (set cs p more) p ≡ Some (meetings_of (met_times n (vs ++ node n ∷ [])))
    here = set_there cs p more (slice_get_within cs p m read) ∙ ap (λ w. Some w) (again (met_times n vs) before) ∙ ap (λ w. Some (meetings_of w)) (sym (itself_adds n vs))

    go : (k i : ℕ) → slice_get order k ≡ Some i → (k ≡ p) ⊎ (k ≡ p → ⊥) → slice_get (set cs p more) k ≡ Some (meetings_of (met_times i (vs ++ node n ∷ [])))
    go k i e (inl s) =
        let same : n ≡ i = same_Some n i (sym at ∙ ap (λ w. slice_get order w) (sym s) ∙ e) in
        ap (λ w. slice_get (set cs p more) w) s ∙ here ∙ ap (λ w. Some (meetings_of (met_times w (vs ++ node n ∷ [])))) same
    go k i e (inr d) =
        let other : n ≢ i = λ s. d (alone k (e ∙ ap (λ w. Some w) (sym s))) in
        set_elsewhere cs p k more d ∙ h.each k i e ∙ ap (λ w. Some (meetings_of w)) (sym (other_adds i n vs other))

-- what a slice of all items of a list writes back
pub refilled : {X : Type 0} (n : ℕ) (ws xs : List X) → length xs ≡ n → length ws ≡ length xs → take n (ws ++ drop (length ws) xs) ≡ ws
refilled n ws xs e l = ap (λ r. take n (ws ++ r)) (drop_all (length ws) xs (omega (arith, l))) ∙ ap (take n) (append-nil ws) ∙ take_all n ws (omega (arith, e, l))

-- where nothing has been met
pub none_counted : (order : List ℕ) (n : ℕ) → n ≡ length order → AreCounts order [] (replicate n meetings.None)
none_counted order n e = record {
  all = length-replicate n meetings.None ∙ e;
  each = λ k i f.
      let within : k < n = let w = slice_get_within order k i f in omega (arith, w, e) in
      let inside : k < length (replicate n meetings.None) = let l = length-replicate n meetings.None in omega (arith, within, l) in
      slice_get-get_or (replicate n meetings.None) k meetings.None inside ∙ ap (λ w. Some w) (get_or-replicate n k meetings.None meetings.None within);
}

pub value_counted : (a : Arena) (v : Stored) (order : List ℕ) (vs : List Value) (cs : List Meetings) → ((n : NodeId) → v ≡ NodeRef n → ⊥) → AreCounts order vs cs → AreCounts order (vs ++ value_content a v ∷ []) cs
value_counted a Undefined order vs cs n h = leaf_counted order vs cs _ h
value_counted a Null order vs cs n h = leaf_counted order vs cs _ h
value_counted a (Flag b) order vs cs n h = leaf_counted order vs cs _ h
value_counted a (Integer i) order vs cs n h = leaf_counted order vs cs _ h
value_counted a (Double p) order vs cs n h = leaf_counted order vs cs _ h
value_counted a (Text t) order vs cs n h = leaf_counted order vs cs _ h
value_counted a (NodeRef i) order vs cs n h = absurd (n i refl)

-- a node of an order is there
pub order_there : (a : Arena) (root : Stored) (order : List ℕ) (k i : ℕ) → IsOrder (graph_of a root) order → slice_get order k ≡ Some i → i < length a.nodes
order_there a root order k i o e = subst (λ n. i < n) (length-map a.nodes (node_content a)) (walk_within o (λ k i e. cc) k i e)

-- what is met in the first so many nodes of an order
pub met_more : (g : Graph) (order : List ℕ) (k i : ℕ) → slice_get order k ≡ Some i → all_met g (take (k + 1) order) ≡ all_met g (take k order) ++ values_met (node_at g i)
met_more g order k i e = ap (λ vs. g.root ∷ vs) (rw (add-one, take-suc order k 0 (slice_get_within order k i e), flat_map-append, get_or_from_slice_get order k i 0 e) (ap (λ vs. flat_map (λ j. values_met (node_at g j)) (take k order) ++ vs) (append-nil (values_met (node_at g i)))))

-- ---- two places

step_less : (t : Bool) (n : ℕ) → n ≤ (if t then suc n else n)
step_less true n = omega arith
step_less false n = omega arith

first_adds : (i : ℕ) (v : Value) (vs : List Value) → v ≡ node i → met_times i (v ∷ vs) ≡ suc (met_times i vs)
first_adds i v vs e = ap (λ u. met_times i (u ∷ vs)) e ∙ if_true (i == i) (suc (met_times i vs)) (met_times i vs) (eq_true i i refl)

less_behind : (i : ℕ) (v : Value) (vs : List Value) → met_times i vs ≤ met_times i (v ∷ vs)
less_behind i (leaf x) vs = omega arith
less_behind i (node j) vs = step_less (j == i) (met_times i vs)

pub met_there : (i : ℕ) (vs : List Value) (k : ℕ) → slice_get vs k ≡ Some (node i) → 1 ≤ met_times i vs
met_there i [] k e = cc
met_there i (v ∷ vs) zero e = omega (arith, first_adds i v vs (same_Some v (node i) e))
met_there i (v ∷ vs) (suc k) e = omega (arith, less_behind i v vs, met_there i vs k e)

met_twice : (i : ℕ) (vs : List Value) (j k : ℕ) → j < k → slice_get vs j ≡ Some (node i) → slice_get vs k ≡ Some (node i) → 2 ≤ met_times i vs
met_twice i [] j k l e f = cc
met_twice i (v ∷ vs) j zero l e f = absurd (omega (arith, l))
met_twice i (v ∷ vs) zero (suc k) l e f = omega (arith, first_adds i v vs (same_Some v (node i) e), met_there i vs k f)
met_twice i (v ∷ vs) (suc j) (suc k) l e f = omega (arith, less_behind i v vs, met_twice i vs j k (omega (arith, l)) e f)

abbrev One : ℕ → List Value → Type 0
One i vs = (k : ℕ) × (slice_get vs k ≡ Some (node i))

abbrev Two : ℕ → List Value → Type 0
Two i vs = (j k : ℕ) × (j < k) × (slice_get vs j ≡ Some (node i)) × (slice_get vs k ≡ Some (node i))

same_number : (j i : ℕ) → (j == i) ≡ true → j ≡ i
same_number j i e = grind (arith, e)

one_of : (i : ℕ) (vs : List Value) → 1 ≤ met_times i vs → One i vs
one_of i [] h = absurd (omega (arith, h))
one_of i (leaf x ∷ vs) h = let o = one_of i vs h in (suc o.0, o.1)
one_of i (node j ∷ vs) h = go (j == i) refl h (one_of i vs)
  where
    go : (t : Bool) → (j == i) ≡ t → 1 ≤ (if t then suc (met_times i vs) else met_times i vs) → (1 ≤ met_times i vs → One i vs) → One i (node j ∷ vs)
    go true e h m = (0, ap (λ n. Some (node n)) (same_number j i e))
    go false e h m = let o = m h in (suc o.0, o.1)

two_of : (i : ℕ) (vs : List Value) → 2 ≤ met_times i vs → Two i vs
two_of i [] h = absurd (omega (arith, h))
two_of i (leaf x ∷ vs) h = let o = two_of i vs h in (suc o.0, suc o.1, omega (arith, o.2), o.3, o.4)
two_of i (node j ∷ vs) h = go (j == i) refl h (two_of i vs)
  where
    go : (t : Bool) → (j == i) ≡ t → 2 ≤ (if t then suc (met_times i vs) else met_times i vs) → (2 ≤ met_times i vs → Two i vs) → Two i (node j ∷ vs)
    go true e h m = let o = one_of i vs (omega (arith, h)) in (0, suc o.0, omega arith, ap (λ n. Some (node n)) (same_number j i e), o.1)
    go false e h m = let o = m h in (suc o.0, suc o.1, omega (arith, o.2), o.3, o.4)

pub shared_twice : (g : Graph) (order : List ℕ) (i : ℕ) → IsShared g order i → 2 ≤ met_times i (all_met g order)
shared_twice g order i s = met_twice i (all_met g order) s.0 s.1 s.2 s.3 s.4

pub twice_shared : (g : Graph) (order : List ℕ) (i : ℕ) → 2 ≤ met_times i (all_met g order) → IsShared g order i
twice_shared g order i l = two_of i (all_met g order) l

-- whether a node is met at two places can be told
pub decided : (g : Graph) (order : List ℕ) (i : ℕ) → IsShared g order i ⊎ (IsShared g order i → ⊥)
decided g order i = elim (cases_lt (met_times i (all_met g order)) 2) [
  | inl few ↦ inr (λ s. let m = shared_twice g order i s in omega (arith, m, few))
  | inr many ↦ inl (twice_shared g order i many)
]
