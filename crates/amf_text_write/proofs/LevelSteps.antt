-- The levels of the nodes of an order, one write more.
use Rattle.std.proofs.Common.{◌≡◌, ◌⊎◌, ℕ, zero, suc, ◌+◌, ◌<◌, ◌≤◌, List, [], ◌∷◌, length, get_or, slice_get, set, Some, refl, sym, ap, ◌∙◌, subst, inl, inr, arith}
use Rattle.std.proofs.lemmas.Bool.{cases_eq, cases_lt}
use Rattle.std.proofs.lemmas.List.{length-set}
use Rattle.std.proofs.lemmas.Option.{same_Some, slice_get_within, get_or_from_slice_get}
use Rattle.amf_graph.specs.declared.value.NodeId.{NodeId}
use Rattle.amf_graph.specs.declared.value.Value.{Value as Stored}
use Rattle.amf_graph.specs.declared.value.Value.TheVariants.{Undefined, Null, Bool as Flag, Integer, Double, Text, Node as NodeRef}
use Rattle.amf_graph.specs.Arena.{Arena, value_content}
use Rattle.amf_graph.specs.Graph.{Leaf, Value, leaf, node, Graph, node_at}
use Rattle.amf_graph.specs.Order.{Absent, values_met, IsOrder}
use Rattle.amf_graph.specs.Renumbered.{place_of}
use Rattle.amf_graph.proofs.PlaceOf.{place_there}
use Rattle.amf_graph.proofs.Reaching.{order_once}
use Rattle.amf_text.specs.Texts.{all_met, IsShared, HoldsNode, shared}
use Rattle.amf_text.proofs.Parents.{root_and_held, held_twice, parent_before, at_flat, root_stands, held_stands, table_stands}
use Rattle.amf_text_write.specs.declared.meetings.Meetings.{Meetings}
use Rattle.amf_text_write.specs.declared.meetings.Meetings.TheVariants as meetings
use Rattle.amf_text_write.specs.Counts.{met_times, meetings_of, AreCounts}
use Rattle.amf_text_write.specs.Levels.{next_level, AreLevels, IsMetOnce, Deepens}
use Rattle.amf_text_write.proofs.Counting.{set_there, shared_twice, twice_shared, met_there}

abbrev IsStart : Graph → List ℕ → ℕ → Type 0
IsStart g order i = (g.root ≡ node i) ⊎ IsShared g order i

-- the t-th value of the node at place q has been gone through, where those of the nodes before k have, and the first n of the node at k
abbrev Done : (k n q t : ℕ) → Type 0
Done k n q t = (q < k) ⊎ ((q ≡ k) × (t < n))

pub record LevelsSoFar (g : Graph) (order : List ℕ) (k n : ℕ) (levels : List ℕ) : Type 0 where
  pub all : length levels ≡ length order
  pub start : (p i : ℕ) → slice_get order p ≡ Some i → IsStart g order i → get_or levels p 0 ≡ 1
  pub held : (q j t i p : ℕ) → slice_get order q ≡ Some j → slice_get (values_met (node_at g j)) t ≡ Some (node i) → Done k n q t → (IsShared g order i → ⊥) → slice_get order p ≡ Some i → get_or levels p 0 ≡ next_level (get_or levels q 0)

get_there : (xs : List ℕ) (i y : ℕ) → i < length xs → get_or (set xs i y) i 0 ≡ y
get_there xs i y l = get_or_from_slice_get (set xs i y) i y 0 (set_there xs i y l)

get_elsewhere : (xs : List ℕ) (i j y : ℕ) → (j ≡ i → ⊥) → get_or (set xs i y) j 0 ≡ get_or xs j 0
get_elsewhere [] i j y n = refl
get_elsewhere (z ∷ xs) zero zero y n = absurd (n refl)
get_elsewhere (z ∷ xs) zero (suc j) y n = refl
get_elsewhere (z ∷ xs) (suc i) zero y n = refl
get_elsewhere (z ∷ xs) (suc i) (suc j) y n = get_elsewhere xs i j y (λ e. n (ap suc e))

module _ (g : Graph) (order : List ℕ) (a : IsOrder g order) where
  -- a node that is met once gets the level within the one that holds it
  module _ (k j n i p level : ℕ) (levels : List ℕ) (at : slice_get order k ≡ Some j) (to : slice_get order p ≡ Some i) (value : slice_get (values_met (node_at g j)) n ≡ Some (node i)) (once : IsShared g order i → ⊥) (next : level ≡ next_level (get_or levels k 0)) (h : LevelsSoFar g order k n levels) where
    before : k < p
    before = parent_before g order a j i k p at to (n, value) once

    within : p < length levels
    within = let w = slice_get_within order p i to in omega (arith, w, h.all)

    same_node : (p' i' : ℕ) → slice_get order p' ≡ Some i' → p' ≡ p → i ≡ i'
    same_node p' i' e s = same_Some i i' (sym to ∙ ap (λ w. slice_get order w) (sym s) ∙ e)

    no_start : IsStart g order i → ⊥
    no_start (inl r) = once (root_and_held g order a i j k r at (n, value))
    no_start (inr s) = once s

    pub level_stays : get_or (set levels p level) k 0 ≡ get_or levels k 0
    level_stays = get_elsewhere levels p k level (λ e. let b = before in omega (arith, b, e))

    start_set : (p' i' : ℕ) → slice_get order p' ≡ Some i' → IsStart g order i' → get_or (set levels p level) p' 0 ≡ 1
    start_set p' i' e s = elim (cases_eq p' p) [
      | inl same ↦ absurd (no_start (subst (IsStart g order) (sym (same_node p' i' e same)) s))
      | inr other ↦ get_elsewhere levels p p' level other ∙ h.start p' i' e s
    ]

    -- the node is held at one place alone
    held_at : (q j' t i' p' : ℕ) → slice_get order q ≡ Some j' → slice_get (values_met (node_at g j')) t ≡ Some (node i') → Done k (n + 1) q t → slice_get order p' ≡ Some i' → p' ≡ p → q ≡ k
    held_at q j' t i' p' e v (inl less) f same =
        let holds : HoldsNode g j' i = (t, v ∙ ap (λ w. Some (node w)) (sym (same_node p' i' f same))) in
        absurd (once (held_twice g order a i j' j q k less e at holds (n, value)))
    held_at q j' t i' p' e v (inr here) f same = here.0

    not_last : (q j' t i' p' : ℕ) → slice_get order q ≡ Some j' → slice_get (values_met (node_at g j')) t ≡ Some (node i') → slice_get order p' ≡ Some i' → (p' ≡ p → ⊥) → Done k (n + 1) q t → Done k n q t
    not_last q j' t i' p' e v f other (inl less) = inl less
    not_last q j' t i' p' e v f other (inr here) = elim (cases_lt t n) [
      | inl less ↦ inr (here.0, less)
      | inr last ↦
          let t_is : t ≡ n = let u = here.1 in omega (arith, u, last) in
          let j_is : j ≡ j' = same_Some j j' (sym at ∙ ap (λ w. slice_get order w) (sym here.0) ∙ e) in
          let both : node i ≡ node i' = same_Some (node i) (node i') (sym value ∙ ap (λ w. slice_get (values_met (node_at g w)) n) j_is ∙ ap (λ w. slice_get (values_met (node_at g j')) w) (sym t_is) ∙ v) in
          let i_is : i' ≡ i = cc in
          absurd (other (order_once g order a p' p i (f ∙ ap (λ w. Some w) i_is) to))
    ]

    before_or_at : (q t m : ℕ) → Done k m q t → q ≤ k
    before_or_at q t m (inl less) = omega (arith, less)
    before_or_at q t m (inr here) = let e = here.0 in omega (arith, e)

    same_level : (q t : ℕ) → Done k (n + 1) q t → get_or (set levels p level) q 0 ≡ get_or levels q 0
    same_level q t d = get_elsewhere levels p q level (λ e. let b = before in let u = before_or_at q t (n + 1) d in omega (arith, b, u, e))

    pub level_set : LevelsSoFar g order k (n + 1) (set levels p level)
    level_set = record {
      all = length-set levels p level ∙ h.all;
      start = start_set;
      held = λ q j' t i' p' e v d o f. elim (cases_eq p' p) [
        | inl same ↦
            let q_is = held_at q j' t i' p' e v d f same in
            ap (λ w. get_or (set levels p level) w 0) same ∙ get_there levels p level within ∙ next ∙ ap (λ w. next_level (get_or levels w 0)) (sym q_is) ∙ ap next_level (sym (same_level q t d))
        | inr other ↦
            get_elsewhere levels p p' level other ∙ h.held q j' t i' p' e v (not_last q j' t i' p' e v f other d) o f ∙ ap next_level (sym (same_level q t d))
      ];
    }

  -- any other value changes nothing
  pub level_kept : (k j n : ℕ) (levels : List ℕ) (v : Value) → slice_get order k ≡ Some j → slice_get (values_met (node_at g j)) n ≡ Some v → ((p i : ℕ) → v ≡ node i → slice_get order p ≡ Some i → IsShared g order i) → LevelsSoFar g order k n levels → LevelsSoFar g order k (n + 1) levels
  level_kept k j n levels v at value more h = record {
    all = h.all;
    start = h.start;
    held = λ q j' t i' p' e w d o f. h.held q j' t i' p' e w (go q j' t i' p' e w d o f) o f;
  }
    where
      go : (q j' t i' p' : ℕ) → slice_get order q ≡ Some j' → slice_get (values_met (node_at g j')) t ≡ Some (node i') → Done k (n + 1) q t → (IsShared g order i' → ⊥) → slice_get order p' ≡ Some i' → Done k n q t
      go q j' t i' p' e w (inl less) o f = inl less
      go q j' t i' p' e w (inr here) o f = elim (cases_lt t n) [
        | inl less ↦ inr (here.0, less)
        | inr last ↦
            let t_is : t ≡ n = let u = here.1 in omega (arith, u, last) in
            let j_is : j ≡ j' = same_Some j j' (sym at ∙ ap (λ w. slice_get order w) (sym here.0) ∙ e) in
            let v_is : v ≡ node i' = same_Some v (node i') (sym value ∙ ap (λ w. slice_get (values_met (node_at g w)) n) j_is ∙ ap (λ w. slice_get (values_met (node_at g j')) w) (sym t_is) ∙ w) in
            absurd (o (more p' i' v_is f))
      ]

  -- all values of a node have been gone through
  pub levels_next : (k j n : ℕ) (levels : List ℕ) → slice_get order k ≡ Some j → length (values_met (node_at g j)) ≤ n → LevelsSoFar g order k n levels → LevelsSoFar g order (k + 1) 0 levels
  levels_next k j n levels at whole h = record {
    all = h.all;
    start = h.start;
    held = λ q j' t i' p' e w d o f. h.held q j' t i' p' e w (go q j' t i' e w d) o f;
  }
    where
      go : (q j' t i' : ℕ) → slice_get order q ≡ Some j' → slice_get (values_met (node_at g j')) t ≡ Some (node i') → Done (k + 1) 0 q t → Done k n q t
      go q j' t i' e w (inr none) = let u = none.1 in absurd (omega (arith, u))
      go q j' t i' e w (inl less) = elim (cases_lt q k) [
        | inl below ↦ inl below
        | inr last ↦
            let q_is : q ≡ k = omega (arith, less, last) in
            let j_is : j' ≡ j = same_Some j' j (sym e ∙ ap (λ w. slice_get order w) q_is ∙ at) in
            let inside : t < length (values_met (node_at g j')) = slice_get_within (values_met (node_at g j')) t (node i') w in
            let same = ap (λ w. length (values_met (node_at g w))) j_is in
            inr (q_is, omega (arith, inside, same, whole))
      ]

  pub levels_begin : (levels : List ℕ) → length levels ≡ length order → ((p : ℕ) → p < length levels → get_or levels p 0 ≡ 1) → LevelsSoFar g order 0 0 levels
  levels_begin levels all one = record {
    all = all;
    start = λ p i e s. one p (let w = slice_get_within order p i e in omega (arith, w, all));
    held = λ q j t i p e w d o f. absurd (no q t d);
  }
    where
      no : (q t : ℕ) → Done 0 0 q t → ⊥
      no q t (inl less) = omega (arith, less)
      no q t (inr here) = let u = here.1 in omega (arith, u)

  -- all nodes have been gone through
  pub levels_end : (k : ℕ) (levels : List ℕ) → length order ≤ k → LevelsSoFar g order k 0 levels → AreLevels g order (λ i. get_or levels (place_of order i) 0)
  levels_end k levels whole h = record {
    root = λ i r. let at = root_stands g order a i r in placed at.0 i at.1 ∙ h.start at.0 i at.1 (inl r);
    shared = λ i s. let at = table_stands g order a (shared s) in placed at.0 i at.1 ∙ h.start at.0 i at.1 (inr s);
    held = λ j i q e o once.
        let at = held_stands g order a j i q e o in
        placed at.0 i at.1 ∙ h.held q j o.0 i at.0 e o.1 (inl (let w = slice_get_within order q j e in omega (arith, w, whole))) once at.1 ∙ ap next_level (sym (placed q j e));
  }
    where
      placed : (p i : ℕ) → slice_get order p ≡ Some i → get_or levels (place_of order i) 0 ≡ get_or levels p 0
      placed p i e = ap (λ w. get_or levels w 0) (place_there order p i (order_once g order a) e)

  -- one value more has been met
  module _ (counts : List Meetings) (c : AreCounts order (all_met g order) counts) where
    once_of : (p i : ℕ) → slice_get order p ≡ Some i → slice_get counts p ≡ Some meetings.One → IsShared g order i → ⊥
    once_of p i e o s = go (met_times i (all_met g order)) (shared_twice g order i s) (same_Some meetings.One (meetings_of (met_times i (all_met g order))) (sym o ∙ c.each p i e))
      where
        go : (n : ℕ) → 2 ≤ n → meetings.One ≡ meetings_of n → ⊥
        go zero l e = omega (arith, l)
        go (suc zero) l e = omega (arith, l)
        go (suc (suc n)) l e = cc

    shared_of : (k j n p i : ℕ) → slice_get order k ≡ Some j → slice_get (values_met (node_at g j)) n ≡ Some (node i) → slice_get order p ≡ Some i → (slice_get counts p ≡ Some meetings.One → ⊥) → IsShared g order i
    shared_of k j n p i at value e never = go (met_times i (all_met g order)) refl
      where
        counted : 1 ≤ met_times i (all_met g order)
        counted = let s = at_flat (λ m. values_met (node_at g m)) order k j n (node i) at value in met_there i (all_met g order) (suc s.0) s.1

        go : (m : ℕ) → met_times i (all_met g order) ≡ m → IsShared g order i
        go zero is = absurd (let l = counted in omega (arith, l, is))
        go (suc zero) is = absurd (never (c.each p i e ∙ ap (λ m. Some (meetings_of m)) is))
        go (suc (suc m)) is = twice_shared g order i (omega (arith, is))

    pub deepened : (k j n level : ℕ) (v : Value) (old new : List ℕ) → slice_get order k ≡ Some j → slice_get (values_met (node_at g j)) n ≡ Some v → level ≡ next_level (get_or old k 0) → Deepens order counts level v old new → LevelsSoFar g order k n old
        → LevelsSoFar g order k (n + 1) new × (get_or new k 0 ≡ get_or old k 0)
    deepened k j n level v old new at value next (inl (p, (i, is, e, o), changed)) h =
        let here : slice_get (values_met (node_at g j)) n ≡ Some (node i) = value ∙ ap (λ w. Some w) is in
        let once = once_of p i e o in (
          subst (LevelsSoFar g order k (n + 1)) (sym changed) (level_set k j n i p level old at e here once next h),
          ap (λ w. get_or w k 0) changed ∙ level_stays k j n i p level old at e here once next h,
        )
    deepened k j n level v old new at value next (inr (none, same)) h = (
      subst (LevelsSoFar g order k (n + 1)) (sym same) (level_kept k j n old v at value (λ p i is e. shared_of k j n p i at (value ∙ ap (λ w. Some w) is) e (λ o. none p (i, is, e, o))) h),
      ap (λ w. get_or w k 0) same,
    )

-- when a value gets no level

pub not_once : (order : List ℕ) (counts : List Meetings) (v : Value) (n p : ℕ) → v ≡ node n → ((k : ℕ) → slice_get order k ≡ Some n → k ≡ p) → (slice_get counts p ≡ Some meetings.One → ⊥) → (q : ℕ) → IsMetOnce order counts v q → ⊥
not_once order counts v n p is alone other q (i, same, e, o) =
    let i_is : i ≡ n = same_node i n (sym same ∙ is) in
    let q_is : q ≡ p = alone q (e ∙ ap (λ w. Some w) i_is) in
    other (ap (λ w. slice_get counts w) (sym q_is) ∙ o)
  where
    same_node : (i j : ℕ) → node i ≡ node j → i ≡ j
    same_node i j e = cc

pub absent_once : (order : List ℕ) (counts : List Meetings) (v : Value) (n : ℕ) → v ≡ node n → Absent order n → (q : ℕ) → IsMetOnce order counts v q → ⊥
absent_once order counts v n is away q (i, same, e, o) = away q (e ∙ ap (λ w. Some w) (same_node i n (sym same ∙ is)))
  where
    same_node : (i j : ℕ) → node i ≡ node j → i ≡ j
    same_node i j e = cc

leaf_once : (order : List ℕ) (counts : List Meetings) (x : Leaf) (q : ℕ) → IsMetOnce order counts (leaf x) q → ⊥
leaf_once order counts x q (i, same, e, o) = cc

pub value_once : (a : Arena) (v : Stored) (order : List ℕ) (counts : List Meetings) → ((n : NodeId) → v ≡ NodeRef n → ⊥) → (q : ℕ) → IsMetOnce order counts (value_content a v) q → ⊥
value_once a Undefined order counts n q m = leaf_once order counts _ q m
value_once a Null order counts n q m = leaf_once order counts _ q m
value_once a (Flag b) order counts n q m = leaf_once order counts _ q m
value_once a (Integer i) order counts n q m = leaf_once order counts _ q m
value_once a (Double p) order counts n q m = leaf_once order counts _ q m
value_once a (Text t) order counts n q m = leaf_once order counts _ q m
value_once a (NodeRef i) order counts n q m = absurd (n i refl)
