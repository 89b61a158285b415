-- The nodes that are marked by their meetings and levels are those that stand in the table.
use Rattle.std.proofs.Common.{◌≡◌, ◌⊎◌, ℕ, zero, suc, ◌+◌, ◌<◌, nat_lt, List, slice_get, Some, refl, ap, ◌∙◌, subst, inl, inr, arith}
use Rattle.std.proofs.lemmas.Bool.{cases_lt}
use Rattle.amf_graph.specs.Graph.{node, Graph}
use Rattle.amf_graph.specs.Order.{IsOrder}
use Rattle.amf_text.specs.Texts.{IsShared, HoldsNode, Under, itself, step, InTable, shared, below_root, below}
use Rattle.amf_text.proofs.Parents.{root_or_held, root_and_held, root_stands, under_stands, table_stands}
use Rattle.amf_text_write.specs.Levels.{next_level, AreLevels, IsMarked}
use Rattle.amf_text_write.proofs.Bools.{if_true}
use Rattle.amf_text_write.proofs.Counting.{decided}

next_is : (n : ℕ) → n < 32 → next_level n ≡ n + 1
next_is n l = if_true (nat_lt n 32) (n + 1) 1 (grind arith)

next_last : next_level 32 ≡ 1
next_last = refl

module _ (g : Graph) (order : List ℕ) (a : IsOrder g order) (level : ℕ → ℕ) (levels : AreLevels g order level) where
  abbrev In : ℕ → Type 0
  In i = (k : ℕ) × (slice_get order k ≡ Some i)

  -- down from a node at the first level
  under_level : (n s i : ℕ) → In s → level s ≡ 1 → n < 32 → Under g order n s i → level i ≡ n + 1
  under_level zero s i at one l (itself _) = one
  under_level (suc n) s i at one l (step {j = j} u h once) =
      let place = under_stands g order a u at in
      let before = under_level n s j at one (omega (arith, l)) u in
      levels.held j i place.0 place.1 h once ∙ ap next_level before ∙ next_is (n + 1) (omega (arith, l)) ∙ omega arith

  -- the 33rd of them
  under_last : (s i : ℕ) → In s → level s ≡ 1 → Under g order 32 s i → IsMarked g order level i × (level i ≡ 1)
  under_last s i at one (step {j = j} u h once) =
      let place = under_stands g order a u at in
      let before : level j ≡ 32 = under_level 31 s j at one (omega arith) u in
      let first : level i ≡ 1 = levels.held j i place.0 place.1 h once ∙ ap next_level before ∙ next_last in
      (inr (first, λ r. once (root_and_held g order a i j place.0 r place.1 h)), first)

  in_first : {i : ℕ} → InTable g order i → IsMarked g order level i × (level i ≡ 1)
  in_first (shared {i = i} s) = (inl s, levels.shared i s)
  in_first (below_root {i = i} {j = j} r u) = under_last j i (root_stands g order a j r) (levels.root j r) u
  in_first (below {i = i} {j = j} t u) = under_last j i (table_stands g order a t) (in_first t).1 u

  pub marked : (i : ℕ) → InTable g order i → IsMarked g order level i
  marked i t = (in_first t).0

  -- the other way

  abbrev Start : ℕ → Type 0
  Start s = (g.root ≡ node s) ⊎ InTable g order s

  -- below a root or a node of the table, and at this level
  abbrev Below : ℕ → Type 0
  Below i = (s m : ℕ) × Start s × (m < 32) × Under g order m s i × (level i ≡ m + 1)

  deep : (s i : ℕ) → Start s → Under g order 32 s i → InTable g order i
  deep s i (inl r) u = below_root r u
  deep s i (inr t) u = below t u

  -- a node within one that stands below a start
  one_more : (k j i : ℕ) → slice_get order k ≡ Some j → HoldsNode g j i → (IsShared g order i → ⊥) → Below j → Below i × (level i ≡ 1 → InTable g order i)
  one_more k j i e h once (s, m, start, l, u, is) = elim (cases_lt (m + 1) 32) [
    | inl more ↦
        let here : level i ≡ suc m + 1 = levels.held j i k e h once ∙ ap next_level is ∙ next_is (m + 1) more ∙ omega arith in
        ((s, suc m, start, omega (arith, more), step u h once, here), λ one. absurd (omega (arith, here, one)))
    | inr last ↦
        let at : m ≡ 31 = omega (arith, l, last) in
        let u32 : Under g order 32 s i = step (subst (λ n. Under g order n s j) at u) h once in
        let t = deep s i start u32 in
        let first : level i ≡ 1 = levels.held j i k e h once ∙ ap next_level (is ∙ ap (λ n. n + 1) at) ∙ next_last in
        ((i, 0, inr t, omega arith, itself i, first), λ one. t)
  ]

  found : (bound k i : ℕ) → k < bound → slice_get order k ≡ Some i → Below i
  found zero k i l e = absurd (omega (arith, l))
  found (suc bound) k i l e = go (found bound) (decided g order i) (root_or_held g order a k i e)
    where
      go : ((p j : ℕ) → p < bound → slice_get order p ≡ Some j → Below j) → IsShared g order i ⊎ (IsShared g order i → ⊥) → (g.root ≡ node i) ⊎ ((p : ℕ) × (j : ℕ) × (p < k) × (slice_get order p ≡ Some j) × HoldsNode g j i) → Below i
      go earlier (inl s) o = (i, 0, inr (shared s), omega arith, itself i, levels.shared i s)
      go earlier (inr once) (inl r) = (i, 0, inl r, omega arith, itself i, levels.root i r)
      go earlier (inr once) (inr h) = (one_more h.0 h.1 i h.3 h.4 once (earlier h.0 h.1 (omega (arith, h.2, l)) h.3)).0

  pub tabled : (k i : ℕ) → slice_get order k ≡ Some i → IsMarked g order level i → InTable g order i
  tabled k i e (inl s) = shared s
  tabled k i e (inr m) = go (decided g order i) (root_or_held g order a k i e)
    where
      go : IsShared g order i ⊎ (IsShared g order i → ⊥) → (g.root ≡ node i) ⊎ ((p : ℕ) × (j : ℕ) × (p < k) × (slice_get order p ≡ Some j) × HoldsNode g j i) → InTable g order i
      go (inl s) o = shared s
      go (inr once) (inl r) = absurd (m.1 r)
      go (inr once) (inr h) = (one_more h.0 h.1 i h.3 h.4 once (found (suc h.0) h.0 h.1 (omega arith) h.3)).1 m.0
