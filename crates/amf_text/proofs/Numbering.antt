-- The number at which each reached node stands in the text: each has one, and no two have the same.
use Rattle.std.proofs.Common.{◌≡◌, ◌⊎◌, ℕ, zero, suc, ◌+◌, ◌<◌, Bool, true, false, List, [], ◌∷◌, slice_get, Some, refl, sym, ap, ap₂, ◌∙◌, subst, inl, inr, arith}
use Rattle.std.specs.List.{flat_map}
use Rattle.std.proofs.lemmas.Bool.{cases_lt}
use Rattle.std.proofs.lemmas.Option.{same_Some}
use Rattle.amf_graph.specs.Graph.{Value, node, Graph, node_at}
use Rattle.amf_graph.specs.Order.{values_met, IsOrder}
use Rattle.amf_graph.specs.Reached.{IsWhole}
use Rattle.amf_graph.proofs.Lists.{at_left}
use Rattle.amf_graph.proofs.Reaching.{order_reached}
use Rattle.amf_text.specs.Told.{Way, in_table, levels_below}
use Rattle.amf_text.specs.Texts.{IsShared, HoldsNode, Under, itself, step, InTable, shared, below_root, below, IsTable}
use Rattle.amf_text.specs.Linked.{size}
use Rattle.amf_text.specs.ToldTrees.{node_tree, tree_of}
use Rattle.amf_text.proofs.Labels.{at_test, not_in}
use Rattle.amf_text.proofs.Occurrences.{counts_one, counts_two, one_of, two_of}
use Rattle.amf_text.proofs.Parents.{at_behind, root_or_held, root_and_held, held_twice, root_stands, under_stands, table_stands}
use Rattle.amf_text.proofs.Parts.{parts_of, met_parts}
use Rattle.amf_text.proofs.Spread.{front}

-- Two places within one part of a list of lists.
two_in_one : {X : Type 0} (f : ℕ → List X) (us : List ℕ) (l i t u : ℕ) (x : X) → slice_get us l ≡ Some i → t < u → slice_get (f i) t ≡ Some x → slice_get (f i) u ≡ Some x
    → (a : ℕ) × (b : ℕ) × (a < b) × (slice_get (flat_map f us) a ≡ Some x) × (slice_get (flat_map f us) b ≡ Some x)
two_in_one f [] l i t u x e less p q = cc
two_in_one f (v ∷ us) zero i t u x e less p q =
    let same : v ≡ i = same_Some v i e in
    (t, u, less, at_left (f v) (flat_map f us) t x (ap (λ n. slice_get (f n) t) same ∙ p), at_left (f v) (flat_map f us) u x (ap (λ n. slice_get (f n) u) same ∙ q))
two_in_one f (v ∷ us) (suc l) i t u x e less p q =
    let o = two_in_one f us l i t u x e less p q in
    let a = at_behind (f v) (flat_map f us) o.0 x o.3 in
    let b = at_behind (f v) (flat_map f us) o.1 x o.4 in
    (a.0, b.0, omega (arith, o.2, a.1, b.1), a.2, b.2)

module _ (g : Graph) (w : Way) where
  abbrev pub parts_at : ℕ → List Value
  parts_at i = parts_of (node_at g i)

  abbrev pub taken : ℕ → Value → ℕ
  taken l v = size (tree_of w g l v)

  abbrev pub row_size : ℕ → ℕ
  row_size i = size (node_tree (tree_of w g levels_below) (node_at g i))

  -- of the rows before one
  abbrev pub rows_front : List ℕ → ℕ → ℕ
  rows_front t zero = 0
  rows_front [] (suc r) = 0
  rows_front (i ∷ t) (suc r) = row_size i + rows_front t r

  abbrev pub rows_size : List ℕ → ℕ
  rows_size [] = 0
  rows_size (i ∷ t) = row_size i + rows_size t

-- the node stands at this number, and its parts are told with so many levels left
pub data Stands (g : Graph) (w : Way) : ℕ → ℕ → ℕ → Type 0 where
  as_row : {l i n : ℕ} (r : ℕ) → l ≡ levels_below → slice_get w.table r ≡ Some i → n ≡ rows_front g w w.table r → Stands g w l i n
  as_root : {l i n : ℕ} → l ≡ levels_below → g.root ≡ node i → in_table w i ≡ false → n ≡ rows_size g w w.table → Stands g w l i n
  as_part : {l i n : ℕ} (c m k : ℕ) → Stands g w (suc l) c m → slice_get (parts_at g w c) k ≡ Some (node i) → in_table w i ≡ false → n ≡ suc m + front (taken g w (suc l)) (parts_at g w c) k → Stands g w l i n

module _ (g : Graph) (w : Way) (whole : IsWhole g) (a : IsOrder g w.order) (s : IsTable g w.order w.table) where
  abbrev Top : ℕ → Type 0
  Top j = (g.root ≡ node j) ⊎ InTable g w.order j

  top_stands : (j : ℕ) → Top j → (q : ℕ) × (slice_get w.order q ≡ Some j)
  top_stands j (inl e) = root_stands g w.order a j e
  top_stands j (inr t) = table_stands g w.order a t

  -- what stands among the parts is held
  part_held : (c q i k : ℕ) → slice_get w.order q ≡ Some c → slice_get (parts_at g w c) k ≡ Some (node i) → HoldsNode g c i
  part_held c q i k at e =
      let r = (order_reached g w.order a c).1 (q, at) in
      let one = counts_one i (parts_at g w c) k e in
      let same = met_parts i (node_at g c) (whole.fits c r) in
      one_of i (values_met (node_at g c)) (omega (arith, one, same))

  held_part : (c q i : ℕ) → slice_get w.order q ≡ Some c → HoldsNode g c i → (k : ℕ) × (slice_get (parts_at g w c) k ≡ Some (node i))
  held_part c q i at o =
      let r = (order_reached g w.order a c).1 (q, at) in
      let one = counts_one i (values_met (node_at g c)) o.0 o.1 in
      let same = met_parts i (node_at g c) (whole.fits c r) in
      one_of i (parts_at g w c) (omega (arith, one, same))

  twice_in : (c q i j k : ℕ) → slice_get w.order q ≡ Some c → j < k → slice_get (parts_at g w c) j ≡ Some (node i) → slice_get (parts_at g w c) k ≡ Some (node i) → IsShared g w.order i
  twice_in c q i j k at less e f =
      let r = (order_reached g w.order a c).1 (q, at) in
      let two = counts_two i (parts_at g w c) j k less e f in
      let same = met_parts i (node_at g c) (whole.fits c r) in
      let o = two_of i (values_met (node_at g c)) (omega (arith, two, same)) in
      let p = two_in_one (λ n. values_met (node_at g n)) w.order q c o.0 o.1 (node i) at o.2 o.3 o.4 in
      (suc p.0, suc p.1, omega (arith, p.2), p.3, p.4)

  once : (i : ℕ) → in_table w i ≡ false → IsShared g w.order i → ⊥
  once i e x = not_in g w s i e (shared x)

  -- where it stands below
  record Deep (l i : ℕ) : Type 0 where
    top : ℕ
    is_top : Top top
    steps : ℕ
    all : l + steps ≡ levels_below
    under : Under g w.order steps top i

  deep : {l i n : ℕ} → Stands g w l i n → Deep l i
  deep (as_row {l = l} {i = i} {n = n} r e at f) = record { top = i; is_top = inr (s.sound i r at); steps = 0; all = omega (arith, e); under = itself i }
  deep (as_root {l = l} {i = i} {n = n} e r out f) = record { top = i; is_top = inl r; steps = 0; all = omega (arith, e); under = itself i }
  deep (as_part {l = l} {i = i} {n = n} c m k p at out f) =
      let o = deep p in
      let q = under_stands g w.order a o.under (top_stands o.top o.is_top) in
      record { top = o.top; is_top = o.is_top; steps = suc o.steps; all = (let h = o.all in omega (arith, h)); under = step o.under (part_held c q.0 i k q.1 at) (once i out) }

  pub stands_in_order : {l i n : ℕ} → Stands g w l i n → (q : ℕ) × (slice_get w.order q ≡ Some i)
  stands_in_order x = let o = deep x in under_stands g w.order a o.under (top_stands o.top o.is_top)

  -- at the last level each part stands in the table
  pub last_level : (c n i k : ℕ) → Stands g w 0 c n → slice_get (parts_at g w c) k ≡ Some (node i) → in_table w i ≡ false → ⊥
  last_level c n i k x at out =
      let o = deep x in
      let q = stands_in_order x in
      let h = o.all in
      let u : Under g w.order 32 o.top i = subst (λ y. Under g w.order y o.top i) (omega (arith, h)) (step o.under (part_held c q.0 i k q.1 at) (once i out)) in
      not_in g w s i out (below_top o.top o.is_top u)
    where
      below_top : (j : ℕ) → Top j → Under g w.order 32 j i → InTable g w.order i
      below_top j (inl r) u = below_root r u
      below_top j (inr t) u = below t u

  -- One number.

  row_distinct : (j k i : ℕ) → j < k → slice_get w.table j ≡ Some i → slice_get w.table k ≡ Some i → ⊥
  row_distinct j k i less e f =
      let q = table_stands g w.order a (s.sound i j e) in
      let l : q.0 < q.0 = s.in_order j k q.0 q.0 i i less e f q.1 q.1 in
      omega (arith, l)

  same_place : {X : Type 0} (xs : List X) (x : X) → ((j k : ℕ) → j < k → slice_get xs j ≡ Some x → slice_get xs k ≡ Some x → ⊥) → (j k : ℕ) → slice_get xs j ≡ Some x → slice_get xs k ≡ Some x → j ≡ k
  same_place xs x apart j k e f = elim (cases_lt j k) [
    | inl less ↦ absurd (apart j k less e f)
    | inr not_less ↦ elim (cases_lt k j) [
      | inl less ↦ absurd (apart k j less f e)
      | inr other ↦ omega (arith, not_less, other)
    ]
  ]

  no_both : {X : Type 0} (i r : ℕ) → slice_get w.table r ≡ Some i → in_table w i ≡ false → X
  no_both i r at out = absurd (not_in g w s i out (s.sound i r at))

  one_parent : (c d q r i j k : ℕ) → slice_get w.order q ≡ Some c → slice_get w.order r ≡ Some d → slice_get (parts_at g w c) j ≡ Some (node i) → slice_get (parts_at g w d) k ≡ Some (node i) → in_table w i ≡ false → c ≡ d
  one_parent c d q r i j k at to e f out = elim (cases_lt q r) [
    | inl less ↦ absurd (once i out (held_twice g w.order a i c d q r less at to (part_held c q i j at e) (part_held d r i k to f)))
    | inr not_less ↦ elim (cases_lt r q) [
      | inl less ↦ absurd (once i out (held_twice g w.order a i d c r q less to at (part_held d r i k to f) (part_held c q i j at e)))
      | inr other ↦ (let same : q ≡ r = omega (arith, not_less, other) in same_Some c d (sym at ∙ ap (λ n. slice_get w.order n) same ∙ to))
    ]
  ]

  abbrev Same : ℕ → ℕ → ℕ → ℕ → Type 0
  Same l m n o = (l ≡ m) × (n ≡ o)

  pub one_number : {l i n : ℕ} → Stands g w l i n → (m o : ℕ) → Stands g w m i o → (l ≡ m) × (n ≡ o)
  one_number (as_row {l = l} {i = i} {n = n} r e at f) m o (as_row t d to h) =
      let same : r ≡ t = same_place w.table i (λ j k. row_distinct j k i) r t at to in
      (e ∙ sym d, f ∙ ap (rows_front g w w.table) same ∙ sym h)
  one_number (as_row {l = l} {i = i} {n = n} r e at f) m o (as_root d to out h) = no_both i r at out
  one_number (as_row {l = l} {i = i} {n = n} r e at f) m o (as_part c p k x to out h) = no_both i r at out
  one_number (as_root {l = l} {i = i} {n = n} e r out f) m o (as_row t d to h) = no_both i t to out
  one_number (as_root {l = l} {i = i} {n = n} e r out f) m o (as_root d to x h) = (e ∙ sym d, f ∙ sym h)
  one_number (as_root {l = l} {i = i} {n = n} e r out f) m o (as_part c p k x to y h) =
      let q = stands_in_order x in
      absurd (once i out (root_and_held g w.order a i c q.0 r q.1 (part_held c q.0 i k q.1 to)))
  one_number (as_part {l = l} {i = i} {n = n} c p k x at out f) m o (as_row t d to h) = no_both i t to out
  one_number (as_part {l = l} {i = i} {n = n} c p k x at out f) m o (as_root d r y h) =
      let q = stands_in_order x in
      absurd (once i out (root_and_held g w.order a i c q.0 r q.1 (part_held c q.0 i k q.1 at)))
  one_number (as_part {l = l} {i = i} {n = n} c p k x at out f) m o (as_part d q j y to z h) =
      let u = stands_in_order x in
      let v = stands_in_order y in
      let parent : c ≡ d = one_parent c d u.0 v.0 i k j u.1 v.1 at to out in
      let other : Stands g w (suc m) c q = subst (λ b. Stands g w (suc m) b q) (sym parent) y in
      let there : slice_get (parts_at g w c) j ≡ Some (node i) = ap (λ b. slice_get (parts_at g w b) j) parent ∙ to in
      let above = one_number x (suc m) q other in
      let place : k ≡ j = same_place (parts_at g w c) (node i) (λ s t less e f. once i out (twice_in c u.0 i s t u.1 less e f)) k j at there in
      let level : l ≡ m = (let r = above.0 in omega (arith, r)) in
      (level, f ∙ by_equals l m p q k j c d level above.1 place parent ∙ sym h)
    where
      by_equals : (l m p q k j c d : ℕ) → l ≡ m → p ≡ q → k ≡ j → c ≡ d → suc p + front (taken g w (suc l)) (parts_at g w c) k ≡ suc q + front (taken g w (suc m)) (parts_at g w d) j
      by_equals l m p q k j c d e f h i =
          ap₂ (λ x y. suc x + front (taken g w (suc y)) (parts_at g w c) k) f e ∙ ap₂ (λ x y. suc q + front (taken g w (suc m)) (parts_at g w x) y) i h

  -- Each has a number.

  pub number : (bound q i : ℕ) → q < bound → slice_get w.order q ≡ Some i → (l : ℕ) × (n : ℕ) × Stands g w l i n
  number zero q i less e = absurd (omega (arith, less))
  number (suc bound) q i less e = go (in_table w i) refl (λ p c l f. number bound p c (omega (arith, less, l)) f)
    where
      among : (c l n : ℕ) → Stands g w l c n → HoldsNode g c i → in_table w i ≡ false → (l : ℕ) × (n : ℕ) × Stands g w l i n
      among c zero n x o out = let q = stands_in_order x in let k = held_part c q.0 i q.1 o in absurd (last_level c n i k.0 x k.1 out)
      among c (suc l) n x o out =
          let q = stands_in_order x in
          let k = held_part c q.0 i q.1 o in
          (l, suc n + front (taken g w (suc l)) (parts_at g w c) k.0, as_part c n k.0 x k.1 out refl)

      out_of_table : in_table w i ≡ false → (g.root ≡ node i) ⊎ ((l : ℕ) × (j : ℕ) × (l < q) × (slice_get w.order l ≡ Some j) × HoldsNode g j i)
          → ((p c : ℕ) → p < q → slice_get w.order p ≡ Some c → (l : ℕ) × (n : ℕ) × Stands g w l c n) → (l : ℕ) × (n : ℕ) × Stands g w l i n
      out_of_table out (inl r) more = (levels_below, rows_size g w w.table, as_root refl r out refl)
      out_of_table out (inr (p, c, l, at, o)) more = let x = more p c l at in among c x.0 x.1 x.2 o out

      go : (b : Bool) → in_table w i ≡ b → ((p c : ℕ) → p < q → slice_get w.order p ≡ Some c → (l : ℕ) × (n : ℕ) × Stands g w l c n) → (l : ℕ) × (n : ℕ) × Stands g w l i n
      go true f more = let o = at_test w.table i f in (levels_below, rows_front g w w.table o.0, as_row o.0 refl o.1 refl)
      go false f more = out_of_table f (root_or_held g w.order a q i e) more
