-- Lists of what is said of each node, in the order of the text: what is said of a node stands at its number. The nodes of the graph that is meant are such a list.
use Rattle.std.proofs.Common.{◌≡◌, ℕ, zero, suc, ◌+◌, Bool, true, false, if◌then◌else◌, List, [], ◌∷◌, ◌++◌, map, length, slice_get, Some, refl, sym, ap, ap₂, ◌∙◌, subst, length-append, arith}
use Rattle.std.proofs.lemmas.Option.{same_Some}
use Rattle.amf_graph.specs.Graph.{leaf, node, Value, Node, Graph, node_at}
use Rattle.amf_graph.proofs.Lists.{at_left}
use Rattle.amf_text.specs.Told.{Way, label_of, in_table, levels, levels_below}
use Rattle.amf_text.specs.Meant.{called}
use Rattle.amf_text.specs.Linked.{size, size_named, Numbers, nodes_from, named_nodes, labels_from}
use Rattle.amf_text.specs.ToldTrees.{named_of, node_tree, tree_of}
use Rattle.amf_text.specs.ValueLaws.{row_tree, part_of}
use Rattle.amf_text.specs.GraphLaws.{graph_meant}
use Rattle.amf_text.proofs.Numbering.{parts_at, taken, row_size, rows_front, rows_size, Stands, as_row, as_root, as_part}
use Rattle.amf_text.proofs.Parts.{node_size, head_node, node_nodes}
use Rattle.amf_text.proofs.Spread.{front, Covers, covers_left, covers_behind, covers_through, spread, spread_length, spread_covers, spread_same}

module _ {X : Type 0} (g : Graph) (w : Way) (say : ℕ → ℕ → ℕ → X) where
  -- with so many levels left for its parts, at this number
  abbrev pub unit_by : (ℕ → Value → List X) → ℕ → ℕ → ℕ → List X
  unit_by flat l n i = say l n i ∷ spread (taken g w l) flat (suc n) (parts_at g w i)

  pub flat : ℕ → ℕ → Value → List X
  flat l n (leaf x) = []
  flat zero n (node i) = []
  flat (suc l) n (node i) = if in_table w i then [] else unit_by (flat l) l n i

  abbrev pub unit : ℕ → ℕ → ℕ → List X
  unit l n i = unit_by (flat l) l n i

  abbrev pub unit_rows : ℕ → List ℕ → List X
  unit_rows n [] = []
  unit_rows n (i ∷ t) = unit levels_below n i ++ unit_rows (n + row_size g w i) t

  abbrev pub text_list : List X
  text_list = unit_rows 0 w.table ++ flat levels (rows_size g w w.table) g.root

  long : (l n : ℕ) (v : Value) → length (flat l n v) ≡ taken g w l v
  unfolding flat tree_of
  long l n (leaf x) = refl
  long zero n (node i) = refl
  long (suc l) n (node i) = go (in_table w i) (λ m v. long l m v)
    where
      go : (b : Bool) → ((m : ℕ) (v : Value) → length (flat l m v) ≡ taken g w l v)
          → length (if b then [] else unit_by (flat l) l n i) ≡ size (if b then called (label_of w i) else node_tree (tree_of w g l) (node_at g i))
      go true more = refl
      go false more = ap suc (spread_length (taken g w l) (flat l) more (suc n) (parts_at g w i)) ∙ sym (node_size (tree_of w g l) (node_at g i))

  unit_long : (n i : ℕ) → length (unit levels_below n i) ≡ row_size g w i
  unit_long n i = ap suc (spread_length (taken g w levels_below) (flat levels_below) (long levels_below) (suc n) (parts_at g w i)) ∙ sym (node_size (tree_of w g levels_below) (node_at g i))

  rows_long : (n : ℕ) (t : List ℕ) → length (unit_rows n t) ≡ rows_size g w t
  rows_long n [] = refl
  rows_long n (i ∷ t) = length-append (unit levels_below n i) (unit_rows (n + row_size g w i) t) ∙ ap₂ (λ a b. a + b) (unit_long n i) (rows_long (n + row_size g w i) t)

  row_covers : (m : ℕ) (t : List ℕ) (r i : ℕ) → slice_get t r ≡ Some i → Covers (unit levels_below (m + rows_front g w t r) i) (rows_front g w t r) (unit_rows m t)
  row_covers m [] r i e = cc
  row_covers m (u ∷ t) zero i e =
      subst (λ k. Covers (unit levels_below k i) 0 (unit levels_below m u ++ unit_rows (m + row_size g w u) t)) (plus_zero m)
      (subst (λ k. Covers (unit levels_below m k) 0 (unit levels_below m u ++ unit_rows (m + row_size g w u) t)) (same_Some u i e) (covers_left (unit levels_below m u) (unit_rows (m + row_size g w u) t)))
    where
      plus_zero : (n : ℕ) → n ≡ n + 0
      plus_zero n = omega arith
  row_covers m (u ∷ t) (suc r) i e =
      covers_behind (unit levels_below (m + (row_size g w u + rows_front g w t r)) i) (unit levels_below m u) (unit_rows (m + row_size g w u) t) (row_size g w u) (rows_front g w t r) (sym (unit_long m u))
      (subst (λ k. Covers (unit levels_below k i) (rows_front g w t r) (unit_rows (m + row_size g w u) t)) (by_parts m (row_size g w u) (rows_front g w t r)) (row_covers (m + row_size g w u) t r i e))
    where
      by_parts : (a b c : ℕ) → a + b + c ≡ a + (b + c)
      by_parts a b c = omega arith

  -- a node that is told where it stands
  told_here : (l n i : ℕ) → in_table w i ≡ false → flat (suc l) n (node i) ≡ unit l n i
  unfolding flat
  told_here l n i out = ap (λ b. if b then [] else unit_by (flat l) l n i) out

  below_covers : (l n i : ℕ) → Covers (spread (taken g w l) (flat l) (suc n) (parts_at g w i)) 1 (unit l n i)
  below_covers l n i j x e = ap (λ k. slice_get (unit l n i) k) (one_more j) ∙ e
    where
      one_more : (j : ℕ) → 1 + j ≡ suc j
      one_more j = omega arith

  found : {l i n : ℕ} → Stands g w l i n → Covers (unit l n i) n text_list
  found (as_row {l = l} {i = i} {n = n} r e at f) = place l n e f
    where
      place : (l n : ℕ) → l ≡ levels_below → n ≡ rows_front g w w.table r → Covers (unit l n i) n text_list
      place l n e f =
          subst (λ k. Covers (unit k n i) n text_list) (sym e)
          (subst (λ k. Covers (unit levels_below k i) k text_list) (zero_left (rows_front g w w.table r) ∙ sym f)
          (λ j x h. at_left (unit_rows 0 w.table) (flat levels (rows_size g w w.table) g.root) (0 + rows_front g w w.table r + j) x
          (ap (λ k. slice_get (unit_rows 0 w.table) (k + j)) (zero_left (rows_front g w w.table r)) ∙ row_covers 0 w.table r i at j x h)))
        where
          zero_left : (j : ℕ) → 0 + j ≡ j
          zero_left j = omega arith
  found (as_root {l = l} {i = i} {n = n} e r out f) = place l n e f
    where
      whole : Covers (flat levels (rows_size g w w.table) g.root) (rows_size g w w.table + 0) text_list
      whole = covers_behind (flat levels (rows_size g w w.table) g.root) (unit_rows 0 w.table) (flat levels (rows_size g w w.table) g.root) (rows_size g w w.table) 0 (sym (rows_long 0 w.table)) (λ j x h. ap (λ k. slice_get (flat levels (rows_size g w w.table) g.root) k) (zero_left j) ∙ h)
        where
          zero_left : (j : ℕ) → 0 + j ≡ j
          zero_left j = omega arith

      is : flat levels (rows_size g w w.table) g.root ≡ unit levels_below (rows_size g w w.table) i
      is = ap (flat levels (rows_size g w w.table)) r ∙ told_here levels_below (rows_size g w w.table) i out

      place : (l n : ℕ) → l ≡ levels_below → n ≡ rows_size g w w.table → Covers (unit l n i) n text_list
      place l n e f =
          subst (λ k. Covers (unit k n i) n text_list) (sym e)
          (subst (λ k. Covers (unit levels_below k i) k text_list) (sym f)
          (subst (λ k. Covers (unit levels_below (rows_size g w w.table) i) k text_list) (plus_zero (rows_size g w w.table))
          (subst (λ xs. Covers xs (rows_size g w w.table + 0) text_list) is whole)))
        where
          plus_zero : (n : ℕ) → n + 0 ≡ n
          plus_zero n = omega arith
  found (as_part {l = l} {i = i} {n = n} c m k p at out f) =
      let step = front (taken g w (suc l)) (parts_at g w c) k in
      let in_spread = spread_covers (taken g w (suc l)) (flat (suc l)) (long (suc l)) (suc m) (parts_at g w c) k (node i) at in
      let in_unit = covers_through (flat (suc l) (suc m + step) (node i)) (spread (taken g w (suc l)) (flat (suc l)) (suc m) (parts_at g w c)) (unit (suc l) m c) step 1 in_spread (below_covers (suc l) m c) in
      let in_text = covers_through (flat (suc l) (suc m + step) (node i)) (unit (suc l) m c) text_list (1 + step) m in_unit (found p) in
      subst (λ y. Covers (unit l y i) y text_list) (sym f)
      (subst (λ y. Covers (unit l (suc m + step) i) y text_list) (by_parts m step)
      (subst (λ xs. Covers xs (m + (1 + step)) text_list) (told_here l (suc m + step) i out) in_text))
    where
      by_parts : (a b : ℕ) → a + (1 + b) ≡ suc a + b
      by_parts a b = omega arith

  -- what is said of it stands at its number
  pub said_at : {l i n : ℕ} → Stands g w l i n → slice_get text_list n ≡ Some (say l n i)
  said_at {l = l} {i = i} {n = n} x = ap (λ k. slice_get text_list k) (plus_zero n) ∙ found x 0 (say l n i) refl
    where
      plus_zero : (n : ℕ) → n ≡ n + 0
      plus_zero n = omega arith

module _ (g : Graph) (w : Way) where
  abbrev pub row_labels : Numbers
  row_labels = labels_from 0 (part_of w g).table

  abbrev pub node_said : ℕ → ℕ → ℕ → Node
  node_said l n i = head_node (tree_of w g l) row_labels n (node_tree (tree_of w g l) (node_at g i))

  flat_nodes : (l n : ℕ) (v : Value) → nodes_from row_labels n (tree_of w g l v) ≡ flat g w node_said l n v
  unfolding flat tree_of
  flat_nodes l n (leaf x) = refl
  flat_nodes zero n (node i) = refl
  flat_nodes (suc l) n (node i) = go (in_table w i) (λ m v. flat_nodes l m v)
    where
      go : (b : Bool) → ((m : ℕ) (v : Value) → nodes_from row_labels m (tree_of w g l v) ≡ flat g w node_said l m v)
          → nodes_from row_labels n (if b then called (label_of w i) else node_tree (tree_of w g l) (node_at g i)) ≡ (if b then [] else unit_by g w node_said (flat g w node_said l) l n i)
      go true more = refl
      go false more =
          node_nodes (tree_of w g l) row_labels n (node_at g i)
          ∙ ap (λ s. node_said l n i ∷ s) (spread_same (taken g w l) (λ m v. nodes_from row_labels m (tree_of w g l v)) (flat g w node_said l) more (suc n) (parts_at g w i))

  row_nodes : (n i : ℕ) → nodes_from row_labels n (node_tree (tree_of w g levels_below) (node_at g i)) ≡ unit g w node_said levels_below n i
  row_nodes n i =
      node_nodes (tree_of w g levels_below) row_labels n (node_at g i)
      ∙ ap (λ s. node_said levels_below n i ∷ s) (spread_same (taken g w levels_below) (λ m v. nodes_from row_labels m (tree_of w g levels_below v)) (flat g w node_said levels_below) (flat_nodes levels_below) (suc n) (parts_at g w i))

  rows_nodes : (n : ℕ) (t : List ℕ) → named_nodes row_labels n (named_of (map (row_tree w g) t)) ≡ unit_rows g w node_said n t
  rows_nodes n [] = refl
  rows_nodes n (i ∷ t) = ap₂ (λ a b. a ++ b) (row_nodes n i) (rows_nodes (n + row_size g w i) t)

  pub table_size : (t : List ℕ) → size_named (named_of (map (row_tree w g) t)) ≡ rows_size g w t
  table_size [] = refl
  table_size (i ∷ t) = ap (λ n. row_size g w i + n) (table_size t)

  nodes_are : (graph_meant (part_of w g)).nodes ≡ text_list g w node_said
  nodes_are =
      ap₂ (λ a b. a ++ b) (rows_nodes 0 w.table)
      (ap (λ n. nodes_from row_labels n (tree_of w g levels g.root)) (table_size w.table) ∙ flat_nodes levels (rows_size g w w.table) g.root)

  pub node_stands : {l i n : ℕ} → Stands g w l i n → slice_get (graph_meant (part_of w g)).nodes n ≡ Some (node_said l n i)
  node_stands {n = n} x = ap (λ xs. slice_get xs n) nodes_are ∙ said_at g w node_said x

  -- and no two nodes stand at one number
  pub one_node : (n : ℕ) {l m i j : ℕ} → Stands g w l i n → Stands g w m j n → i ≡ j
  one_node n {i = i} {j = j} x y = same_Some i j (sym (said_at g w (λ l n k. k) x) ∙ said_at g w (λ l n k. k) y)
