-- Each label that is called is one of a row: a node that is met once is told where it stands, but the 33rd of those within one another, which stands in the table.
use Rattle.std.proofs.Common.{◌≡◌, ◌⊎◌, ℕ, zero, suc, ◌+◌, Bool, true, false, if◌then◌else◌, List, [], ◌∷◌, map, slice_get, Some, refl, sym, ap, ap₂, ◌∙◌, subst, inl, inr, arith}
use Rattle.std.specs.Prelude.{◌&&◌, ◌||◌, ◌==◌, bytes_eq}
use Rattle.std.specs.List.{AllByRecursion, zip}
use Rattle.std.proofs.lemmas.Option.{same_Some}
use Rattle.std.proofs.lemmas.Slice.Eq.{bytes_eq-Decides}
use Rattle.amf_graph.specs.Graph.{Head, xml_document, date, array, object, wrapper, xml, bytes, ints, uints, doubles, values, dictionary, Value, leaf, node, Node, Graph, node_at}
use Rattle.amf_graph.specs.Order.{is_array, values_met}
use Rattle.amf_graph.specs.ByName.{by_name}
use Rattle.amf_graph.proofs.Alls.{all_map, each_from}
use Rattle.amf_graph.proofs.Lists.{no_entry}
use Rattle.amf_graph.proofs.Places.{each_met}
use Rattle.amf_graph.proofs.Reaching.{seconds_all}
use Rattle.amf_graph.proofs.StableSort.{sort_all}
use Rattle.amf_text.specs.Told.{Way, comes_before, some_is, label_of, in_table, levels, levels_below}
use Rattle.amf_text.specs.Texts.{IsShared, HoldsNode, Under, itself, step, InTable, shared, below_root, below, IsTable}
use Rattle.amf_text.specs.Meant.{Tree, called, body, mixed, Named}
use Rattle.amf_text.specs.Linked.{has_label, calls, calls_trees, calls_named}
use Rattle.amf_text.specs.ToldTrees.{trees, named_of, by_keys, is_listed, body_tree, node_tree, tree_of}
use Rattle.amf_text.specs.ValueLaws.{row_tree, part_of}
use Rattle.amf_text.specs.LinkLaws.{LinkLaws}

or_right : (b c : Bool) → c ≡ true → (b || c) ≡ true
or_right true c e = refl
or_right false c e = e

equal : (a b : ℕ) → (a == b) ≡ true → a ≡ b
equal a b e = grind arith

same_number : (a : ℕ) → (a == a) ≡ true
same_number a = grind arith

-- Values in which each label is one of a row.

abbrev IsLed : Named → Tree → Type 0
IsLed rows t = calls rows t ≡ true

module _ (rows : Named) where
  trees_led : (ts : List Tree) → AllByRecursion (IsLed rows) ts → calls_trees rows (trees ts) ≡ true
  trees_led [] h = refl
  trees_led (t ∷ ts) h = ap₂ (λ x y. x && y) h.0 (trees_led ts h.1)

  named_led : (ps : List (List ℕ × Tree)) → AllByRecursion (λ p. IsLed rows p.1) ps → calls_named rows (named_of ps) ≡ true
  named_led [] h = refl
  named_led (p ∷ ps) h = ap₂ (λ x y. x && y) h.0 (named_led ps h.1)

  zip_led : (names : List (List ℕ)) (ts : List Tree) → AllByRecursion (IsLed rows) ts → AllByRecursion (λ p. IsLed rows p.1) (zip names ts)
  zip_led [] ts h = tt
  zip_led (x ∷ names) [] h = tt
  zip_led (x ∷ names) (t ∷ ts) h = (h.0, zip_led names ts h.1)

  parts_led : (ps : List (List ℕ × Tree)) (ts : List Tree) → AllByRecursion (λ p. IsLed rows p.1) ps → AllByRecursion (IsLed rows) ts → (calls_named rows (named_of ps) && calls_trees rows (trees ts)) ≡ true
  parts_led ps ts p t = ap₂ (λ x y. x && y) (named_led ps p) (trees_led ts t)

  head_led : (h : Head) (ps : List (List ℕ × Tree)) (ts : List Tree) → AllByRecursion (λ p. IsLed rows p.1) ps → AllByRecursion (IsLed rows) ts → IsLed rows (body_tree h ps ts)
  head_led (object o) ps ts p t = go (is_listed o.sealed)
    where
      sorted : AllByRecursion (λ p. IsLed rows p.1) (by_keys (zip o.sealed ts))
      sorted = sort_all (λ (x y : List ℕ × Tree). comes_before x.0 y.0) (λ p. IsLed rows p.1) (zip o.sealed ts) (zip_led o.sealed ts t)

      go : (b : Bool) → IsLed rows (if b then mixed o (named_of ps) (named_of (by_keys (zip o.sealed ts))) else body (object o) (named_of ps) (trees ts))
      go true = ap₂ (λ x y. x && y) (named_led ps p) (named_led (by_keys (zip o.sealed ts)) sorted)
      go false = parts_led ps ts p t
  head_led (xml_document x) ps ts p t = parts_led ps ts p t
  head_led (date n) ps ts p t = parts_led ps ts p t
  head_led array ps ts p t = parts_led ps ts p t
  head_led (wrapper c) ps ts p t = parts_led ps ts p t
  head_led (xml x) ps ts p t = parts_led ps ts p t
  head_led (bytes x) ps ts p t = parts_led ps ts p t
  head_led (ints f ns) ps ts p t = parts_led ps ts p t
  head_led (uints f ns) ps ts p t = parts_led ps ts p t
  head_led (doubles f ns) ps ts p t = parts_led ps ts p t
  head_led (values f x) ps ts p t = parts_led ps ts p t
  head_led (dictionary f) ps ts p t = parts_led ps ts p t

  names_led : (f : Value → Tree) (ps : List (List ℕ × Value)) → AllByRecursion (λ p. IsLed rows (f p.1)) ps → AllByRecursion (λ (p : List ℕ × Tree). IsLed rows p.1) (map (λ p. (p.0, f p.1)) ps)
  names_led f [] h = tt
  names_led f (p ∷ ps) h = (h.0, names_led f ps h.1)

  both_led : (f : Value → Tree) (n : Node) → AllByRecursion (λ v. IsLed rows (f v)) (values_met n) → AllByRecursion (λ (p : List ℕ × Tree). IsLed rows p.1) (map (λ p. (p.0, f p.1)) (by_name n.names)) × AllByRecursion (IsLed rows) (map f n.values)
  both_led f n h =
      let s = each_met (λ v. IsLed rows (f v)) (is_array n.head) (by_name n.names) n.values h in
      (names_led f (by_name n.names) (seconds_all (λ v. IsLed rows (f v)) (by_name n.names) s.0), all_map (IsLed rows) f n.values s.1)

  node_led : (f : Value → Tree) (n : Node) → AllByRecursion (λ v. IsLed rows (f v)) (values_met n) → IsLed rows (node_tree f n)
  node_led f n h = let s = both_led f n h in head_led n.head (map (λ p. (p.0, f p.1)) (by_name n.names)) (map f n.values) s.0 s.1

-- Numbers of a list.

pub at_test : (t : List ℕ) (i : ℕ) → some_is (λ j. j == i) t ≡ true → (k : ℕ) × (slice_get t k ≡ Some i)
at_test [] i e = let h : false ≡ true = e in cc
at_test (u ∷ t) i e = go (u == i) refl e (at_test t i)
  where
    go : (b : Bool) → (u == i) ≡ b → (b || some_is (λ j. j == i) t) ≡ true → (some_is (λ j. j == i) t ≡ true → (k : ℕ) × (slice_get t k ≡ Some i)) → (k : ℕ) × (slice_get (u ∷ t) k ≡ Some i)
    go true f e more = (0, ap (λ n. Some n) (equal u i f))
    go false f e more = let o = more e in (suc o.0, o.1)

pub test_at : (t : List ℕ) (k i : ℕ) → slice_get t k ≡ Some i → some_is (λ j. j == i) t ≡ true
test_at [] k i e = absurd (no_entry k i e)
test_at (u ∷ t) zero i e = ap (λ b. b || some_is (λ j. j == i) t) (ap (λ n. n == i) (same_Some u i e)) ∙ ap (λ b. b || some_is (λ j. j == i) t) (same_number i)
test_at (u ∷ t) (suc k) i e = or_right (u == i) (some_is (λ j. j == i) t) (test_at t k i e)

module _ (g : Graph) (w : Way) (s : IsTable g w.order w.table) where
  abbrev rows : Named
  rows = (part_of w g).table

  label_at : (t : List ℕ) (k i : ℕ) → slice_get t k ≡ Some i → has_label (named_of (map (row_tree w g) t)) (label_of w i) ≡ true
  label_at [] k i e = absurd (no_entry k i e)
  label_at (u ∷ t) zero i e =
      ap (λ b. b || has_label (named_of (map (row_tree w g) t)) (label_of w i)) ((bytes_eq-Decides (label_of w i) (label_of w u)).1 (ap (label_of w) (sym (same_Some u i e))))
  label_at (u ∷ t) (suc k) i e = or_right (bytes_eq (label_of w i) (label_of w u)) (has_label (named_of (map (row_tree w g) t)) (label_of w i)) (label_at t k i e)

  row_called : (i : ℕ) → in_table w i ≡ true → IsLed rows (called (label_of w i))
  row_called i e = let o = at_test w.table i e in label_at w.table o.0 i o.1

  pub not_in : (i : ℕ) → in_table w i ≡ false → InTable g w.order i → ⊥
  not_in i e t = let o = s.complete i t in let h : true ≡ false = sym (test_at w.table o.0 i o.1) ∙ e in cc

  abbrev Top : ℕ → Type 0
  Top j = (g.root ≡ node j) ⊎ InTable g w.order j

  top_below : (i j : ℕ) → Top j → Under g w.order 32 j i → InTable g w.order i
  top_below i j (inl r) u = below_root r u
  top_below i j (inr t) u = below t u

  -- where it is met once, it stands so many steps below the root or a node of the table
  abbrev Below : ℕ → ℕ → Type 0
  Below m i = (IsShared g w.order i → ⊥) → (j : ℕ) × Top j × Under g w.order m j i

  parts_called : (n m i : ℕ) → ((k : ℕ) → Below m k → IsLed rows (tree_of w g n (node k))) → ((k : ℕ) → HoldsNode g i k → Below m k) → AllByRecursion (λ v. IsLed rows (tree_of w g n v)) (values_met (node_at g i))
  unfolding tree_of
  parts_called n m i more under = each_from (λ v. IsLed rows (tree_of w g n v)) (values_met (node_at g i)) one
    where
      one : (p : ℕ) (v : Value) → slice_get (values_met (node_at g i)) p ≡ Some v → IsLed rows (tree_of w g n v)
      one p (leaf x) e = refl
      one p (node k) e = more k (under k (p, e))

  under_one : (m i j k : ℕ) → Top j → Under g w.order m j i → HoldsNode g i k → Below (suc m) k
  under_one m i j k t u o once = (j, t, step u o once)

  node_called : (n m i : ℕ) → n + m ≡ 32 → Below m i → IsLed rows (tree_of w g n (node i))
  unfolding tree_of
  node_called zero m i e b = go (in_table w i) refl
    where
      deep : in_table w i ≡ false → InTable g w.order i
      deep f = let o = b (λ x. not_in i f (shared x)) in top_below i o.0 o.1 (subst (λ x. Under g w.order x o.0 i) (omega (arith, e)) o.2)

      go : (t : Bool) → in_table w i ≡ t → IsLed rows (called (label_of w i))
      go true f = row_called i f
      go false f = absurd (not_in i f (deep f))
  node_called (suc n) m i e b = go (in_table w i) refl (λ k. node_called n (suc m) k (omega (arith, e)))
    where
      go : (t : Bool) → in_table w i ≡ t → ((k : ℕ) → Below (suc m) k → IsLed rows (tree_of w g n (node k))) → IsLed rows (if t then called (label_of w i) else node_tree (tree_of w g n) (node_at g i))
      go true f more = row_called i f
      go false f more =
          let o = b (λ x. not_in i f (shared x)) in
          node_led rows (tree_of w g n) (node_at g i) (parts_called n (suc m) i more (λ k h. under_one m i o.0 k o.1 o.2 h))

  -- the parts of the root or of a node of the table
  top_called : (i : ℕ) → Top i → AllByRecursion (λ v. IsLed rows (tree_of w g levels_below v)) (values_met (node_at g i))
  top_called i t = parts_called levels_below 1 i (λ k. node_called levels_below 1 k refl) (λ k o. under_one 0 i i k t (itself i) o)

  value_called : (v : Value) → g.root ≡ v → IsLed rows (tree_of w g levels v)
  unfolding tree_of
  value_called (leaf x) e = refl
  value_called (node i) e = node_called levels 0 i refl (λ once. (i, inl e, itself i))

  rows_led : (t : List ℕ) → AllByRecursion (λ i. InTable g w.order i) t → calls_named rows (named_of (map (row_tree w g) t)) ≡ true
  rows_led [] h = refl
  rows_led (i ∷ t) h = ap₂ (λ x y. x && y) (node_led rows (tree_of w g levels_below) (node_at g i) (top_called i (inr h.0))) (rows_led t h.1)

  table_led : calls_named rows rows ≡ true
  table_led = rows_led w.table (each_from (λ i. InTable g w.order i) w.table (λ k i e. s.sound i k e))

pub link_laws : LinkLaws
link_laws = record {
  values = λ digits bare g w way. ap₂ (λ x y. x && y) (table_led g w way.is_table) (value_called g w way.is_table g.root refl);
  files = λ digits bare g w i way e.
      let parts = both_led (part_of w g).table (tree_of w g levels_below) (node_at g i) (top_called g w way.is_table i (inl e)) in
      ap₂ (λ x y. x && y) (table_led g w way.is_table) (ap₂ (λ x y. x && y) (named_led (part_of w g).table (map (λ p. (p.0, tree_of w g levels_below p.1)) (by_name (node_at g i).names)) parts.0) refl);
}
