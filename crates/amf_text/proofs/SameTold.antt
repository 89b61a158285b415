-- Two graphs that match along their orders are told alike: the same labels, leaves and nodes.
use Rattle.std.proofs.Common.{◌≡◌, ℕ, zero, suc, Bool, if◌then◌else◌, ◌||◌, List, [], ◌∷◌, map, Some, refl, sym, ap, ap₂, ◌∙◌, inl, inr, arith}
use Rattle.std.specs.Prelude.{◌==◌, decimal, codes}
use Rattle.std.specs.List.{AllZip}
use Rattle.std.proofs.lemmas.Bool.{cases_eq}
use Rattle.json.specs.Json.{Json, Members}
use Rattle.amf_graph.specs.Graph.{Leaf, undefined, null, boolean, integer, double, text, Value, leaf, node, Node, Graph, node_at}
use Rattle.amf_graph.specs.ByName.{by_name}
use Rattle.amf_graph.specs.Isomorphic.{ValuesMatch, PairsMatch, NodesMatch}
use Rattle.amf_graph.specs.Order.{IsOrder}
use Rattle.amf_graph.proofs.Places.{SamePlace, PlacesMatch}
use Rattle.amf_graph.proofs.PlaceOf.{place_there}
use Rattle.amf_graph.proofs.Reaching.{order_once}
use Rattle.amf_text.specs.Scalars.{Digits, told_double, word, alone}
use Rattle.amf_text.specs.Told.{Way, told_leaf, told_names, told_body, told_members, told_node, some_is, place_in, longest, padded, label_of, called, in_table, told, levels, levels_below, told_row, rows_before, table_before, told_root, told_pairs}
use Rattle.amf_text.proofs.SameTable.{one_place, across}

chosen : {X : Type 0} (s t : Bool) (a b c d : X) → s ≡ t → a ≡ b → c ≡ d → (if s then a else c) ≡ (if t then b else d)
chosen s t a b c d p q r = cc

leaf_told : (w v : Way) → w.digits ≡ v.digits → w.bare ≡ v.bare → (x : Leaf) → told_leaf w x ≡ told_leaf v x
leaf_told w v d b undefined = refl
leaf_told w v d b null = refl
leaf_told w v d b (boolean f) = refl
leaf_told w v d b (integer n) = refl
leaf_told w v d b (double p) = ap₂ (λ (e : Digits) (f : Bool). told_double e f p) d b
leaf_told w v d b (text x) = refl

module _ (g h : Graph) (w v : Way) (a : IsOrder g w.order) (b : IsOrder h v.order) (m : PlacesMatch g h w.order v.order)
    (tables : AllZip (SamePlace w.order v.order) w.table v.table) (digits : w.digits ≡ v.digits) (bare : w.bare ≡ v.bare) where
  -- labels

  place_told : (i j : ℕ) → SamePlace w.order v.order i j → place_in w i ≡ place_in v j
  place_told i j p = ap decimal (place_there w.order p.0 i (order_once g w.order a) p.1 ∙ sym (place_there v.order p.0 j (order_once h v.order b) p.2))

  places_told : (t u : List ℕ) → AllZip (SamePlace w.order v.order) t u → map (place_in w) t ≡ map (place_in v) u
  places_told [] [] z = refl
  places_told [] (j ∷ u) z = elim z [ ]
  places_told (i ∷ t) [] z = elim z [ ]
  places_told (i ∷ t) (j ∷ u) z = ap₂ (λ x y. x ∷ y) (place_told i j z.0) (places_told t u z.1)

  label_told : (i j : ℕ) → SamePlace w.order v.order i j → label_of w i ≡ label_of v j
  label_told i j p = ap₂ padded (ap longest (places_told w.table v.table tables)) (place_told i j p)

  called_told : (i j : ℕ) → SamePlace w.order v.order i j → called w i ≡ called v j
  called_told i j p = ap (λ x. alone (codes "$node") (word x)) (label_told i j p)

  -- the table has the same

  same_test : (x y i j : ℕ) → SamePlace w.order v.order x y → SamePlace w.order v.order i j → (x == i) ≡ (y == j)
  same_test x y i j p q =
      elim (cases_eq x i) [
        | inl e ↦
            let f : y ≡ j = one_place w.order v.order (order_once g w.order a) x y j p (q.0, q.1 ∙ ap (λ n. Some n) (sym e), q.2) in
            grind (arith, e, f)
        | inr n ↦
            let f : y ≡ j → ⊥ = λ e. n (one_place v.order w.order (order_once h v.order b) y x i (across w.order v.order x y p) (q.0, q.2 ∙ ap (λ k. Some k) (sym e), q.1)) in
            grind (arith, n, f)
      ]

  some_told : (t u : List ℕ) → AllZip (SamePlace w.order v.order) t u → (i j : ℕ) → SamePlace w.order v.order i j → some_is (λ k. k == i) t ≡ some_is (λ k. k == j) u
  some_told [] [] z i j p = refl
  some_told [] (y ∷ u) z i j p = elim z [ ]
  some_told (x ∷ t) [] z i j p = elim z [ ]
  some_told (x ∷ t) (y ∷ u) z i j p = ap₂ (λ s r. s || r) (same_test x y i j z.0 p) (some_told t u z.1 i j p)

  -- nodes and values

  module _ (tell other : Value → Json) (same : (x y : Value) → ValuesMatch (SamePlace w.order v.order) x y → tell x ≡ other y) where
    names_told : (ps qs : List (List ℕ × Value)) → AllZip (PairsMatch (SamePlace w.order v.order)) ps qs → told_names tell ps ≡ told_names other qs
    names_told [] [] z = refl
    names_told [] (q ∷ qs) z = elim z [ ]
    names_told (p ∷ ps) [] z = elim z [ ]
    names_told (p ∷ ps) (q ∷ qs) z = ap₂ (λ x y. x ∷ y) (ap₂ (λ (x : List ℕ) (y : Json). (x, y)) z.0.0 (same p.1 q.1 z.0.1)) (names_told ps qs z.1)

    values_told : (vs ws : List Value) → AllZip (ValuesMatch (SamePlace w.order v.order)) vs ws → map tell vs ≡ map other ws
    values_told [] [] z = refl
    values_told [] (y ∷ ws) z = elim z [ ]
    values_told (x ∷ vs) [] z = elim z [ ]
    values_told (x ∷ vs) (y ∷ ws) z = ap₂ (λ s r. s ∷ r) (same x y z.0) (values_told vs ws z.1)

    node_told : (n k : Node) → NodesMatch (SamePlace w.order v.order) n k → told_node w tell n ≡ told_node v other k
    node_told n k z =
        let names = names_told (by_name n.names) (by_name k.names) z.names in
        let values = values_told n.values k.values z.values in
        ap₂ (λ (d : Digits) x. told_body d x (told_names tell (by_name n.names)) (map tell n.values)) digits z.head
        ∙ ap₂ (λ x y. told_body v.digits k.head x y) names values

  pub value_told : (n : ℕ) (x y : Value) → ValuesMatch (SamePlace w.order v.order) x y → told w g n x ≡ told v h n y
  unfolding told
  value_told n (leaf x) (leaf y) z = leaf_told w v digits bare x ∙ ap (told_leaf v) z
  value_told n (leaf x) (node j) z = elim z [ ]
  value_told n (node i) (leaf y) z = elim z [ ]
  value_told zero (node i) (node j) z = called_told i j z
  value_told (suc n) (node i) (node j) z =
      chosen (in_table w i) (in_table v j) (called w i) (called v j) (told_node w (told w g n) (node_at g i)) (told_node v (told v h n) (node_at h j))
      (some_told w.table v.table tables i j z) (called_told i j z) (node_told (told w g n) (told v h n) (value_told n) (node_at g i) (node_at h j) (m.nodes z.0 i j z.1 z.2))

  row_told : (i j : ℕ) → SamePlace w.order v.order i j → told_row w g i ≡ told_row v h j
  row_told i j z =
      ap₂ (λ (x : List ℕ) (y : Json). (x, y)) (label_told i j z)
      (node_told (told w g levels_below) (told v h levels_below) (value_told levels_below) (node_at g i) (node_at h j) (m.nodes z.0 i j z.1 z.2))

  rows_told : (t u : List ℕ) → AllZip (SamePlace w.order v.order) t u → map (told_row w g) t ≡ map (told_row v h) u
  rows_told [] [] z = refl
  rows_told [] (j ∷ u) z = elim z [ ]
  rows_told (i ∷ t) [] z = elim z [ ]
  rows_told (i ∷ t) (j ∷ u) z = ap₂ (λ x y. x ∷ y) (row_told i j z.0) (rows_told t u z.1)

  pub table_told : (ms ns : Members) → ms ≡ ns → table_before w g ms ≡ table_before v h ns
  table_told ms ns e = ap₂ rows_before (rows_told w.table v.table tables) e

  pub root_told : told_root w g ≡ told_root v h
  root_told = value_told levels g.root h.root m.root

  pub pairs_told : (i j : ℕ) → SamePlace w.order v.order i j → told_pairs w g (node_at g i) ≡ told_pairs v h (node_at h j)
  pairs_told i j z =
      let n = m.nodes z.0 i j z.1 z.2 in
      ap told_members (names_told (told w g levels_below) (told v h levels_below) (value_told levels_below) (by_name (node_at g i).names) (by_name (node_at h j).names) n.names)
