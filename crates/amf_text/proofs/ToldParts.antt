-- The canonical JSON of a value means its part: the rows of its table have labels of their own.
use Rattle.std.proofs.Common.{◌≡◌, ℕ, zero, suc, ◌-◌, ◌<◌, ◌≤◌, ◌^◌, Bool, true, false, if◌then◌else◌, List, [], ◌∷◌, ◌++◌, map, length, replicate, slice_get, Some, None, refl, sym, ap, ap₂, ◌∙◌, subst, inl, arith}
use Rattle.std.specs.Prelude.{◌&&◌, ◌||◌, not, decimal, codes, bytes_eq, option_map, option_and_then}
use Rattle.std.specs.List.{AllZip, AllByRecursion, zip}
use Rattle.std.specs.Str.Parse.{digits_value}
use Rattle.std.proofs.lemmas.Fmt.{decimal_is_IsNumeral}
use Rattle.std.proofs.lemmas.Option.{slice_get_within}
use Rattle.std.proofs.lemmas.Slice.Eq.{bytes_eq-Decides}
use Rattle.json.specs.Json.{Json, no_members, member, Members}
use Rattle.amf_graph.specs.Graph.{Head, xml_document, date, array, object, wrapper, xml, bytes, ints, uints, doubles, values, dictionary, Value, Node, Graph, node_at}
use Rattle.amf_graph.specs.Reached.{Reached, IsWhole}
use Rattle.amf_graph.specs.Order.{IsOrder}
use Rattle.amf_graph.specs.ByName.{by_name}
use Rattle.amf_graph.specs.Renumbered.{place_of}
use Rattle.amf_graph.proofs.Alls.{each_from}
use Rattle.amf_graph.proofs.Lists.{no_entry}
use Rattle.amf_graph.proofs.PlaceOf.{place_there, few_distinct}
use Rattle.amf_graph.proofs.Reaching.{order_once, order_reached}
use Rattle.amf_graph.proofs.Walks.{walk_within}
use Rattle.amf_text.specs.Scalars.{read_number, Digits, AreDigits}
use Rattle.amf_text.specs.Told.{Way, stands_in, place_in, longest, padded, label_of, levels, levels_below, told_row, rows_before, table_before, told_root}
use Rattle.amf_text.specs.Documents.{value3, value0}
use Rattle.amf_text.specs.Texts.{IsWay, IsTable, value_json}
use Rattle.amf_text.specs.Meant.{Tree, body, mixed, Named, is_body, if_true, if_last, meant, no_named}
use Rattle.amf_text.specs.Linked.{are_rows, is_table}
use Rattle.amf_text.specs.Accepted.{Taken, take, and_take, take_table, value_part, document_meant, rows_meant}
use Rattle.amf_text.specs.ToldTrees.{trees, named_of, is_listed, by_keys, body_tree, node_tree, tree_of}
use Rattle.amf_text.specs.ValueLaws.{row_tree, part_of, ValueLaws}
use Rattle.amf_text.proofs.Parents.{table_stands}
use Rattle.amf_text.proofs.ToldMembers.{IsNamed, keys_told}
use Rattle.amf_text.proofs.ToldNodes.{told_meant, node_told_at}

-- Labels.

pad_value : (k : ℕ) (ds : List ℕ) → digits_value 10 (replicate k 0x30 ++ ds) ≡ digits_value 10 ds
pad_value zero ds = refl
pad_value (suc k) ds = pad_value k ds

label_value : (width n : ℕ) → n < 2 ^ 64 → digits_value 10 (padded width (decimal n)) ≡ n
label_value width n h = pad_value (width - length (decimal n)) (decimal n) ∙ (decimal_is_IsNumeral n h).1

module _ (g : Graph) (w : Way) (few : length g.nodes < 2 ^ 64) (a : IsOrder g w.order) (s : IsTable g w.order w.table) where
  -- the place of a node of the table
  placed : (k i : ℕ) → slice_get w.table k ≡ Some i → (p : ℕ) × (slice_get w.order p ≡ Some i) × (place_of w.order i ≡ p) × (p < 2 ^ 64)
  placed k i e =
      let o = table_stands g w.order a (s.sound i k e) in
      let short : length w.order ≤ length g.nodes = few_distinct (length g.nodes) w.order (each_from (λ n. n < length g.nodes) w.order (walk_within a (λ j n f. absurd (no_entry j n f)))) (order_once g w.order a) in
      let within : o.0 < length w.order = slice_get_within w.order o.0 i o.1 in
      (o.0, o.1, place_there w.order o.0 i (order_once g w.order a) o.1, omega (arith, short, within, few))

  pub labels_differ : (j k b c : ℕ) → j < k → slice_get w.table j ≡ Some b → slice_get w.table k ≡ Some c → label_of w b ≡ label_of w c → ⊥
  labels_differ j k b c l e f same =
      let p = placed j b e in
      let q = placed k c f in
      let less : p.0 < q.0 = s.in_order j k p.0 q.0 b c l e f p.1 q.1 in
      let one : digits_value 10 (label_of w b) ≡ p.0 = ap (λ n. digits_value 10 (padded (longest (map (place_in w) w.table)) (decimal n))) p.2 ∙ label_value (longest (map (place_in w) w.table)) p.0 p.3 in
      let two : digits_value 10 (label_of w c) ≡ q.0 = ap (λ n. digits_value 10 (padded (longest (map (place_in w) w.table)) (decimal n))) q.2 ∙ label_value (longest (map (place_in w) w.table)) q.0 q.3 in
      let equal : p.0 ≡ q.0 = sym one ∙ ap (digits_value 10) same ∙ two in
      omega (arith, less, equal)

pub not_same : (x y : List ℕ) → (x ≡ y → ⊥) → bytes_eq x y ≡ false
not_same x y n = go (bytes_eq x y) refl
  where
    go : (b : Bool) → bytes_eq x y ≡ b → bytes_eq x y ≡ false
    go false e = e
    go true e = absurd (n ((bytes_eq-Decides x y).0 e))

-- the labels of nodes that come later are other ones
abbrev Apart : (ℕ → List ℕ) → List ℕ → Type 0
Apart f t = (j k b c : ℕ) → j < k → slice_get t j ≡ Some b → slice_get t k ≡ Some c → f b ≡ f c → ⊥

module _ (f : ℕ → List ℕ) (r : ℕ → Tree) (is : (i : ℕ) → is_body (r i) ≡ true) where
  abbrev Unseen : List (List ℕ) → List ℕ → Type 0
  Unseen seen t = AllByRecursion (λ i. stands_in seen (f i) ≡ false) t

  one_more : (seen : List (List ℕ)) (i : ℕ) (t : List ℕ) → Unseen seen t → ((k c : ℕ) → slice_get t k ≡ Some c → f i ≡ f c → ⊥) → Unseen (f i ∷ seen) t
  one_more seen i [] h n = tt
  one_more seen i (c ∷ t) h n =
      (ap₂ (λ x y. x || y) (not_same (f c) (f i) (λ e. n 0 c refl (sym e))) h.0, one_more seen i t h.1 (λ k. n (suc k)))

  rows_are : (seen : List (List ℕ)) (t : List ℕ) → Unseen seen t → Apart f t → are_rows seen (named_of (map (λ i. (f i, r i)) t)) ≡ true
  rows_are seen [] h n = refl
  rows_are seen (i ∷ t) h n =
      ap₂ (λ x y. x && (not y && are_rows (f i ∷ seen) (named_of (map (λ i. (f i, r i)) t)))) (is i) h.0
      ∙ rows_are (f i ∷ seen) t (one_more seen i t h.1 (λ k c e. n 0 (suc k) i c (omega arith) refl e)) (λ j k b c l e. n (suc j) (suc k) b c (omega (arith, l)) e)

none_seen : (f : ℕ → List ℕ) (t : List ℕ) → AllByRecursion (λ i. stands_in [] (f i) ≡ false) t
none_seen f [] = tt
none_seen f (i ∷ t) = (refl, none_seen f t)

-- a node is told as one
listed_is : (b : Bool) (x y : Tree) → is_body x ≡ true → is_body y ≡ true → is_body (if b then x else y) ≡ true
listed_is true x y e f = e
listed_is false x y e f = f

head_is_body : (h : Head) (ps : List (List ℕ × Tree)) (ts : List Tree) → is_body (body_tree h ps ts) ≡ true
head_is_body (object t) ps ts = listed_is (is_listed t.sealed) (mixed t (named_of ps) (named_of (by_keys (zip t.sealed ts)))) (body (object t) (named_of ps) (trees ts)) refl refl
head_is_body (xml_document x) ps ts = refl
head_is_body (date p) ps ts = refl
head_is_body array ps ts = refl
head_is_body (wrapper c) ps ts = refl
head_is_body (xml x) ps ts = refl
head_is_body (bytes x) ps ts = refl
head_is_body (ints f ns) ps ts = refl
head_is_body (uints f ns) ps ts = refl
head_is_body (doubles f ns) ps ts = refl
head_is_body (values f x) ps ts = refl
head_is_body (dictionary f) ps ts = refl

pub tree_is_body : (tr : Value → Tree) (n : Node) → is_body (node_tree tr n) ≡ true
tree_is_body tr n = head_is_body n.head (map (λ p. (p.0, tr p.1)) (by_name n.names)) (map tr n.values)

module _ (digits : Digits) (bare : Bool) (g : Graph) (w : Way) (d : AreDigits digits) (whole : IsWhole g) (few : length g.nodes < 2 ^ 64) (way : IsWay digits bare g w) where
  own : AreDigits w.digits
  own = subst AreDigits (sym way.same_digits) d

  row_named : (t : List ℕ) → AllByRecursion (λ i. Reached g i) t → AllZip IsNamed (map (told_row w g) t) (map (row_tree w g) t)
  row_named [] h = tt
  row_named (i ∷ t) h = ((refl, node_told_at w g levels_below i own whole h.0), row_named t h.1)

  in_table_reached : AllByRecursion (λ i. Reached g i) w.table
  in_table_reached = each_from (λ i. Reached g i) w.table (λ k i e. let o = table_stands g w.order way.is_order (way.is_table.sound i k e) in (order_reached g w.order way.is_order i).1 o)

  table_is : is_table (named_of (map (row_tree w g) w.table)) ≡ true
  table_is = rows_are (label_of w) (λ i. node_tree (tree_of w g levels_below) (node_at g i)) (λ i. tree_is_body (tree_of w g levels_below) (node_at g i)) [] w.table (none_seen (label_of w) w.table)
      (labels_differ g w few way.is_order way.is_table)

  table_taken : (t : List ℕ) → AllZip IsNamed (map (told_row w g) t) (map (row_tree w g) t) → is_table (named_of (map (row_tree w g) t)) ≡ true → (k : List ℕ) → bytes_eq k (codes "nodes") ≡ false → (j : Json) (ms : Members)
      → take_table read_number (rows_before (map (told_row w g) t) (member k j ms)) ≡ Some (named_of (map (row_tree w g) t), member k j ms)
  table_taken [] z i k other j ms = ap (λ b. if b then option_map (λ rows. (rows, ms)) (rows_meant read_number j) else Some (no_named, member k j ms)) other
  table_taken (n ∷ t) z i k other j ms =
      ap (λ o. option_map (λ rows. (rows, member k j ms)) (option_and_then (if_true is_table) o)) (keys_told (map (told_row w g) (n ∷ t)) (map (row_tree w g) (n ∷ t)) z)
      ∙ ap (λ b. option_map (λ rows. (rows, member k j ms)) (if b then Some (named_of (map (row_tree w g) (n ∷ t))) else None)) i

  -- the table, before a member of another name
  pub table_meant : (k : List ℕ) → bytes_eq k (codes "nodes") ≡ false → (j : Json) (ms : Members) → take_table read_number (table_before w g (member k j ms)) ≡ Some (named_of (map (row_tree w g) w.table), member k j ms)
  table_meant = table_taken w.table (row_named w.table in_table_reached) table_is

  pub root_meant : meant read_number (told_root w g) ≡ Some (tree_of w g levels g.root)
  root_meant = told_meant w g levels g.root own whole (inl refl)

  part_meant : value_part read_number (table_before w g (member (codes "root") (told_root w g) no_members)) ≡ Some (part_of w g)
  part_meant =
      ap (λ (o : Taken Named). and_take (and_take o (λ t rest. option_map (λ (p : Tree × Members). (record { table = t; root = p.0 }, p.1)) (take (codes "root") (meant read_number) rest))) (λ part more. if_last more (Some part)))
      (table_meant (codes "root") refl (told_root w g) no_members)
      ∙ ap (λ o. and_take (option_map (λ (p : Tree × Members). (record { table = named_of (map (row_tree w g) w.table); root = p.0 }, p.1)) (option_map (λ x. (x, no_members)) o)) (λ part more. if_last more (Some part))) root_meant

  pub amf3_meant : document_meant read_number (value_json (codes "amf3") w g) ≡ Some (value3 (part_of w g))
  amf3_meant = ap (option_map value3) part_meant

  pub amf0_meant : document_meant read_number (value_json (codes "amf0") w g) ≡ Some (value0 (part_of w g))
  amf0_meant = ap (option_map value0) part_meant

pub value_laws : ValueLaws
value_laws = record { amf3 = amf3_meant; amf0 = amf0_meant }
