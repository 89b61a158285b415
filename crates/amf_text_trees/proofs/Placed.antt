-- The graph of trees that have the parts of their kinds: its nodes have them too, and name nodes that are there.
use Rattle.std.proofs.Common.{◌≡◌, ℕ, suc, ◌+◌, ◌<◌, ◌≤◌, Bool, true, false, if◌then◌else◌, List, [], ◌∷◌, ◌++◌, length, refl, sym, ap, ◌∙◌, subst, arith}
use Rattle.std.specs.Prelude.{◌&&◌, ◌||◌, not, bytes_eq}
use Rattle.std.specs.List.{AllByRecursion}
use Rattle.std.proofs.lemmas.Bool.{and_parts}
use Rattle.std.proofs.lemmas.List.{length-map}
use Rattle.amf_graph.specs.Graph as graph
use Rattle.amf_graph.specs.Graph.{Head, Value, Node, Graph, AreMembers}
use Rattle.amf_graph.specs.Order.{is_array}
use Rattle.amf_text.specs.Told.{stands_in}
use Rattle.amf_text.specs.Meant.{Tree, said, called, body, mixed, Trees, no_trees, tree, Named, no_named, named, is_body}
use Rattle.amf_text.specs.Linked.{size, size_trees, size_named, Numbers, number_of, value_from, values_from, names_from, value_of, sealed_in, nodes_from, trees_nodes, named_nodes, labels_from, graph_of, has_label, are_rows, is_table, calls, calls_trees, calls_named, are_linked}
use Rattle.amf_text.specs.Accepted.{Part}
use Rattle.amf_text_trees.specs.Sheets.{no_sheet, after, after_named}
use Rattle.amf_text_trees.specs.Pages.{node_of}
use Rattle.amf_text_trees.specs.Fits.{IsIn, HasParts, NodeFits, GraphFits}
use Rattle.amf_text_trees.proofs.Numbered.{count_after, count_named, nodes_after, nodes_named}
use Rattle.amf_text_trees.proofs.Shapes.{how_many, NoneUnless, AreParts, TreeFits, TreesFit, NamedFit}

all_both : {X : Type 0} (P : X → Type 0) (xs ys : List X) → AllByRecursion P xs → AllByRecursion P ys → AllByRecursion P (xs ++ ys)
all_both P [] ys a b = b
all_both P (x ∷ xs) ys a b = (a.0, all_both P xs ys a.1 b)

-- Parts.

module _ (labels : Numbers) where
  many_are : (ts : Trees) (n : ℕ) → length (values_from labels n ts) ≡ how_many ts
  many_are no_trees n = refl
  many_are (tree t ts) n = ap suc (many_are ts (n + size t))

  no_names : (ns : Named) (n : ℕ) → ns ≡ no_named → names_from labels n ns ≡ []
  no_names ns n e = ap (names_from labels n) e

  no_values : (ts : Trees) (n : ℕ) → ts ≡ no_trees → values_from labels n ts ≡ []
  no_values ts n e = ap (values_from labels n) e

  members_are : (d : Bool) (ns : Named) (n : ℕ) → NoneUnless d ns → AreMembers d (names_from labels n ns)
  members_are true ns n f = tt
  members_are false ns n f = no_names ns n f

  parts_are : (h : Head) (ns : Named) (vs : Trees) (m k : ℕ) → AreParts h ns vs → HasParts h (names_from labels m ns) (values_from labels k vs)
  parts_are graph.array ns vs m k p = tt
  parts_are (graph.object t) ns vs m k p = (many_are vs k ∙ p.0, members_are t.dynamic ns m p.1)
  parts_are (graph.wrapper c) ns vs m k p = (no_names ns m p.0, many_are vs k ∙ p.1)
  parts_are (graph.values f x) ns vs m k p = no_names ns m p
  parts_are (graph.dictionary f) ns vs m k p = (no_names ns m p.0, p.1, many_are vs k ∙ p.2)
  parts_are (graph.xml_document x) ns vs m k p = (no_names ns m p.0, no_values vs k p.1)
  parts_are (graph.date x) ns vs m k p = (no_names ns m p.0, no_values vs k p.1)
  parts_are (graph.xml x) ns vs m k p = (no_names ns m p.0, no_values vs k p.1)
  parts_are (graph.bytes x) ns vs m k p = (no_names ns m p.0, no_values vs k p.1)
  parts_are (graph.ints f xs) ns vs m k p = (no_names ns m p.0, no_values vs k p.1)
  parts_are (graph.uints f xs) ns vs m k p = (no_names ns m p.0, no_values vs k p.1)
  parts_are (graph.doubles f xs) ns vs m k p = (no_names ns m p.0, no_values vs k p.1)

  -- so many nodes, of which each label that is called is one
  module _ (table : Named) (total : ℕ) (known : (x : List ℕ) → has_label table x ≡ true → number_of x labels < total) where
    value_in : (t : Tree) (n : ℕ) → calls table t ≡ true → n + size t ≤ total → IsIn total (value_from labels n t)
    value_in (said x) n c l = tt
    value_in (called x) n c l = known x c
    value_in (body h ns vs) n c l = omega (arith, l)
    value_in (mixed t ns ss) n c l = omega (arith, l)

    values_in : (ts : Trees) (n : ℕ) → calls_trees table ts ≡ true → n + size_trees ts ≤ total → AllByRecursion (IsIn total) (values_from labels n ts)
    values_in no_trees n c l = tt
    values_in (tree t ts) n c l =
        let p = and_parts (calls table t) (calls_trees table ts) c in
        (value_in t n p.0 (omega (arith, l)), values_in ts (n + size t) p.1 (omega (arith, l)))

    names_in : (ts : Named) (n : ℕ) → calls_named table ts ≡ true → n + size_named ts ≤ total → AllByRecursion (λ p. IsIn total p.1) (names_from labels n ts)
    names_in no_named n c l = tt
    names_in (named x t ts) n c l =
        let p = and_parts (calls table t) (calls_named table ts) c in
        (value_in t n p.0 (omega (arith, l)), names_in ts (n + size t) p.1 (omega (arith, l)))

    among_in : (x : List ℕ) (ps : List (List ℕ × Value)) → AllByRecursion (λ p. IsIn total p.1) ps → IsIn total (value_of x ps)
    among_in x [] a = tt
    among_in x (p ∷ ps) a = go (bytes_eq x p.0) a.0 (among_in x ps a.1)
      where
        go : (b : Bool) → IsIn total p.1 → IsIn total (value_of x ps) → IsIn total (if b then p.1 else value_of x ps)
        go true i j = i
        go false i j = j

    sealed_are_in : (names : List (List ℕ)) (ps : List (List ℕ × Value)) → AllByRecursion (λ p. IsIn total p.1) ps → AllByRecursion (IsIn total) (sealed_in names ps)
    sealed_are_in [] ps a = tt
    sealed_are_in (x ∷ names) ps a = (among_in x ps a, sealed_are_in names ps a)

    -- a node and what stands in it, an array's items before its names
    body_fits : (b : Bool) (h : Head) (ns : Named) (vs : Trees) (n : ℕ) → AreParts h ns vs → (calls_named table ns && calls_trees table vs) ≡ true → n + suc (size_trees vs + size_named ns) ≤ total
        → ((m : ℕ) → calls_named table ns ≡ true → m + size_named ns ≤ total → AllByRecursion (NodeFits total) (named_nodes labels m ns))
        → ((m : ℕ) → calls_trees table vs ≡ true → m + size_trees vs ≤ total → AllByRecursion (NodeFits total) (trees_nodes labels m vs))
        → NodeFits total (record { head = h; names = names_from labels (if b then suc n + size_trees vs else suc n) ns; values = values_from labels (if b then suc n else suc n + size_named ns) vs })
        × AllByRecursion (NodeFits total) (if b then trees_nodes labels (if b then suc n else suc n + size_named ns) vs ++ named_nodes labels (if b then suc n + size_trees vs else suc n) ns
        else named_nodes labels (if b then suc n + size_trees vs else suc n) ns ++ trees_nodes labels (if b then suc n else suc n + size_named ns) vs)
    body_fits true h ns vs n p c l of_named of_trees =
        let q = and_parts (calls_named table ns) (calls_trees table vs) c in
        let i : suc n + size_trees vs ≤ total = omega (arith, l) in
        let j : suc n + size_trees vs + size_named ns ≤ total = omega (arith, l) in (
          record { parts = parts_are h ns vs (suc n + size_trees vs) (suc n) p; names = names_in ns (suc n + size_trees vs) q.0 j; values = values_in vs (suc n) q.1 i },
          all_both (NodeFits total) (trees_nodes labels (suc n) vs) (named_nodes labels (suc n + size_trees vs) ns) (of_trees (suc n) q.1 i) (of_named (suc n + size_trees vs) q.0 j),
        )
    body_fits false h ns vs n p c l of_named of_trees =
        let q = and_parts (calls_named table ns) (calls_trees table vs) c in
        let i : suc n + size_named ns ≤ total = omega (arith, l) in
        let j : suc n + size_named ns + size_trees vs ≤ total = omega (arith, l) in (
          record { parts = parts_are h ns vs (suc n) (suc n + size_named ns) p; names = names_in ns (suc n) q.0 i; values = values_in vs (suc n + size_named ns) q.1 j },
          all_both (NodeFits total) (named_nodes labels (suc n) ns) (trees_nodes labels (suc n + size_named ns) vs) (of_named (suc n) q.0 i) (of_trees (suc n + size_named ns) q.1 j),
        )

    mutual
      nodes_fit : (t : Tree) (n : ℕ) → TreeFits t → calls table t ≡ true → n + size t ≤ total → AllByRecursion (NodeFits total) (nodes_from labels n t)
      nodes_fit (said x) n f c l = tt
      nodes_fit (called x) n f c l = tt
      nodes_fit (body h ns vs) n f c l =
          body_fits (is_array h) h ns vs n f.0 c l (λ m d k. named_fit ns m f.1 d k) (λ m d k. trees_fit vs m f.2 d k)
      nodes_fit (mixed t ns ss) n f c l =
          let q = and_parts (calls_named table ns) (calls_named table ss) c in
          let i : suc n + size_named ns ≤ total = omega (arith, l) in
          let j : suc n + size_named ns + size_named ss ≤ total = omega (arith, l) in
          let ps = names_from labels (suc n + size_named ns) ss in (
            record {
              parts = (length-map t.sealed (λ x. value_of x ps), members_are t.dynamic ns (suc n) f.0);
              names = names_in ns (suc n) q.0 i;
              values = sealed_are_in t.sealed ps (names_in ss (suc n + size_named ns) q.1 j);
            },
            all_both (NodeFits total) (named_nodes labels (suc n) ns) (named_nodes labels (suc n + size_named ns) ss) (named_fit ns (suc n) f.1 q.0 i) (named_fit ss (suc n + size_named ns) f.2 q.1 j),
          )

      trees_fit : (ts : Trees) (n : ℕ) → TreesFit ts → calls_trees table ts ≡ true → n + size_trees ts ≤ total → AllByRecursion (NodeFits total) (trees_nodes labels n ts)
      trees_fit no_trees n f c l = tt
      trees_fit (tree t ts) n f c l =
          let q = and_parts (calls table t) (calls_trees table ts) c in
          all_both (NodeFits total) (nodes_from labels n t) (trees_nodes labels (n + size t) ts) (nodes_fit t n f.0 q.0 (omega (arith, l))) (trees_fit ts (n + size t) f.1 q.1 (omega (arith, l)))

      named_fit : (ts : Named) (n : ℕ) → NamedFit ts → calls_named table ts ≡ true → n + size_named ts ≤ total → AllByRecursion (NodeFits total) (named_nodes labels n ts)
      named_fit no_named n f c l = tt
      named_fit (named x t ts) n f c l =
          let q = and_parts (calls table t) (calls_named table ts) c in
          all_both (NodeFits total) (nodes_from labels n t) (named_nodes labels (n + size t) ts) (nodes_fit t n f.0 q.0 (omega (arith, l))) (named_fit ts (n + size t) f.1 q.1 (omega (arith, l)))

-- A label is the number of its row's node.

body_size : (t : Tree) → is_body t ≡ true → 0 < size t
body_size (said x) e = let f : false ≡ true = e in cc
body_size (called x) e = let f : false ≡ true = e in cc
body_size (body h ns vs) e = omega arith
body_size (mixed t ns ss) e = omega arith

label_below : (ts : Named) (seen : List (List ℕ)) (n : ℕ) (x : List ℕ) → are_rows seen ts ≡ true → has_label ts x ≡ true → number_of x (labels_from n ts) < n + size_named ts
label_below no_named seen n x r h = let f : false ≡ true = h in cc
label_below (named y t ts) seen n x r h =
    let a = and_parts (is_body t) (not (stands_in seen y) && are_rows (y ∷ seen) ts) r in
    let b = and_parts (not (stands_in seen y)) (are_rows (y ∷ seen) ts) a.1 in
    go (bytes_eq x y) (body_size t a.0) (λ e. label_below ts (y ∷ seen) (n + size t) x b.1 e) h
  where
    go : (b : Bool) → 0 < size t → (has_label ts x ≡ true → number_of x (labels_from (n + size t) ts) < n + size t + size_named ts)
        → (b || has_label ts x) ≡ true → (if b then n else number_of x (labels_from (n + size t) ts)) < n + (size t + size_named ts)
    go true s more e = omega (arith, s)
    go false s more e = let m = more e in omega (arith, m)

-- Parts.

pub record PartFits (p : Part) : Type 0 where
  pub rows : is_table p.table ≡ true
  pub table : NamedFit p.table
  pub root : TreeFits p.root

node_count : (p : Part) → length (graph_of p.table p.root).nodes ≡ size_named p.table + size p.root
node_count p =
    let labels = labels_from 0 p.table in
    let q = after_named no_sheet p.table in
    let c = count_named p.table no_sheet in
    let n : length q.nodes ≡ size_named p.table = omega (arith, c) in
    let all = nodes_after labels p.root q (size_named p.table) n ∙ ap (λ l. l ++ nodes_from labels (size_named p.table) p.root) (nodes_named labels p.table no_sheet 0 refl) in
    ap length (sym all) ∙ length-map (after q p.root).nodes (node_of labels) ∙ count_after p.root q ∙ ap (λ m. m + size p.root) n

pub graph_fits : (p : Part) → PartFits p → are_linked p.table p.root ≡ true → GraphFits (graph_of p.table p.root)
graph_fits p f c =
    let labels = labels_from 0 p.table in
    let total = size_named p.table + size p.root in
    let q = and_parts (calls_named p.table p.table) (calls p.table p.root) c in
    let known = λ (x : List ℕ) (h : has_label p.table x ≡ true). below x (label_below p.table [] 0 x f.rows h) in
    let nodes = all_both (NodeFits total) (named_nodes labels 0 p.table) (nodes_from labels (size_named p.table) p.root)
    (named_fit labels p.table total known p.table 0 f.table q.0 (omega arith)) (nodes_fit labels p.table total known p.root (size_named p.table) f.root q.1 (omega arith)) in
    record {
      nodes = subst (λ n. AllByRecursion (NodeFits n) (graph_of p.table p.root).nodes) (sym (node_count p)) nodes;
      root = subst (λ n. IsIn n (graph_of p.table p.root).root) (sym (node_count p)) (value_in labels p.table total known p.root (size_named p.table) q.1 (omega arith));
    }
  where
    below : (x : List ℕ) → number_of x (labels_from 0 p.table) < 0 + size_named p.table → number_of x (labels_from 0 p.table) < size_named p.table + size p.root
    below x l = omega (arith, l)
