-- The nodes on a sheet are those of the trees, in their order, and so are its labels.
use Rattle.std.proofs.Common.{◌≡◌, ℕ, suc, ◌+◌, Bool, true, false, if◌then◌else◌, List, [], ◌∷◌, ◌++◌, map, refl, sym, ap, ap₂, ◌∙◌, append_assoc, append-nil, arith}
use Rattle.std.specs.Prelude.{set, bytes_eq}
use Rattle.std.proofs.lemmas.List.{map-append, map-set, length-set, length-map, set_at, length-append}
use Rattle.amf_graph.specs.Graph as graph
use Rattle.amf_graph.specs.Graph.{Head, Node, Traits}
use Rattle.amf_graph.specs.Order.{is_array}
use Rattle.amf_text.specs.Meant.{Tree, said, called, body, mixed, Trees, no_trees, tree, Named, no_named, named}
use Rattle.amf_text.specs.Linked.{size, size_trees, size_named, Numbers, value_from, values_from, names_from, value_of, sealed_in, nodes_from, trees_nodes, named_nodes}
use Rattle.amf_text_trees.specs.Sheets.{Entry, Pairs, Kept, no_kept, Sheet, count, begin, store, entry_among, entries_by, entry_of, after, after_trees, after_named, entries_in, pairs_in}
use Rattle.amf_text_trees.specs.Frames.{kept}
use Rattle.amf_text_trees.specs.Pages.{value_at, name_at, node_of}

-- How many nodes there are.

begun_count : (s : Sheet) → count (begin s) ≡ suc (count s)
begun_count s = let h = length-append s.nodes (no_kept ∷ []) in omega (arith, h)

stored_count : (n : ℕ) (k : Kept) (s : Sheet) → count (store n k s) ≡ count s
stored_count n k s = length-set s.nodes n k

body_count : (b : Bool) (j k : Kept) (n : ℕ) (s x y : Sheet) (a c : ℕ) → count x ≡ suc (count s) + (a + c) → count y ≡ suc (count s) + (c + a) → count (if b then store n j x else store n k y) ≡ count s + suc (a + c)
body_count true j k n s x y a c h i = let l = stored_count n j x in omega (arith, h, l)
body_count false j k n s x y a c h i = let l = stored_count n k y in omega (arith, i, l)

mutual
  pub count_after : (t : Tree) (s : Sheet) → count (after s t) ≡ count s + size t
  count_after (said x) s = omega arith
  count_after (called x) s = omega arith
  count_after (body h ns vs) s =
      let b = begin s in
      let z = begun_count s in
      let p = count_trees vs b in
      let q = count_named ns (after_trees b vs) in
      let u = count_named ns b in
      let v = count_trees vs (after_named b ns) in
      body_count (is_array h) (kept h (pairs_in (after_trees b vs) ns) (entries_in b vs)) (kept h (pairs_in b ns) (entries_in (after_named b ns) vs)) (count s) s
      (after_named (after_trees b vs) ns) (after_trees (after_named b ns) vs) (size_trees vs) (size_named ns) (omega (arith, z, p, q)) (omega (arith, z, u, v))
  count_after (mixed t ns ss) s =
      let b = begin s in
      let z = begun_count s in
      let u = count_named ns b in
      let v = count_named ss (after_named b ns) in
      let l = stored_count (count s) (kept (graph.object t) (pairs_in b ns) (entries_by t.sealed (pairs_in (after_named b ns) ss))) (after_named (after_named b ns) ss) in
      omega (arith, z, u, v, l)

  pub count_trees : (ts : Trees) (s : Sheet) → count (after_trees s ts) ≡ count s + size_trees ts
  count_trees no_trees s = omega arith
  count_trees (tree t ts) s = let a = count_after t s in let b = count_trees ts (after s t) in omega (arith, a, b)

  pub count_named : (ts : Named) (s : Sheet) → count (after_named s ts) ≡ count s + size_named ts
  count_named no_named s = omega arith
  count_named (named x t ts) s = let a = count_after t s in let b = count_named ts (after s t) in omega (arith, a, b)

module _ (labels : Numbers) where
  abbrev nodes_on : Sheet → List Node
  nodes_on s = map (node_of labels) s.nodes

  -- Values and names.

  pub entry_is : (t : Tree) (s : Sheet) → value_at labels (entry_of s t) ≡ value_from labels (count s) t
  entry_is (said x) s = refl
  entry_is (called x) s = refl
  entry_is (body h ns vs) s = refl
  entry_is (mixed t ns ss) s = refl

  entries_are : (ts : Trees) (s : Sheet) (n : ℕ) → count s ≡ n → map (value_at labels) (entries_in s ts) ≡ values_from labels n ts
  entries_are no_trees s n e = refl
  entries_are (tree t ts) s n e =
      ap₂ (λ v vs. v ∷ vs) (entry_is t s ∙ ap (λ m. value_from labels m t) e) (entries_are ts (after s t) (n + size t) (count_after t s ∙ ap (λ m. m + size t) e))

  pairs_are : (ts : Named) (s : Sheet) (n : ℕ) → count s ≡ n → map (name_at labels) (pairs_in s ts) ≡ names_from labels n ts
  pairs_are no_named s n e = refl
  pairs_are (named x t ts) s n e =
      ap₂ (λ v vs. (x, v) ∷ vs) (entry_is t s ∙ ap (λ m. value_from labels m t) e) (pairs_are ts (after s t) (n + size t) (count_after t s ∙ ap (λ m. m + size t) e))

  among_is : (x : List ℕ) (ps : Pairs) → value_at labels (entry_among x ps) ≡ value_of x (map (name_at labels) ps)
  among_is x [] = refl
  among_is x (p ∷ ps) = go (bytes_eq x p.0) (among_is x ps)
    where
      go : (b : Bool) → value_at labels (entry_among x ps) ≡ value_of x (map (name_at labels) ps) → value_at labels (if b then p.1 else entry_among x ps) ≡ (if b then value_at labels p.1 else value_of x (map (name_at labels) ps))
      go true e = refl
      go false e = e

  by_is : (names : List (List ℕ)) (ps : Pairs) → map (value_at labels) (entries_by names ps) ≡ sealed_in names (map (name_at labels) ps)
  by_is [] ps = refl
  by_is (x ∷ names) ps = ap₂ (λ v vs. v ∷ vs) (among_is x ps) (by_is names ps)

  -- Nodes.

  -- a node is stored that began before all of these
  stored_first : (k : Kept) (s t : Sheet) (ms : List Node) → nodes_on t ≡ nodes_on (begin s) ++ ms → nodes_on (store (count s) k t) ≡ nodes_on s ++ node_of labels k ∷ ms
  stored_first k s t ms e =
      map-set (node_of labels) t.nodes (count s) k
      ∙ ap (λ l. set l (count s) (node_of labels k)) (e ∙ ap (λ l. l ++ ms) (map-append (node_of labels) s.nodes (no_kept ∷ [])) ∙ append_assoc (nodes_on s) (node_of labels no_kept ∷ []) ms)
      ∙ set_at (nodes_on s) (node_of labels no_kept) ms (node_of labels k) (count s) (length-map s.nodes (node_of labels))

  -- nodes behind nodes
  both : (r s t : Sheet) (ms ls : List Node) → nodes_on s ≡ nodes_on r ++ ms → nodes_on t ≡ nodes_on s ++ ls → nodes_on t ≡ nodes_on r ++ (ms ++ ls)
  both r s t ms ls e f = f ∙ ap (λ l. l ++ ls) e ∙ append_assoc (nodes_on r) ms ls

  made : (h : Head) (ps : Pairs) (es : List Entry) (ns : List (List ℕ × graph.Value)) (vs : List graph.Value) → map (name_at labels) ps ≡ ns → map (value_at labels) es ≡ vs
      → node_of labels (kept h ps es) ≡ record { head = h; names = ns; values = vs }
  made h ps es ns vs e f = ap₂ (λ a b. record { head = h; names = a; values = b }) e f

  -- an array's items come before its names, and of all else names come first
  body_nodes : (b : Bool) (h : Head) (ns : Named) (vs : Trees) (s : Sheet) (n : ℕ) → count s ≡ n
      → ((r : Sheet) (m : ℕ) → count r ≡ m → nodes_on (after_trees r vs) ≡ nodes_on r ++ trees_nodes labels m vs)
      → ((r : Sheet) (m : ℕ) → count r ≡ m → nodes_on (after_named r ns) ≡ nodes_on r ++ named_nodes labels m ns)
      → nodes_on (if b then store (count s) (kept h (pairs_in (after_trees (begin s) vs) ns) (entries_in (begin s) vs)) (after_named (after_trees (begin s) vs) ns)
      else store (count s) (kept h (pairs_in (begin s) ns) (entries_in (after_named (begin s) ns) vs)) (after_trees (after_named (begin s) ns) vs))
      ≡ nodes_on s ++ record { head = h; names = names_from labels (if b then suc n + size_trees vs else suc n) ns; values = values_from labels (if b then suc n else suc n + size_named ns) vs }
      ∷ (if b then trees_nodes labels (if b then suc n else suc n + size_named ns) vs ++ named_nodes labels (if b then suc n + size_trees vs else suc n) ns
      else named_nodes labels (if b then suc n + size_trees vs else suc n) ns ++ trees_nodes labels (if b then suc n else suc n + size_named ns) vs)
  body_nodes true h ns vs s n e of_trees of_named =
      let r = begin s in
      let q = after_trees r vs in
      let c : count r ≡ suc n = begun_count s ∙ ap suc e in
      let d : count q ≡ suc n + size_trees vs = count_trees vs r ∙ ap (λ m. m + size_trees vs) c in
      let k = kept h (pairs_in q ns) (entries_in r vs) in
      stored_first k s (after_named q ns) (trees_nodes labels (suc n) vs ++ named_nodes labels (suc n + size_trees vs) ns) (both r q (after_named q ns) (trees_nodes labels (suc n) vs) (named_nodes labels (suc n + size_trees vs) ns) (of_trees r (suc n) c) (of_named q (suc n + size_trees vs) d))
      ∙ ap (λ x. nodes_on s ++ x ∷ (trees_nodes labels (suc n) vs ++ named_nodes labels (suc n + size_trees vs) ns))
      (made h (pairs_in q ns) (entries_in r vs) (names_from labels (suc n + size_trees vs) ns) (values_from labels (suc n) vs) (pairs_are ns q (suc n + size_trees vs) d) (entries_are vs r (suc n) c))
  body_nodes false h ns vs s n e of_trees of_named =
      let r = begin s in
      let q = after_named r ns in
      let c : count r ≡ suc n = begun_count s ∙ ap suc e in
      let d : count q ≡ suc n + size_named ns = count_named ns r ∙ ap (λ m. m + size_named ns) c in
      let k = kept h (pairs_in r ns) (entries_in q vs) in
      stored_first k s (after_trees q vs) (named_nodes labels (suc n) ns ++ trees_nodes labels (suc n + size_named ns) vs) (both r q (after_trees q vs) (named_nodes labels (suc n) ns) (trees_nodes labels (suc n + size_named ns) vs) (of_named r (suc n) c) (of_trees q (suc n + size_named ns) d))
      ∙ ap (λ x. nodes_on s ++ x ∷ (named_nodes labels (suc n) ns ++ trees_nodes labels (suc n + size_named ns) vs))
      (made h (pairs_in r ns) (entries_in q vs) (names_from labels (suc n) ns) (values_from labels (suc n + size_named ns) vs) (pairs_are ns r (suc n) c) (entries_are vs q (suc n + size_named ns) d))

  mutual
    pub nodes_after : (t : Tree) (s : Sheet) (n : ℕ) → count s ≡ n → nodes_on (after s t) ≡ nodes_on s ++ nodes_from labels n t
    nodes_after (said x) s n e = sym (append-nil (nodes_on s))
    nodes_after (called x) s n e = sym (append-nil (nodes_on s))
    nodes_after (body h ns vs) s n e = body_nodes (is_array h) h ns vs s n e (nodes_trees vs) (nodes_named ns)
    nodes_after (mixed t ns ss) s n e =
        let r = begin s in
        let q = after_named r ns in
        let c : count r ≡ suc n = begun_count s ∙ ap suc e in
        let d : count q ≡ suc n + size_named ns = count_named ns r ∙ ap (λ m. m + size_named ns) c in
        let k = kept (graph.object t) (pairs_in r ns) (entries_by t.sealed (pairs_in q ss)) in
        let ms = named_nodes labels (suc n) ns in
        let ls = named_nodes labels (suc n + size_named ns) ss in
        stored_first k s (after_named q ss) (ms ++ ls) (both r q (after_named q ss) ms ls (nodes_named ns r (suc n) c) (nodes_named ss q (suc n + size_named ns) d))
        ∙ ap (λ x. nodes_on s ++ x ∷ (ms ++ ls))
        (made (graph.object t) (pairs_in r ns) (entries_by t.sealed (pairs_in q ss)) (names_from labels (suc n) ns) (sealed_in t.sealed (names_from labels (suc n + size_named ns) ss))
        (pairs_are ns r (suc n) c) (by_is t.sealed (pairs_in q ss) ∙ ap (sealed_in t.sealed) (pairs_are ss q (suc n + size_named ns) d)))

    pub nodes_trees : (ts : Trees) (s : Sheet) (n : ℕ) → count s ≡ n → nodes_on (after_trees s ts) ≡ nodes_on s ++ trees_nodes labels n ts
    nodes_trees no_trees s n e = sym (append-nil (nodes_on s))
    nodes_trees (tree t ts) s n e =
        let m = count_after t s ∙ ap (λ m. m + size t) e in
        both s (after s t) (after_trees (after s t) ts) (nodes_from labels n t) (trees_nodes labels (n + size t) ts) (nodes_after t s n e) (nodes_trees ts (after s t) (n + size t) m)

    pub nodes_named : (ts : Named) (s : Sheet) (n : ℕ) → count s ≡ n → nodes_on (after_named s ts) ≡ nodes_on s ++ named_nodes labels n ts
    nodes_named no_named s n e = sym (append-nil (nodes_on s))
    nodes_named (named x t ts) s n e =
        let m = count_after t s ∙ ap (λ m. m + size t) e in
        both s (after s t) (after_named (after s t) ts) (nodes_from labels n t) (named_nodes labels (n + size t) ts) (nodes_after t s n e) (nodes_named ts (after s t) (n + size t) m)
