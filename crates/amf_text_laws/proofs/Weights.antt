-- A graph weighs at most four times what its values take in a text.
use Rattle.std.proofs.Common.{◌≡◌, ℕ, suc, ◌+◌, ◌*◌, ◌≤◌, Bool, true, false, cond, if◌then◌else◌, List, [], ◌∷◌, ◌++◌, length, refl, sym, ap, ◌∙◌, arith}
use Rattle.std.specs.Prelude.{bytes_eq, not, ◌||◌}
use Rattle.std.proofs.lemmas.Bool.{false≢true, and_parts}
use Rattle.std.proofs.lemmas.Slice.Eq.{bytes_eq-Decides}
use Rattle.amf_graph.specs.Graph as graph
use Rattle.amf_graph.specs.Graph.{Head, Node, Graph}
use Rattle.amf_graph.specs.Order.{is_array}
use Rattle.amf_text.specs.Told.{stands_in}
use Rattle.amf_text.specs.Meant.{Tree, said, called, body, mixed, Trees, no_trees, tree, Named, no_named, named, are_new}
use Rattle.amf_text.specs.Linked.{size, size_named, Numbers, value_from, values_from, names_from, values_begin, names_begin, value_of, sealed_in, in_text, nodes_from, trees_nodes, named_nodes, labels_from, graph_of}
use Rattle.amf_text.specs.Accepted.{Part}
use Rattle.amf_text_laws.specs.TextBounds.{names_size, value_weight, values_weight, pairs_weight, head_weight, nodes_weight, graph_weight}
use Rattle.amf_text_laws.proofs.Sizes.{names_room, head_room, text_bytes, bytes_at, bytes_of, tree_size, trees_size, named_size}

weights_both : (a b : List Node) → nodes_weight (a ++ b) ≡ nodes_weight a + nodes_weight b
weights_both [] b = omega arith
weights_both (x ∷ a) b = omega (arith, weights_both a b)

in_text_weight : (h : Head) (a b : List Node) → nodes_weight (in_text h a b) ≡ nodes_weight a + nodes_weight b
in_text_weight h a b = go (is_array h)
  where
    go : (c : Bool) → nodes_weight (if c then b ++ a else a ++ b) ≡ nodes_weight a + nodes_weight b
    go true = omega (arith, weights_both b a)
    go false = weights_both a b

head_light : (h : Head) → head_weight h ≤ suc (4 * head_room h)
head_light (graph.xml_document x) = omega arith
head_light (graph.date p) = omega arith
head_light graph.array = omega arith
head_light (graph.object t) = omega arith
head_light (graph.wrapper c) = omega arith
head_light (graph.xml x) = omega arith
head_light (graph.bytes x) = omega arith
head_light (graph.ints f ns) = omega arith
head_light (graph.uints f ns) = omega arith
head_light (graph.doubles f ns) = omega arith
head_light (graph.values f x) = omega arith
head_light (graph.dictionary f) = omega arith

-- Sealed members that stand in another order than that of the class: by names that differ each is met once.

abbrev texts_of : Named → ℕ
texts_of no_named = 0
texts_of (named x t ts) = text_bytes t + texts_of ts

stands_more : (seen : List (List ℕ)) (x y : List ℕ) → stands_in seen y ≡ true → stands_in (seen ++ x ∷ []) y ≡ true
stands_more [] x y h = absurd (false≢true h)
stands_more (z ∷ seen) x y h = go (bytes_eq y z) h (stands_more seen x y)
  where
    go : (b : Bool) → (b || stands_in seen y) ≡ true → (stands_in seen y ≡ true → stands_in (seen ++ x ∷ []) y ≡ true) → (b || stands_in (seen ++ x ∷ []) y) ≡ true
    go true e more = refl
    go false e more = more e

stands_last : (seen : List (List ℕ)) (y : List ℕ) → stands_in (seen ++ y ∷ []) y ≡ true
stands_last [] y = ap (λ b. b || false) ((bytes_eq-Decides y y).1 refl)
stands_last (z ∷ seen) y = go (bytes_eq y z) (stands_last seen y)
  where
    go : (b : Bool) → stands_in (seen ++ y ∷ []) y ≡ true → (b || stands_in (seen ++ y ∷ []) y) ≡ true
    go true more = refl
    go false more = more

module _ (y : List ℕ) (t : Tree) (ts : Named) where
  unmet : (seen xs : List (List ℕ)) → are_new seen xs ≡ true → stands_in seen y ≡ true → bytes_of xs (named y t ts) ≡ bytes_of xs ts
  unmet seen [] n s = refl
  unmet seen (x ∷ xs) n s =
      let new = and_parts (not (stands_in seen x)) (are_new (seen ++ x ∷ []) xs) n in
      go (bytes_eq x y) refl new.0 (unmet (seen ++ x ∷ []) xs new.1 (stands_more seen x y s))
    where
      go : (b : Bool) → bytes_eq x y ≡ b → not (stands_in seen x) ≡ true → bytes_of xs (named y t ts) ≡ bytes_of xs ts → (if b then text_bytes t else bytes_at x ts) + bytes_of xs (named y t ts) ≡ bytes_at x ts + bytes_of xs ts
      go true e new rest =
          let same : x ≡ y = (bytes_eq-Decides x y).0 e in
          let wrong : false ≡ true = sym (ap not (ap (stands_in seen) same ∙ s)) ∙ new in
          absurd (false≢true wrong)
      go false e new rest = omega (arith, rest)

  one_more : (seen xs : List (List ℕ)) → are_new seen xs ≡ true → bytes_of xs (named y t ts) ≤ text_bytes t + bytes_of xs ts
  one_more seen [] n = omega arith
  one_more seen (x ∷ xs) n =
      let new = and_parts (not (stands_in seen x)) (are_new (seen ++ x ∷ []) xs) n in
      go (bytes_eq x y) refl new.1 (one_more (seen ++ x ∷ []) xs new.1)
    where
      go : (b : Bool) → bytes_eq x y ≡ b → are_new (seen ++ x ∷ []) xs ≡ true → bytes_of xs (named y t ts) ≤ text_bytes t + bytes_of xs ts
          → (if b then text_bytes t else bytes_at x ts) + bytes_of xs (named y t ts) ≤ text_bytes t + (bytes_at x ts + bytes_of xs ts)
      go true e new rest =
          let same : x ≡ y = (bytes_eq-Decides x y).0 e in
          let there : stands_in (seen ++ x ∷ []) y ≡ true = ap (λ z. stands_in (seen ++ z ∷ []) y) same ∙ stands_last seen y in
          omega (arith, unmet (seen ++ x ∷ []) xs new there)
      go false e new rest = omega (arith, rest)

none_of : (xs : List (List ℕ)) → bytes_of xs no_named ≡ 0
none_of [] = refl
none_of (x ∷ xs) = omega (arith, none_of xs)

once : (xs : List (List ℕ)) → are_new [] xs ≡ true → (ss : Named) → bytes_of xs ss ≤ texts_of ss
once xs n no_named = omega (arith, none_of xs)
once xs n (named y t ts) = omega (arith, one_more y t ts [] xs n, once xs n ts)

enough : (xs : List (List ℕ)) (ss : Named) → bytes_of xs ss ≤ texts_of ss + cond (are_new [] xs) 0 (bytes_of xs ss)
enough xs ss = go (are_new [] xs) refl
  where
    go : (b : Bool) → are_new [] xs ≡ b → bytes_of xs ss ≤ texts_of ss + cond b 0 (bytes_of xs ss)
    go true e = omega (arith, once xs e ss)
    go false e = omega arith

said_weighs : (labels : Numbers) (n : ℕ) (t : Tree) → value_weight (value_from labels n t) ≡ suc (text_bytes t)
said_weighs labels n (said graph.undefined) = refl
said_weighs labels n (said graph.null) = refl
said_weighs labels n (said (graph.boolean b)) = refl
said_weighs labels n (said (graph.integer i)) = refl
said_weighs labels n (said (graph.double p)) = refl
said_weighs labels n (said (graph.text x)) = refl
said_weighs labels n (called x) = refl
said_weighs labels n (body h ns vs) = refl
said_weighs labels n (mixed t ns ss) = refl

at_weighs : (labels : Numbers) (x : List ℕ) (n : ℕ) (ss : Named) → value_weight (value_of x (names_from labels n ss)) ≡ suc (bytes_at x ss)
at_weighs labels x n no_named = refl
at_weighs labels x n (named y t ts) = go (bytes_eq x y) (at_weighs labels x (n + size t) ts)
  where
    go : (b : Bool) → value_weight (value_of x (names_from labels (n + size t) ts)) ≡ suc (bytes_at x ts)
        → value_weight (if b then value_from labels n t else value_of x (names_from labels (n + size t) ts)) ≡ suc (if b then text_bytes t else bytes_at x ts)
    go true more = said_weighs labels n t
    go false more = more

sealed_weigh : (labels : Numbers) (n : ℕ) (ss : Named) (xs : List (List ℕ)) → values_weight (sealed_in xs (names_from labels n ss)) ≡ length xs + bytes_of xs ss
sealed_weigh labels n ss [] = refl
sealed_weigh labels n ss (x ∷ xs) = omega (arith, at_weighs labels x n ss, sealed_weigh labels n ss xs)

texts_in_pairs : (labels : Numbers) (n : ℕ) (ss : Named) → texts_of ss ≤ pairs_weight (names_from labels n ss)
texts_in_pairs labels n no_named = omega arith
texts_in_pairs labels n (named x t ts) = omega (arith, said_weighs labels n t, texts_in_pairs labels (n + size t) ts)

names_and_one : (xs : List (List ℕ)) → names_room xs ≡ names_size xs + length xs
names_and_one [] = omega arith
names_and_one (x ∷ xs) = omega (arith, names_and_one xs)

-- Values with the nodes that stand in them.

mutual
  tree_weighs : (labels : Numbers) (m n : ℕ) (t : Tree) → value_weight (value_from labels m t) + nodes_weight (nodes_from labels n t) ≤ 4 * tree_size t
  tree_weighs labels m n (said x) = omega arith
  tree_weighs labels m n (called x) = omega arith
  tree_weighs labels m n (body h ns vs) =
      let names = named_nodes labels (names_begin h (suc n) vs) ns in
      let values = trees_nodes labels (values_begin h (suc n) ns) vs in
      let first = named_weighs labels (names_begin h (suc n) vs) (names_begin h (suc n) vs) ns in
      let second = trees_weigh labels (values_begin h (suc n) ns) (values_begin h (suc n) ns) vs in
      omega (arith, in_text_weight h names values, first, second, head_light h)
  tree_weighs labels m n (mixed t ns ss) =
      let names = named_nodes labels (suc n) ns in
      let behind = suc n + size_named ns in
      let sealed = named_nodes labels behind ss in
      let first = named_weighs labels (suc n) (suc n) ns in
      let second = named_weighs labels behind behind ss in
      omega (arith, weights_both names sealed, first, second, sealed_weigh labels behind ss t.sealed, texts_in_pairs labels behind ss, enough t.sealed ss, names_and_one t.sealed)

  trees_weigh : (labels : Numbers) (m n : ℕ) (ts : Trees) → values_weight (values_from labels m ts) + nodes_weight (trees_nodes labels n ts) ≤ 4 * trees_size ts
  trees_weigh labels m n no_trees = omega arith
  trees_weigh labels m n (tree t ts) =
      let one = tree_weighs labels m n t in
      let more = trees_weigh labels (m + size t) (n + size t) ts in
      omega (arith, one, more, weights_both (nodes_from labels n t) (trees_nodes labels (n + size t) ts))

  named_weighs : (labels : Numbers) (m n : ℕ) (ns : Named) → pairs_weight (names_from labels m ns) + nodes_weight (named_nodes labels n ns) ≤ 4 * named_size ns
  named_weighs labels m n no_named = omega arith
  named_weighs labels m n (named x t ts) =
      let one = tree_weighs labels m n t in
      let more = named_weighs labels (m + size t) (n + size t) ts in
      omega (arith, one, more, weights_both (nodes_from labels n t) (named_nodes labels (n + size t) ts))

pub graph_weighs : (p : Part) → graph_weight (graph_of p.table p.root) ≤ 4 * (named_size p.table + tree_size p.root)
graph_weighs p =
    let labels = labels_from 0 p.table in
    let behind = size_named p.table in
    omega (arith, weights_both (named_nodes labels 0 p.table) (nodes_from labels behind p.root), named_weighs labels 0 0 p.table, tree_weighs labels behind behind p.root)
