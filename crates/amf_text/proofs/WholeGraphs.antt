-- The graph of what a text says is whole: each node has the parts of its kind, and all that it names is there.
use Rattle.std.proofs.Common.{◌≡◌, ℕ, suc, ◌+◌, ◌≤◌, ◌<◌, Bool, true, false, if◌then◌else◌, List, [], ◌∷◌, ◌++◌, length, refl, ap₂, ◌∙◌, subst, inl, inr, arith, length-append}
use Rattle.std.specs.Prelude.{◌&&◌, ◌||◌, not, bytes_eq}
use Rattle.std.specs.List.{AllByRecursion}
use Rattle.std.proofs.lemmas.Bool.{and_parts}
use Rattle.std.proofs.lemmas.List.{length-map}
use Rattle.amf_wire.specs.Text.{IsText}
use Rattle.amf_graph.specs.Graph.{Value, leaf, node, Head, Node, Graph, no_node, node_at, IsLeaf, IsValue, Fits, HasTexts}
use Rattle.amf_graph.specs.Order.{is_array}
use Rattle.amf_graph.specs.Reached.{Holds, Reached, at_root, inside, IsWhole}
use Rattle.amf_graph.proofs.Alls.{all_weaker, all_append, all_at, each_at}
use Rattle.amf_text.specs.Told.{stands_in}
use Rattle.amf_text.specs.Meant.{Tree, said, called, body, mixed, Trees, no_trees, tree, Named, no_named, named, is_body}
use Rattle.amf_text.specs.Linked.{size, size_trees, size_named, Numbers, number_of, value_from, values_from, names_from, value_of, sealed_in, values_begin, names_begin, in_text, nodes_from, trees_nodes, named_nodes, labels_from, graph_of, has_label, are_rows, is_table, calls, calls_trees, calls_named, are_linked}
use Rattle.amf_text.specs.WholeLaws.{IsSoundValue, IsSoundNode, IsSoundGraph}
use Rattle.amf_text.proofs.WholeTrees.{IsSoundTree, AreSoundTrees, AreSoundNamed}

-- How many nodes there are.

both_long : {X : Type 0} (h : Head) (names values : List X) → length (in_text h names values) ≡ length values + length names
both_long {X = X} h names values = go (is_array h)
  where
    go : (b : Bool) → length (if b then values ++ names else names ++ values) ≡ length values + length names
    go true = length-append values names
    go false = omega (arith, length-append names values)

mutual
  pub nodes_long : (labels : Numbers) (n : ℕ) (t : Tree) → length (nodes_from labels n t) ≡ size t
  nodes_long labels n (said x) = refl
  nodes_long labels n (called x) = refl
  nodes_long labels n (body h ns vs) =
      let first = both_long h (named_nodes labels (names_begin h (suc n) vs) ns) (trees_nodes labels (values_begin h (suc n) ns) vs) in
      let values = trees_long labels (values_begin h (suc n) ns) vs in
      let names = named_long labels (names_begin h (suc n) vs) ns in
      omega (arith, first, values, names)
  nodes_long labels n (mixed t ns ss) =
      let first = length-append (named_nodes labels (suc n) ns) (named_nodes labels (suc n + size_named ns) ss) in
      let names = named_long labels (suc n) ns in
      let sealed = named_long labels (suc n + size_named ns) ss in
      omega (arith, first, names, sealed)

  trees_long : (labels : Numbers) (n : ℕ) (ts : Trees) → length (trees_nodes labels n ts) ≡ size_trees ts
  trees_long labels n no_trees = refl
  trees_long labels n (tree t ts) =
      let first = length-append (nodes_from labels n t) (trees_nodes labels (n + size t) ts) in
      let one = nodes_long labels n t in
      let more = trees_long labels (n + size t) ts in
      omega (arith, first, one, more)

  pub named_long : (labels : Numbers) (n : ℕ) (ns : Named) → length (named_nodes labels n ns) ≡ size_named ns
  named_long labels n no_named = refl
  named_long labels n (named x t ts) =
      let first = length-append (nodes_from labels n t) (named_nodes labels (n + size t) ts) in
      let one = nodes_long labels n t in
      let more = named_long labels (n + size t) ts in
      omega (arith, first, one, more)

-- A value is a leaf of the formats, or a node of which this holds.

abbrev pub Good : (ℕ → Type 0) → Value → Type 0
Good Q (leaf x) = IsLeaf x
Good Q (node i) = Q i

pub record GoodNode (Q : ℕ → Type 0) (a : Node) : Type 0 where
  pub texts : HasTexts a
  pub fits : Fits a.head a.names a.values
  pub names : AllByRecursion (λ p. Good Q p.1) a.names
  pub values : AllByRecursion (Good Q) a.values

-- from one number up to another
abbrev pub Within : (ℕ → Type 0) → ℕ → ℕ → Type 0
Within Q m n = (k : ℕ) → m ≤ k → k < n → Q k

module _ (table : Named) (labels : Numbers) (Q : ℕ → Type 0) (labelled : (x : List ℕ) → has_label table x ≡ true → Q (number_of x labels)) where
  value_good : (t : Tree) (n : ℕ) → IsSoundTree t → calls table t ≡ true → Within Q n (n + size t) → Good Q (value_from labels n t)
  value_good (said x) n s c q = s
  value_good (called x) n s c q = labelled x c
  value_good (body h ns vs) n s c q = q n (omega arith) (omega arith)
  value_good (mixed t ns ss) n s c q = q n (omega arith) (omega arith)

  values_good : (ts : Trees) (n : ℕ) → AreSoundTrees ts → calls_trees table ts ≡ true → Within Q n (n + size_trees ts) → AllByRecursion (Good Q) (values_from labels n ts)
  values_good no_trees n s c q = tt
  values_good (tree t ts) n s c q =
      let p = and_parts (calls table t) (calls_trees table ts) c in
      (value_good t n s.0 p.0 (λ k l m. q k l (omega arith)), values_good ts (n + size t) s.1 p.1 (λ k l m. q k (omega arith) (omega arith)))

  names_good : (ns : Named) (n : ℕ) → AreSoundNamed ns → calls_named table ns ≡ true → Within Q n (n + size_named ns) → AllByRecursion (λ p. Good Q p.1) (names_from labels n ns)
  names_good no_named n s c q = tt
  names_good (named x t ts) n s c q =
      let p = and_parts (calls table t) (calls_named table ts) c in
      (value_good t n s.1 p.0 (λ k l m. q k l (omega arith)), names_good ts (n + size t) s.2 p.1 (λ k l m. q k (omega arith) (omega arith)))

  names_texts : (ns : Named) (n : ℕ) → AreSoundNamed ns → AllByRecursion (λ p. IsText p.0) (names_from labels n ns)
  names_texts no_named n s = tt
  names_texts (named x t ts) n s = (s.0, names_texts ts (n + size t) s.2)

  -- the names of an array stand behind its items, and other values behind the names
  at_names : (h : Head) (ns : Named) (vs : Trees) (n m : ℕ) → m ≡ n + (size_trees vs + size_named ns) → Within Q n m → Within Q (names_begin h n vs) (names_begin h n vs + size_named ns)
  at_names h ns vs n m e q = go (is_array h)
    where
      go : (b : Bool) → Within Q (if b then n + size_trees vs else n) ((if b then n + size_trees vs else n) + size_named ns)
      go true k l u = q k (omega arith) (omega arith)
      go false k l u = q k (omega arith) (omega arith)

  at_values : (h : Head) (ns : Named) (vs : Trees) (n m : ℕ) → m ≡ n + (size_trees vs + size_named ns) → Within Q n m → Within Q (values_begin h n ns) (values_begin h n ns + size_trees vs)
  at_values h ns vs n m e q = go (is_array h)
    where
      go : (b : Bool) → Within Q (if b then n else n + size_named ns) ((if b then n else n + size_named ns) + size_trees vs)
      go true k l u = q k (omega arith) (omega arith)
      go false k l u = q k (omega arith) (omega arith)

  found_good : (x : List ℕ) (ps : List (List ℕ × Value)) → AllByRecursion (λ p. Good Q p.1) ps → Good Q (value_of x ps)
  found_good x [] h = tt
  found_good x (p ∷ ps) h = go (bytes_eq x p.0) (found_good x ps h.1)
    where
      go : (b : Bool) → Good Q (value_of x ps) → Good Q (if b then p.1 else value_of x ps)
      go true more = h.0
      go false more = more

  sealed_good : (names : List (List ℕ)) (ps : List (List ℕ × Value)) → AllByRecursion (λ p. Good Q p.1) ps → AllByRecursion (Good Q) (sealed_in names ps)
  sealed_good [] ps h = tt
  sealed_good (x ∷ names) ps h = (found_good x ps h, sealed_good names ps h)

  both_good : (h : Head) (names values : List Node) → AllByRecursion (GoodNode Q) names → AllByRecursion (GoodNode Q) values → AllByRecursion (GoodNode Q) (in_text h names values)
  both_good h names values a b = go (is_array h)
    where
      go : (t : Bool) → AllByRecursion (GoodNode Q) (if t then values ++ names else names ++ values)
      go true = all_append (GoodNode Q) values names b a
      go false = all_append (GoodNode Q) names values a b

  mutual
    -- the nodes of a value, whose parts stand behind the first
    pub nodes_good : (t : Tree) (n : ℕ) → IsSoundTree t → calls table t ≡ true → Within Q (suc n) (n + size t) → AllByRecursion (GoodNode Q) (nodes_from labels n t)
    nodes_good (said x) n s c q = tt
    nodes_good (called x) n s c q = tt
    nodes_good (body h ns vs) n s c q =
        let p = and_parts (calls_named table ns) (calls_trees table vs) c in
        let e : n + suc (size_trees vs + size_named ns) ≡ suc n + (size_trees vs + size_named ns) = omega arith in
        let names = at_names h ns vs (suc n) (n + suc (size_trees vs + size_named ns)) e q in
        let values = at_values h ns vs (suc n) (n + suc (size_trees vs + size_named ns)) e q in (
          record {
            texts = record { head = s.0.texts; names = names_texts ns (names_begin h (suc n) vs) s.1 };
            fits = s.0.fits labels (names_begin h (suc n) vs) (values_begin h (suc n) ns);
            names = names_good ns (names_begin h (suc n) vs) s.1 p.0 names;
            values = values_good vs (values_begin h (suc n) ns) s.2 p.1 values;
          },
          both_good h (named_nodes labels (names_begin h (suc n) vs) ns) (trees_nodes labels (values_begin h (suc n) ns) vs)
              (named_good ns (names_begin h (suc n) vs) s.1 p.0 names) (trees_good vs (values_begin h (suc n) ns) s.2 p.1 values),
        )
    nodes_good (mixed t ns ss) n s c q =
        let p = and_parts (calls_named table ns) (calls_named table ss) c in
        let names : Within Q (suc n) (suc n + size_named ns) = λ k l u. q k l (omega arith) in
        let sealed : Within Q (suc n + size_named ns) (suc n + size_named ns + size_named ss) = λ k l u. q k (omega arith) (omega arith) in (
          record {
            texts = record { head = s.0.texts; names = names_texts ns (suc n) s.1 };
            fits = (length-map t.sealed _, s.0.members labels (suc n));
            names = names_good ns (suc n) s.1 p.0 names;
            values = sealed_good t.sealed (names_from labels (suc n + size_named ns) ss) (names_good ss (suc n + size_named ns) s.2 p.1 sealed);
          },
          all_append (GoodNode Q) (named_nodes labels (suc n) ns) (named_nodes labels (suc n + size_named ns) ss) (named_good ns (suc n) s.1 p.0 names) (named_good ss (suc n + size_named ns) s.2 p.1 sealed),
        )

    trees_good : (ts : Trees) (n : ℕ) → AreSoundTrees ts → calls_trees table ts ≡ true → Within Q n (n + size_trees ts) → AllByRecursion (GoodNode Q) (trees_nodes labels n ts)
    trees_good no_trees n s c q = tt
    trees_good (tree t ts) n s c q =
        let p = and_parts (calls table t) (calls_trees table ts) c in
        all_append (GoodNode Q) (nodes_from labels n t) (trees_nodes labels (n + size t) ts) (nodes_good t n s.0 p.0 (λ k l m. q k (omega arith) (omega arith))) (trees_good ts (n + size t) s.1 p.1 (λ k l m. q k (omega arith) (omega arith)))

    pub named_good : (ns : Named) (n : ℕ) → AreSoundNamed ns → calls_named table ns ≡ true → Within Q n (n + size_named ns) → AllByRecursion (GoodNode Q) (named_nodes labels n ns)
    named_good no_named n s c q = tt
    named_good (named x t ts) n s c q =
        let p = and_parts (calls table t) (calls_named table ts) c in
        all_append (GoodNode Q) (nodes_from labels n t) (named_nodes labels (n + size t) ts) (nodes_good t n s.1 p.0 (λ k l m. q k (omega arith) (omega arith))) (named_good ts (n + size t) s.2 p.1 (λ k l m. q k (omega arith) (omega arith)))

-- Labels of a table.

pub body_size : (t : Tree) → is_body t ≡ true → 0 < size t
body_size (said x) e = absurd cc
body_size (called x) e = absurd cc
body_size (body h ns vs) e = omega arith
body_size (mixed t ns ss) e = omega arith

pub number_below : (table : Named) (seen : List (List ℕ)) (n : ℕ) (x : List ℕ) → are_rows seen table ≡ true → has_label table x ≡ true → number_of x (labels_from n table) < n + size_named table
number_below no_named seen n x r h = absurd cc
number_below (named y t ts) seen n x r h =
    let p = and_parts (is_body t) (not (stands_in seen y) && are_rows (y ∷ seen) ts) r in
    let q = and_parts (not (stands_in seen y)) (are_rows (y ∷ seen) ts) p.1 in
    go (bytes_eq x y) (body_size t p.0) (λ e. number_below ts (y ∷ seen) (n + size t) x q.1 e) h
  where
    go : (b : Bool) → 0 < size t → (has_label ts x ≡ true → number_of x (labels_from (n + size t) ts) < n + size t + size_named ts) → (b || has_label ts x) ≡ true
        → (if b then n else number_of x (labels_from (n + size t) ts)) < n + (size t + size_named ts)
    go true size more e = omega arith
    go false size more e = omega (arith, more e)

-- The graph.

-- it is as the formats want it, its rows are nodes of labels of their own, and each label is one of a row
pub record IsSoundText (table : Named) (root : Tree) : Type 0 where
  pub rows : AreSoundNamed table
  pub is_table : is_table table ≡ true
  pub value : IsSoundTree root
  pub links : are_linked table root ≡ true

module _ (table : Named) (root : Tree) (s : IsSoundText table root) where
  count : ℕ
  count = length (graph_of table root).nodes

  count_is : count ≡ size_named table + size root
  unfolding count
  count_is = length-append (named_nodes (labels_from 0 table) 0 table) (nodes_from (labels_from 0 table) (size_named table) root) ∙ ap₂ (λ a b. a + b) (named_long (labels_from 0 table) 0 table) (nodes_long (labels_from 0 table) (size_named table) root)

  links : (calls_named table table ≡ true) × (calls table root ≡ true)
  links = and_parts (calls_named table table) (calls table root) s.links

  sound_value : (v : Value) → Good (λ k. k < count) v → IsSoundValue count v
  sound_value (leaf x) h = h
  sound_value (node i) h = h

  sound_node : (a : Node) → GoodNode (λ k. k < count) a → IsSoundNode count a
  sound_node a g = record {
    texts = g.texts;
    fits = g.fits;
    names = all_weaker (λ (p : List ℕ × Value). Good (λ k. k < count) p.1) (λ p. IsSoundValue count p.1) a.names (λ p h. sound_value p.1 h) g.names;
    values = all_weaker (Good (λ k. k < count)) (IsSoundValue count) a.values sound_value g.values;
  }

  labelled : (x : List ℕ) → has_label table x ≡ true → number_of x (labels_from 0 table) < size_named table
  labelled x h = omega (arith, number_below table [] 0 x s.is_table h)

  there : (x : List ℕ) → has_label table x ≡ true → number_of x (labels_from 0 table) < count
  there x h = let l = labelled x h in omega (arith, count_is)

  pub sound_graph : IsSoundGraph (graph_of table root)
  unfolding count
  sound_graph =
      let labels = labels_from 0 table in
      let below : ℕ → Type 0 = λ k. k < count in
      record {
        root = sound_value (value_from labels (size_named table) root) (value_good table labels below there root (size_named table) s.value links.1 (λ k l u. omega (arith, count_is)));
        nodes = all_weaker (GoodNode below) (IsSoundNode count) (graph_of table root).nodes sound_node
            (all_append (GoodNode below) (named_nodes labels 0 table) (nodes_from labels (size_named table) root)
            (named_good table labels below there table 0 s.rows links.0 (λ k l u. omega (arith, count_is)))
            (nodes_good table labels below there root (size_named table) s.value links.1 (λ k l u. omega (arith, count_is))));
      }

-- Whole.

module _ (g : Graph) (s : IsSoundGraph g) where
  value_there : (i : ℕ) (v : Value) → IsSoundValue (length g.nodes) v → v ≡ node i → i < length g.nodes
  value_there i (leaf x) h e = absurd cc
  value_there i (node k) h e = (let same : k ≡ i = cc in omega arith)

  holds_sound : (a : Node) (v : Value) → IsSoundNode (length g.nodes) a → Holds a v → IsSoundValue (length g.nodes) v
  holds_sound a v n (inl h) = each_at (IsSoundValue (length g.nodes)) a.values h.0 v n.values h.1
  holds_sound a v n (inr h) = each_at (λ (p : List ℕ × Value). IsSoundValue (length g.nodes) p.1) a.names h.0 (h.1, v) n.names h.2

  node_sound : (i : ℕ) → i < length g.nodes → IsSoundNode (length g.nodes) (node_at g i)
  node_sound i l = all_at (IsSoundNode (length g.nodes)) g.nodes i no_node l s.nodes

  reached_there : (i : ℕ) → Reached g i → i < length g.nodes
  reached_there i (at_root e) = value_there i g.root s.root e
  reached_there i (inside j r h) = value_there i (node i) (holds_sound (node_at g j) (node i) (node_sound j (reached_there j r)) h) refl

  is_value : (v : Value) → IsSoundValue (length g.nodes) v → IsValue v
  is_value (leaf x) h = h
  is_value (node i) h = tt

  pub sound_is_whole : IsWhole g
  sound_is_whole = record {
    there = reached_there;
    values = λ v r. elim r [
      | inl e ↦ is_value v (subst (IsSoundValue (length g.nodes)) e s.root)
      | inr h ↦ is_value v (holds_sound (node_at g h.0) v (node_sound h.0 (reached_there h.0 h.1)) h.2)
    ];
    texts = λ i r. (node_sound i (reached_there i r)).texts;
    fits = λ i r. (node_sound i (reached_there i r)).fits;
  }
