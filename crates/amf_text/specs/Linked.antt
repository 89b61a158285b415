-- From what a text says to a graph: its nodes are those that stand in the text, in its order, and each label is the number of its row's node.
use Rattle.std.specs.Prelude.{ℕ, suc, ◌+◌, Bool, true, false, ◌&&◌, ◌||◌, not, List, [], ◌∷◌, ◌++◌, map, if◌then◌else◌, bytes_eq}
use Rattle.amf_graph.specs.Graph.{undefined, Value, leaf, node, Traits, Head, object, Node, Graph}
use Rattle.amf_graph.specs.Order.{is_array}
use Rattle.amf_text.specs.Told.{stands_in}
use Rattle.amf_text.specs.Meant.{Tree, said, called, body, mixed, Trees, no_trees, tree, Named, no_named, named, is_body}

-- how many nodes stand in it
abbrev mutual
  pub size : Tree → ℕ
  size (said x) = 0
  size (called x) = 0
  size (body h ns vs) = suc (size_trees vs + size_named ns)
  size (mixed t ns ss) = suc (size_named ss + size_named ns)

  pub size_trees : Trees → ℕ
  size_trees no_trees = 0
  size_trees (tree t ts) = size t + size_trees ts

  pub size_named : Named → ℕ
  size_named no_named = 0
  size_named (named x t ts) = size t + size_named ts

-- the number of each label's node
abbrev pub Numbers : Type 0
Numbers = List (List ℕ × ℕ)

-- of a label that is among them
abbrev pub number_of : List ℕ → Numbers → ℕ
number_of x [] = 0
number_of x (p ∷ ps) = if bytes_eq x p.0 then p.1 else number_of x ps

-- Values, where the first node that stands in them has this number.

abbrev pub value_from : Numbers → ℕ → Tree → Value
value_from labels n (said x) = leaf x
value_from labels n (called x) = node (number_of x labels)
value_from labels n (body h ns vs) = node n
value_from labels n (mixed t ns ss) = node n

abbrev pub values_from : Numbers → ℕ → Trees → List Value
values_from labels n no_trees = []
values_from labels n (tree t ts) = value_from labels n t ∷ values_from labels (n + size t) ts

abbrev pub names_from : Numbers → ℕ → Named → List (List ℕ × Value)
names_from labels n no_named = []
names_from labels n (named x t ts) = (x, value_from labels n t) ∷ names_from labels (n + size t) ts

-- of a name that is among them
abbrev pub value_of : List ℕ → List (List ℕ × Value) → Value
value_of x [] = leaf undefined
value_of x (p ∷ ps) = if bytes_eq x p.0 then p.1 else value_of x ps

-- in the order of the class
abbrev pub sealed_in : List (List ℕ) → List (List ℕ × Value) → List Value
sealed_in names ps = map (λ x. value_of x ps) names

-- In a text the items of an array stand before its names, and an object's dynamic members before its sealed ones: in both the other way round than they are met.

abbrev pub values_begin : Head → ℕ → Named → ℕ
values_begin h n ns = if is_array h then n else n + size_named ns

abbrev pub names_begin : Head → ℕ → Trees → ℕ
names_begin h n vs = if is_array h then n + size_trees vs else n

abbrev pub in_text : {X : Type 0} → Head → List X → List X → List X
in_text h names values = if is_array h then values ++ names else names ++ values

abbrev pub node_from : Numbers → ℕ → Head → Named → Trees → Node
node_from labels n h ns vs = record { head = h; names = names_from labels (names_begin h n vs) ns; values = values_from labels (values_begin h n ns) vs }

abbrev pub mixed_from : Numbers → ℕ → Traits → Named → Named → Node
mixed_from labels n t ns ss = record { head = object t; names = names_from labels n ns; values = sealed_in t.sealed (names_from labels (n + size_named ns) ss) }

-- the nodes of a value, of which the first has this number
abbrev mutual
  pub nodes_from : Numbers → ℕ → Tree → List Node
  nodes_from labels n (said x) = []
  nodes_from labels n (called x) = []
  nodes_from labels n (body h ns vs) = node_from labels (suc n) h ns vs ∷ in_text h (named_nodes labels (names_begin h (suc n) vs) ns) (trees_nodes labels (values_begin h (suc n) ns) vs)
  nodes_from labels n (mixed t ns ss) = mixed_from labels (suc n) t ns ss ∷ (named_nodes labels (suc n) ns ++ named_nodes labels (suc n + size_named ns) ss)

  pub trees_nodes : Numbers → ℕ → Trees → List Node
  trees_nodes labels n no_trees = []
  trees_nodes labels n (tree t ts) = nodes_from labels n t ++ trees_nodes labels (n + size t) ts

  pub named_nodes : Numbers → ℕ → Named → List Node
  named_nodes labels n no_named = []
  named_nodes labels n (named x t ts) = nodes_from labels n t ++ named_nodes labels (n + size t) ts

-- each label with the number of its row's node
abbrev pub labels_from : ℕ → Named → Numbers
labels_from n no_named = []
labels_from n (named x t ts) = (x, n) ∷ labels_from (n + size t) ts

-- the table stands before the root
abbrev pub graph_of : Named → Tree → Graph
graph_of table root = record {
  nodes = named_nodes (labels_from 0 table) 0 table ++ nodes_from (labels_from 0 table) (size_named table) root;
  root = value_from (labels_from 0 table) (size_named table) root;
}

-- Each row is a node and has a label of its own, and each label that is called is one of a row.

abbrev pub has_label : Named → List ℕ → Bool
has_label no_named x = false
has_label (named y t ts) x = bytes_eq x y || has_label ts x

abbrev pub are_rows : List (List ℕ) → Named → Bool
are_rows seen no_named = true
are_rows seen (named x t ts) = is_body t && (not (stands_in seen x) && are_rows (x ∷ seen) ts)

abbrev pub is_table : Named → Bool
is_table table = are_rows [] table

abbrev mutual
  pub calls : Named → Tree → Bool
  calls table (said x) = true
  calls table (called x) = has_label table x
  calls table (body h ns vs) = calls_named table ns && calls_trees table vs
  calls table (mixed t ns ss) = calls_named table ns && calls_named table ss

  pub calls_trees : Named → Trees → Bool
  calls_trees table no_trees = true
  calls_trees table (tree t ts) = calls table t && calls_trees table ts

  pub calls_named : Named → Named → Bool
  calls_named table no_named = true
  calls_named table (named x t ts) = calls table t && calls_named table ts

abbrev pub are_linked : Named → Tree → Bool
are_linked table root = calls_named table table && calls table root
