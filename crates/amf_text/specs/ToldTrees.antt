-- The tree of a value: what its JSON is to mean, with the labels of nodes of the table.
use Rattle.std.specs.Prelude.{◌≡◌, ℕ, zero, suc, Bool, ◌&&◌, not, List, [], ◌∷◌, map, Some, if◌then◌else◌}
use Rattle.std.specs.List.{zip}
use Rattle.amf_wire.specs.WholeNumbers.{whole_of}
use Rattle.amf_graph.specs.Graph.{Leaf, double, Value, leaf, node, Traits, Head, object, Node, Graph, node_at}
use Rattle.amf_graph.specs.ByName.{stable_sort, by_name}
use Rattle.amf_graph.specs.Reached.{IsWhole, IsReachedValue}
use Rattle.amf_text.specs.Scalars.{is_odd, read_number, AreDigits}
use Rattle.amf_text.specs.Told.{Way, are_keys, is_rising, comes_before, label_of, in_table, told}
use Rattle.amf_text.specs.Meant.{Tree, said, called, body, mixed, Trees, no_trees, tree, Named, no_named, named, meant}
use Rattle.amf_text.specs.LeafLaws.{double_read}

abbrev pub trees : List Tree → Trees
trees [] = no_trees
trees (t ∷ ts) = tree t (trees ts)

abbrev pub named_of : List (List ℕ × Tree) → Named
named_of [] = no_named
named_of (p ∷ ps) = named p.0 p.1 (named_of ps)

-- where whole doubles stand bare, a double that an integer could stand for is read as one
abbrev pub read_leaf : Way → Leaf → Leaf
read_leaf w (double p) = if is_odd p then double p else double_read w.bare p (whole_of p)
read_leaf w x = x

-- the names are the keys of an object and do not rise, so they are listed apart
abbrev pub is_listed : List (List ℕ) → Bool
is_listed names = are_keys names && not (is_rising names)

abbrev pub by_keys : List (List ℕ × Tree) → List (List ℕ × Tree)
by_keys = stable_sort (λ p q. comes_before p.0 q.0)

abbrev pub object_tree : Traits → List (List ℕ × Tree) → List Tree → Tree
object_tree t ps ts = if is_listed t.sealed then mixed t (named_of ps) (named_of (by_keys (zip t.sealed ts))) else body (object t) (named_of ps) (trees ts)

abbrev pub body_tree : Head → List (List ℕ × Tree) → List Tree → Tree
body_tree (object t) ps ts = object_tree t ps ts
body_tree h ps ts = body h (named_of ps) (trees ts)

-- named pairs in by-name order
abbrev pub node_tree : (Value → Tree) → Node → Tree
node_tree f n = body_tree n.head (map (λ p. (p.0, f p.1)) (by_name n.names)) (map f n.values)

-- as `told` goes
unfoldable pub tree_of : Way → Graph → ℕ → Value → Tree
tree_of w g levels (leaf x) = said (read_leaf w x)
tree_of w g zero (node i) = called (label_of w i)
tree_of w g (suc levels) (node i) = if in_table w i then called (label_of w i) else node_tree (tree_of w g levels) (node_at g i)

-- what is told of each value of a whole graph means its tree
abbrev pub ToldIsMeant : Type 0
ToldIsMeant = (w : Way) (g : Graph) (levels : ℕ) (v : Value) → AreDigits w.digits → IsWhole g → IsReachedValue g v → meant read_number (told w g levels v) ≡ Some (tree_of w g levels v)
