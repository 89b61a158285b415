-- The canonical order of a graph is one, and it decides whether graphs are isomorphic.
use Rattle.std.specs.Prelude.{◌≡◌, ℕ, List, length, slice_get, Some, ◌↔◌}
use Rattle.amf_graph.specs.Graph.{Graph, node_at}
use Rattle.amf_graph.specs.Reached.{IsWhole}
use Rattle.amf_graph.specs.Isomorphic.{ValuesMatch, NodesMatch, Isomorphic}
use Rattle.amf_graph.specs.Order.{IsOrder}

-- the nodes at one place of two orders
abbrev pub SamePlace : List ℕ → List ℕ → ℕ → ℕ → Type 0
SamePlace xs ys i j = (k : ℕ) × (slice_get xs k ≡ Some i) × (slice_get ys k ≡ Some j)

-- two graphs whose nodes are numbered by two orders read alike, number by number
pub record NumberedAlike (g h : Graph) (xs ys : List ℕ) : Type 0 where
  pub size : length xs ≡ length ys
  pub root : ValuesMatch (SamePlace xs ys) g.root h.root
  pub nodes : (k i j : ℕ) → slice_get xs k ≡ Some i → slice_get ys k ≡ Some j → NodesMatch (SamePlace xs ys) (node_at g i) (node_at h j)

pub record OrderDecides : Type 0 where
  pub some_order : (g : Graph) → IsWhole g → (xs : List ℕ) × IsOrder g xs
  pub one_order : (g : Graph) (xs ys : List ℕ) → IsOrder g xs → IsOrder g ys → xs ≡ ys
  pub decides : (g h : Graph) (xs ys : List ℕ) → IsOrder g xs → IsOrder h ys → Isomorphic g h ↔ NumberedAlike g h xs ys
