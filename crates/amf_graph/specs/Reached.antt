-- The nodes to which the root leads.
use Rattle.std.specs.Prelude.{◌≡◌, ℕ, ◌<◌, ◌⊎◌, List, length, slice_get, Some}
use Rattle.amf_graph.specs.Graph.{Value, node, Node, Graph, node_at, AllNamed, IsValue, HasTexts, Fits}

-- the node holds the value
abbrev pub Holds : Node → Value → Type 0
Holds a v = ((k : ℕ) × (slice_get a.values k ≡ Some v)) ⊎ ((k : ℕ) × (x : List ℕ) × (slice_get a.names k ≡ Some (x, v)))

pub data Reached (g : Graph) : ℕ → Type 0 where
  at_root : {i : ℕ} → g.root ≡ node i → Reached g i
  inside : {i : ℕ} (j : ℕ) → Reached g j → Holds (node_at g j) (node i) → Reached g i

-- the root, or a value of a node that is reached
abbrev pub IsReachedValue : Graph → Value → Type 0
IsReachedValue g v = (g.root ≡ v) ⊎ ((j : ℕ) × Reached g j × Holds (node_at g j) v)

-- what is reached is there, and is as its kind wants it
pub record IsWhole (g : Graph) : Type 0 where
  pub there : (i : ℕ) → Reached g i → i < length g.nodes
  pub values : (v : Value) → IsReachedValue g v → IsValue v
  pub texts : (i : ℕ) → Reached g i → HasTexts (node_at g i)
  pub fits : (i : ℕ) → Reached g i → Fits (node_at g i).head (node_at g i).names (node_at g i).values

-- no reached node has an empty dynamic or associative name
abbrev pub IsNamed : Graph → Type 0
IsNamed g = (i : ℕ) → Reached g i → AllNamed (node_at g i).names
