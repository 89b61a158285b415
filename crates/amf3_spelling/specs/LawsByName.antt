-- By-name order is what a stable sort gives.
use Rattle.std.specs.Prelude.{◌≡◌, ℕ, List}
use Rattle.std.specs.List.Sorted.{IsSortedBy, IsStableBy}
use Rattle.amf_graph.specs.Graph.{Value}
use Rattle.amf_graph.specs.ByName.{before, by_name}

-- what is sorted by name and keeps the order of equal names is by_name, and by_name is in order already
pub record SortIsByName : Type 0 where
  pub sorted : (ps qs : List (List ℕ × Value)) → IsSortedBy before qs → IsStableBy before ps qs → qs ≡ by_name ps
  pub again : (ps : List (List ℕ × Value)) → by_name (by_name ps) ≡ by_name ps
