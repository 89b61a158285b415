-- The values of pairs in by-name order. A device of proofs.
use Rattle.std.specs.Prelude.{◌≡◌, List, ◌++◌, map}
use Rattle.amf_graph.specs.declared.value.Value.{Value as Stored}
use Rattle.amf_graph.specs.declared.value.TextId.{TextId}
use Rattle.amf_graph.specs.ByName.{by_name}
use Rattle.amf_graph.specs.Arena.{Arena}
use Rattle.amf_iso.specs.Contents.{pairs_of, ArePairs}

-- behind what was there stand the values of these pairs, in by-name order
pub record AreBehind (a : Arena) (pairs : List (TextId × Stored)) (old new : List Stored) : Type 0 where
  pub sorted : List (TextId × Stored)
  pub items : new ≡ old ++ map (λ p. p.1) sorted
  pub content : pairs_of a sorted ≡ by_name (pairs_of a pairs)
  pub names : ArePairs a sorted
