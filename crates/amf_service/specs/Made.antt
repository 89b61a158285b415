-- A device of proofs. What the functions below the services make: sums and lists of texts.
use Rattle.std.specs.Prelude.{◌≡◌, ℕ, ℤ, List, map, Option, None, Some}
use Rattle.std.specs.List.{AllByRecursion}
use Rattle.amf_graph.specs.declared.value.TextId.{TextId}
use Rattle.amf_graph.specs.Graph.{Value}
use Rattle.amf_graph.specs.Arena.{Arena, IsTextId, text_at}
use Rattle.amf_service.specs.Shipped.{total_of}

abbrev pub texts_of : Arena → List TextId → List (List ℕ)
texts_of a ts = map (λ t. text_at a t.0) ts

abbrev pub AreTextsOf : Arena → List TextId → Type 0
AreTextsOf a ts = AllByRecursion (λ t. IsTextId a t.0) ts

-- the sum of items, if they are numbers
abbrev pub totalled : Option (List Value) → Option ℤ
totalled None = None
totalled (Some vs) = total_of vs
