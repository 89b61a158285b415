-- Worked facts of the shipped services and of the registry.
use Rattle.std.specs.Prelude.{◌≡◌, ℕ, true, List, [], ◌∷◌, codes, pos, negsuc}
use Rattle.amf_graph.specs.Graph.{Value, leaf, node, null, integer, double, Traits, array, object, Node, Graph}
use Rattle.amf_service.specs.Meaning.{result, fault, no_service, no_operation, given}
use Rattle.amf_service.specs.Registry.{called}
use Rattle.amf_service.specs.Shipped.{echoed, summed, named, texts_graph, wrong_arguments, too_large, shipped, echo_name, sum_name}

abbrev pub arguments : List Value → List Node → Graph
arguments vs more = record { nodes = record { head = array; names = []; values = vs } ∷ more; root = node 0 }

abbrev pub whole : ℕ → Value
whole n = leaf (integer (pos n))

abbrev pub double_graph : ℕ → Graph
double_graph p = record { nodes = []; root = leaf (double p) }

-- the traits of an object without a class
abbrev pub plain_traits : Traits
plain_traits = record { class = []; dynamic = true; sealed = [] }

-- the object with the members b and a
abbrev pub two_members : Node
two_members = record { head = object plain_traits; names = (codes "b", whole 1) ∷ (codes "a", whole 2) ∷ []; values = [] }

pub record ServiceRows : Type 0 where
  pub two_and_three : summed (arguments (whole 2 ∷ whole 3 ∷ []) []) ≡ result (double_graph 0x4014000000000000)
  pub past_the_largest : summed (arguments (leaf (double 0x433FFFFFFFFFFFFF) ∷ whole 1 ∷ []) []) ≡ fault too_large
  pub nothing : summed (arguments [] []) ≡ result (double_graph 0)
  pub below_zero : summed (arguments (whole 2 ∷ leaf (integer (negsuc 4)) ∷ []) []) ≡ result (double_graph 0xC008000000000000)
  pub no_number : summed (arguments (whole 2 ∷ leaf null ∷ []) []) ≡ fault wrong_arguments
  pub two_items : echoed (arguments (whole 2 ∷ whole 3 ∷ []) []) ≡ fault wrong_arguments
  pub one_item : echoed (arguments (whole 2 ∷ []) []) ≡ result (record { nodes = (arguments (whole 2 ∷ []) []).nodes; root = whole 2 })
  pub members : named (arguments (node 1 ∷ []) (two_members ∷ [])) ≡ result (texts_graph (codes "a" ∷ codes "b" ∷ []))
  pub nobody : called shipped (codes "nobody") (codes "op") (arguments [] []) ≡ no_service
  pub other : called shipped echo_name (codes "other") (arguments [] []) ≡ no_operation
  pub sum_called : called shipped sum_name sum_name (arguments (whole 2 ∷ whole 3 ∷ []) []) ≡ given (result (double_graph 0x4014000000000000))
