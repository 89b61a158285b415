-- What has to be there for values to be replaced by others. A device of proofs.
use Rattle.std.specs.Prelude.{◌≡◌, ◌<◌, List, length, get_or}
use Rattle.std.specs.List.{AllByRecursion}
use Rattle.amf_wire.specs.Integer.{IsInteger}
use Rattle.amf_graph.specs.declared.value.Value.{Value as Stored}
use Rattle.amf_graph.specs.declared.value.Value.TheVariants.{Integer, Node as NodeRef}
use Rattle.amf_graph.specs.Arena.{StoredTraits, no_traits, StoredHead, object, StoredNode}

abbrev pub HasStandIn : List Stored → Stored → Type 0
HasStandIn ins (Integer n) = IsInteger n
HasStandIn ins (NodeRef n) = n.0 < length ins
HasStandIn ins v = Unit {0}

-- an object has a class, and a value for each sealed name
abbrev pub HasSealed : List StoredTraits → StoredHead → List Stored → Type 0
HasSealed ts (object t) vs = (t < length ts) × (length vs ≡ length (get_or ts t no_traits).sealed)
HasSealed ts h vs = Unit {0}

pub record NodeHasStandIns (ts : List StoredTraits) (ins : List Stored) (n : StoredNode) : Type 0 where
  pub sealed : HasSealed ts n.head n.values
  pub names : AllByRecursion (λ p. HasStandIn ins p.1) n.names
  pub values : AllByRecursion (HasStandIn ins) n.values
