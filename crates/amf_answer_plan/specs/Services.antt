-- The services of a registry, as definitions take them.
use Rattle.std.specs.Prelude.{ℕ, Bool, List}
use Rattle.amf_graph.specs.Graph.{Graph}
use Rattle.amf_service.specs.Meaning.{Given}
use Rattle.amf_service.specs.declared.registry.Registry.{Registry}
use Rattle.amf_service.specs.Registry.{Entry}
pub use Rattle.amf_service.specs.Registry.{services_by}

-- the services of a registry, by what the boxes in it know and give
abbrev pub services_of : {X : Type 0} {V : X → Type 0} → Registry X V → ((v : X) × V v → List ℕ → Bool) → ((v : X) × V v → List ℕ → Graph → Given) → List Entry
services_of r knows gives = services_by r.services.entries (λ x. x.items) (λ s. knows (s.vtable, s.value)) (λ s. gives (s.vtable, s.value))
