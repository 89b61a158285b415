-- Where the services that are left obey the law, all do.
use Rattle.std.proofs.Common.{List, map}
use Rattle.std.specs.List.{AllByRecursion}
use Rattle.amf_service.specs.Meaning.{IsLawful}
use Rattle.amf_service.specs.Registry.{Entry}
use Rattle.amf_service.proofs.registry.Registry.are_lawful.Given as goal

abbrev pub invariant-loop-service : goal.invariant-loop-service
invariant-loop-service g l =
    let means : List Entry = map (λ e. record { name = e.0.items; means = record { knows = (goal.Service-dyn g (e.1.vtable, e.1.value)).knows e.1.value; gives = (goal.Service-dyn g (e.1.vtable, e.1.value)).gives e.1.value } }) l.fn.self.services.entries in
    AllByRecursion (λ b. IsLawful ((goal.Service-dyn g (b.vtable, b.value)).gives b.value)) l.service-iterator → AllByRecursion (λ e. IsLawful e.means.gives) means
