-- The law of the service of the name, and of none.
use Rattle.std.proofs.Common.{ap, sym}
use Rattle.std.specs.Prelude.{bytes_eq}
use Rattle.amf_service.proofs.Calling.{alike_at, alike_none}
use Rattle.amf_service.proofs.registry.Registry.is_lawful.Goals as goal

pub returns-in-Some : goal.returns-in-Some
returns-in-Some g c =
    alike_at (λ k. k.items) (λ b. record { knows = (goal.Service-dyn g (b.vtable, b.value)).knows b.value; gives = (goal.Service-dyn g (b.vtable, b.value)).gives b.value })
    (λ k. bytes_eq c.as_bytes.result.now k.items) c.args.name.now (λ k. ap (λ z. bytes_eq z k.items) c.as_bytes.ensures) c.args.self.now.services.entries c.in-Some.found.now (sym c.in-Some.ensures.value) c.obeys_the_law.ensures

pub returns-in-None : goal.returns-in-None
returns-in-None g c =
    alike_none (λ k. k.items) (λ b. record { knows = (goal.Service-dyn g (b.vtable, b.value)).knows b.value; gives = (goal.Service-dyn g (b.vtable, b.value)).gives b.value })
    (λ k. bytes_eq c.as_bytes.result.now k.items) c.args.name.now (λ k. ap (λ z. bytes_eq z k.items) c.as_bytes.ensures) c.args.self.now.services.entries (sym c.in-None.ensures.value)
