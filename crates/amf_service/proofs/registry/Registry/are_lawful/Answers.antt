-- Each service obeys the law.
use Rattle.std.proofs.Common.{sym, subst, ◌∙◌}
use Rattle.std.specs.List.{AllByRecursion}
use Rattle.amf_service.specs.Meaning.{IsLawful}
use Rattle.amf_service.proofs.Calling.{all_meant}
use Rattle.amf_service.proofs.registry.Registry.are_lawful.Goals as goal

pub loop-service-init : goal.loop-service-init
loop-service-init g c = λ a.
    all_meant (λ k. k.items) (λ b. record { knows = (goal.Service-dyn g (b.vtable, b.value)).knows b.value; gives = (goal.Service-dyn g (b.vtable, b.value)).gives b.value })
    c.args.self.now.services.entries (subst (AllByRecursion (λ b. IsLawful ((goal.Service-dyn g (b.vtable, b.value)).gives b.value))) (c.into_iter-service-iterator.ensures.into_iter_gives ∙ c.values-service-items.ensures.rest) a)

pub loop-service-preserved : goal.loop-service-preserved
loop-service-preserved g c = λ a.
    c.loop-service.invariant (subst (AllByRecursion (λ b. IsLawful ((goal.Service-dyn g (b.vtable, b.value)).gives b.value))) (sym c.in-Some.ensures.steps) (c.obeys_the_law.ensures, a))

pub returns : goal.returns
returns g c = c.loop-service.invariant (subst (AllByRecursion (λ b. IsLawful ((goal.Service-dyn g (b.vtable, b.value)).gives b.value))) (sym c.in-None.ensures.steps.0) tt)
