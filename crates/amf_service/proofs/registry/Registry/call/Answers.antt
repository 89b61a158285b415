-- The service of the name answers.
use Rattle.std.proofs.Common.{◌≡◌, Bool, List, ℕ, Some, Err, ap, sym, subst}
use Rattle.std.specs.Prelude.{bytes_eq}
use Rattle.amf_graph.specs.Rooted.{content}
use Rattle.amf_service.specs.Registry.{AnswersCall}
use Rattle.amf_service.proofs.Calling.{called_at, called_none}
use Rattle.amf_service.proofs.registry.Registry.call.Goals as goal

pub returns-in-Some-clause-answer : goal.returns-in-Some-clause-answer
returns-in-Some-clause-answer g c =
    subst (λ z. AnswersCall z c.answered.result)
    (sym (called_at (λ k. k.items) (λ b. record { knows = (goal.Service-dyn g (b.vtable, b.value)).knows b.value; gives = (goal.Service-dyn g (b.vtable, b.value)).gives b.value })
    (λ k. bytes_eq c.as_bytes.result.now k.items) c.args.service.now c.args.operation.now (content c.args.args.now) (λ k. ap (λ z. bytes_eq z k.items) c.as_bytes.ensures) c.args.self.now.services.entries c.in-Some.found.now (sym c.in-Some.ensures.value)))
    c.answered.ensures.answer

pub returns-in-None-clause-answer : goal.returns-in-None-clause-answer
returns-in-None-clause-answer g c =
    called_none (λ k. k.items) (λ b. record { knows = (goal.Service-dyn g (b.vtable, b.value)).knows b.value; gives = (goal.Service-dyn g (b.vtable, b.value)).gives b.value })
    (λ k. bytes_eq c.as_bytes.result.now k.items) c.args.service.now c.args.operation.now (content c.args.args.now) (λ k. ap (λ z. bytes_eq z k.items) c.as_bytes.ensures) c.args.self.now.services.entries (sym c.in-None.ensures.value)
