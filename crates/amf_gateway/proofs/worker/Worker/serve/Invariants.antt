use Rattle.std.proofs.Common.{◌≡◌, ◌-◌, ◌<◌, false}
use Rattle.amf_gateway.specs.Handed.{CountsCalls}
use Rattle.amf_answer_plan.specs.Services.{services_by}
use Rattle.amf_gateway.specs.Tells.{of_hall}
use Rattle.amf_gateway.proofs.SoFar.{SoFar}
use Rattle.amf_gateway.proofs.worker.Worker.serve.Given as goal

abbrev pub invariant-loop : goal.invariant-loop
invariant-loop g l =
    (SoFar (of_hall g.H.Hall g.H.Clock g.H.Dice) g.H.Link.Link (services_by l.registry.services.entries (λ x. x.items) (λ s. (goal.Service-dyn g (s.vtable, s.value)).knows s.value) (λ s. (goal.Service-dyn g (s.vtable, s.value)).gives s.value)) l.counter l.initial.self.pass l.self.pass l.initial.self.hall l.self.hall l.starved)
    × CountsCalls l.counter l.initial.self.calls l.self.calls (l.initial.self.pass.budget - l.self.pass.budget)
    × (l.self.number ≡ l.initial.self.number) × (l.self.keys ≡ l.initial.self.keys)
    × (l.starved ≡ false → 0 < l.self.pass.budget → CountsCalls 0 l.initial.self.calls l.self.calls (l.initial.self.pass.budget - l.self.pass.budget))
    × (g.H.Hall.is_out l.self.hall ≡ false)
