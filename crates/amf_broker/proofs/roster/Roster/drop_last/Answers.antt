-- The last slot is kept no more.
use Rattle.std.proofs.Common.{◌≡◌, ◌+◌, ◌-◌, ◌∙◌, length, refl, arith}
use Rattle.amf_broker.proofs.Slots.{found-dropped, kept-last}
use Rattle.amf_broker.proofs.Among.{among-dropped}
use Rattle.amf_broker.proofs.roster.Roster.drop_last.Goals as goal

pub invariant_of-self : goal.invariant_of-self
invariant_of-self c = (
  λ k. found-dropped k _ c.self.inside.slots.items (c.len-count.result - 1) _ refl (c.self.invariant.0 k),
  λ t. among-dropped t _ c.self.inside.slots.items (c.len-count.result - 1) _ refl (c.self.invariant.1 t),
)

pub returns-then-count-gt0 : goal.returns-then-count-gt0
returns-then-count-gt0 c =
    let all = c.len-count.ensures ∙ c.self.inside.slots.ok.0 in
    let some = c.if-count-gt0.true in
    let last : c.len-count.result - 1 + 1 ≡ length c.self.inside.slots.items = omega (arith, all, some) in
    rw (← c.self.view_is) (λ ss s is. kept-last ss s c.self.inside.slots.items (c.len-count.result - 1) _ is last refl)
