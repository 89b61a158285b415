-- The moment of a call, and who expires at it.
use Rattle.std.proofs.Common.{◌≡◌, ◌∙◌, true, false, refl, sym}
use Rattle.amf_broker.specs.State.{Connection}
use Rattle.amf_broker.specs.Machine.{later, is_idle}
use Rattle.amf_broker.specs.Sound.{are_in_order}
use Rattle.amf_broker.proofs.Advances.{none-idle, some-idle}
use Rattle.amf_broker.proofs.Orders.{part-in-order}
use Rattle.amf_broker.proofs.switchboard.Switchboard.moment.Goals as goal
use Rattle.amf_broker.proofs.switchboard.Switchboard.moment.Goals.{then-has_idle+in_ok-expired, else-has_idle}

pub returns-in_err-expired-clause-nobody : goal.returns-in_err-expired-clause-nobody
returns-in_err-expired-clause-nobody c none =
    let any = sym (rw c.later_of-present.ensures at c.has_idle.ensures) ∙ c.if-has_idle.true in
    let some = some-idle (later c.self.inside.moment c.args.moment) c.self.inside.lines.clients any in
    let here = rw (← c.self.view_is) at none in
    let never : true ≡ false = sym here ∙ some in
    absurd (cc)

pub returns-clause-expired : goal.returns-clause-expired
returns-clause-expired c = elim c.if-has_idle.branch [
  | then-has_idle+in_ok-expired w ↦ rw (← c.self.view_is, w.expired-is) (w.in_ok-expired.ensures ∙ rw c.later_of-present.ensures refl)
  | else-has_idle w ↦
      let any = sym (rw c.later_of-present.ensures at c.has_idle.ensures) ∙ w.if-has_idle.false in
      rw (← c.self.view_is, w.expired-is) (w.new-expired.ensures.items ∙ sym (none-idle (later c.self.inside.moment c.args.moment) c.self.inside.lines.clients any))
]

pub invariant_of-result : goal.invariant_of-result
invariant_of-result c =
    let ordered : are_in_order c.if-has_idle.expired.items ≡ true = elim c.if-has_idle.branch [
      | then-has_idle+in_ok-expired w ↦ rw (w.expired-is, w.in_ok-expired.ensures) (part-in-order (λ (c : Connection). c.id) (is_idle c.later_of-present.result) c.self.inside.lines.clients c.self.invariant.ordered)
      | else-has_idle w ↦ rw (w.expired-is, w.new-expired.ensures.items) refl
    ] in
    record { ordered = ordered }

pub has_idle-requires : goal.has_idle-requires
has_idle-requires c = let here = rw (← c.self.view_is) at c.requires in here
