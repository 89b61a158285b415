-- The close tells of the broker in its hand.
use Rattle.std.proofs.Common.{subst, refl}
use Rattle.amf_desk.specs.declared.closed.Closed.{Closed}
use Rattle.amf_desk.specs.Passes.{Held, ClosedAs}
use Rattle.amf_desk.proofs.Turns.{closed_as}
use Rattle.amf_desk.proofs.desk.Desk.close.Goals as goal

pub returns : goal.returns
returns g c =
    let told : Closed = record { calls = c.calls.result; published = c.enter-counted.result.published; delivered = c.enter-counted.result.delivered; queued = c.queued.result } in
    subst (λ (p : Held). ClosedAs p told) c.pass.view_is (closed_as c.pass.inside.seat.table_id c.pass.inside.seat.me.0 _ c.enter-counted.result told c.enter-counted.ensures.entered c.calls.ensures refl refl c.queued.ensures)
