-- The board is that of the moment.
use Rattle.std.proofs.Common.{refl}
use Rattle.amf_broker.specs.contracts.switchboard.Switchboard.{the_view}
use Rattle.amf_broker.proofs.Advances.{advance-state, advance-sound}
use Rattle.amf_broker.proofs.switchboard.Switchboard.advance.Goals as goal

pub invariant_of-self : goal.invariant_of-self
invariant_of-self c = rw (c.leave.ensures, c.deref.ensures.value) (advance-sound c.args.moment.now.present c.args.moment.now.expired.items _ _ _ refl refl c.self.invariant)

pub returns : goal.returns
returns c = rw (← c.self.view_is, c.leave.ensures, c.deref.ensures.value) (advance-state c.args.moment.now.present c.args.moment.now.expired.items (the_view c.self.inside) _ _ refl refl)
