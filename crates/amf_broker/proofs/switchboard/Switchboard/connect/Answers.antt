-- A new client comes to the board of the moment.
use Rattle.std.proofs.Common.{refl, ap, sym, ◌∙◌}
use Rattle.amf_broker.specs.declared.reply.Reply.TheVariants.{Client}
use Rattle.amf_broker.specs.contracts.switchboard.Switchboard.{the_view}
use Rattle.amf_broker.proofs.Advances.{connect-state, connect-sound, next-client}
use Rattle.amf_broker.proofs.switchboard.Switchboard.connect.Goals as goal

pub connect-requires-clause-room : goal.connect-requires-clause-room
connect-requires-clause-room c = rw (← c.self.view_is) at c.requires.room

pub invariant_of-self-2 : goal.invariant_of-self-2
invariant_of-self-2 c =
    let few = rw (← c.self.view_is) at c.requires.few in
    rw (c.in_ok-id.ensures.ok, c.deref.ensures.value) (connect-sound c.args.moment.now.present c.args.moment.now.expired.items _ _ _ refl refl _ refl c.self.invariant few)

pub returns-clause-reply : goal.returns-clause-reply
returns-clause-reply c = rw (← c.self.view_is) (ap Client (c.in_ok-id.ensures.id ∙ sym (next-client c.args.moment.now.present c.args.moment.now.expired.items (the_view c.self.inside))))

pub returns-clause-state : goal.returns-clause-state
returns-clause-state c = rw (← c.self.view_is, c.in_ok-id.ensures.ok, c.deref.ensures.value) (connect-state c.args.moment.now.present c.args.moment.now.expired.items (the_view c.self.inside) _ _ refl refl _ refl)
