-- A new subscription comes to the board of the moment.
use Rattle.std.proofs.Common.{refl, ap, sym}
use Rattle.amf_broker.specs.declared.reply.Reply.TheVariants.{Subscribed}
use Rattle.amf_broker.specs.contracts.switchboard.Switchboard.{the_view}
use Rattle.amf_broker.proofs.Advances.{subscribe-state, subscribe-sound, next-sub, clients-at}
use Rattle.amf_broker.proofs.switchboard.Switchboard.subscribe.Goals as goal

pub subscribe-requires-clause-connected : goal.subscribe-requires-clause-connected
subscribe-requires-clause-connected c =
    let here = rw (← c.self.view_is) at c.requires.connected in
    rw c.deref.ensures.value (rw (clients-at c.args.moment.now.present c.args.moment.now.expired.items (the_view c.self.inside)) at here)

pub invariant_of-self-2 : goal.invariant_of-self-2
invariant_of-self-2 c =
    let few = rw (← c.self.view_is) at c.requires.few in
    rw (c.in_ok-subscribe.ensures.ok, c.deref.ensures.value) (subscribe-sound c.args.moment.now.present c.args.moment.now.expired.items _ _ _ refl refl c.args.client c.args.topic _ refl c.self.invariant few)

pub returns-clause-reply : goal.returns-clause-reply
returns-clause-reply c = rw (← c.self.view_is) (ap Subscribed (sym (next-sub c.args.moment.now.present c.args.moment.now.expired.items (the_view c.self.inside))))

pub returns-clause-state : goal.returns-clause-state
returns-clause-state c = rw (← c.self.view_is, c.in_ok-subscribe.ensures.ok, c.deref.ensures.value) (subscribe-state c.args.moment.now.present c.args.moment.now.expired.items (the_view c.self.inside) _ _ refl refl c.args.client c.args.topic _ refl)
