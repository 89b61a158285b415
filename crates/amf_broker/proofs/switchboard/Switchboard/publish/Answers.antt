-- The message comes to the subscriptions of the board of the moment.
use Rattle.std.proofs.Common.{refl}
use Rattle.amf_broker.specs.contracts.switchboard.Switchboard.{the_view}
use Rattle.amf_broker.proofs.Sounds.{sound-advanced, sound-published}
use Rattle.amf_broker.proofs.Leavers.{advanced-is}
use Rattle.amf_broker.proofs.switchboard.Switchboard.publish.Goals as goal

pub publish-requires-clause-number : goal.publish-requires-clause-number
publish-requires-clause-number c = rw (← c.self.view_is) at c.requires

pub publish-requires-clause-places : goal.publish-requires-clause-places
publish-requires-clause-places c k = rw c.deref.ensures.value (rw (advanced-is c.args.moment.now.present c.args.moment.now.expired.items (the_view c.self.inside)) at ((sound-advanced c.args.moment.now.present c.args.moment.now.expired.items (the_view c.self.inside) c.self.invariant).places k))

pub publish-requires-clause-ordered : goal.publish-requires-clause-ordered
publish-requires-clause-ordered c = rw c.deref.ensures.value (rw (advanced-is c.args.moment.now.present c.args.moment.now.expired.items (the_view c.self.inside)) at (sound-advanced c.args.moment.now.present c.args.moment.now.expired.items (the_view c.self.inside) c.self.invariant).subs_ordered)

pub invariant_of-self-2 : goal.invariant_of-self-2
invariant_of-self-2 c =
    let sound = sound-published _ c.args.topic c.args.message (sound-advanced c.args.moment.now.present c.args.moment.now.expired.items (the_view c.self.inside) c.self.invariant) in
    rw (c.in_ok-ended.ensures.ok, c.deref.ensures.value) (rw (advanced-is c.args.moment.now.present c.args.moment.now.expired.items (the_view c.self.inside)) at sound)

pub returns-clause-reply : goal.returns-clause-reply
returns-clause-reply c = rw (← c.self.view_is, advanced-is c.args.moment.now.present c.args.moment.now.expired.items (the_view c.self.inside), c.of_vec.ensures, c.in_ok-ended.ensures.ended, c.deref.ensures.value, c.next_message-number.ensures) refl

pub returns-clause-state : goal.returns-clause-state
returns-clause-state c = rw (← c.self.view_is, advanced-is c.args.moment.now.present c.args.moment.now.expired.items (the_view c.self.inside), c.in_ok-ended.ensures.ok, c.deref.ensures.value) refl
