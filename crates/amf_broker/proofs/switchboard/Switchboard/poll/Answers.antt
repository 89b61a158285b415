-- What waits for the client is handed out.
use Rattle.std.proofs.Common.{◌∙◌}
use Rattle.amf_broker.specs.contracts.switchboard.Switchboard.{the_view}
use Rattle.amf_broker.proofs.Advances.{connected-before, queue-here}
use Rattle.amf_broker.proofs.switchboard.Switchboard.poll.Goals as goal

pub queue_of-requires : goal.queue_of-requires
queue_of-requires c = connected-before c.args.moment.now.present c.args.moment.now.expired.items (the_view c.self.inside) c.args.client (rw (← c.self.view_is) at c.requires)

pub empty-ended-requires : goal.empty-ended-requires
empty-ended-requires c = rw (c.advance.ensures, ← c.self.view_is) (rw (← c.self.view_is) at c.requires)

pub returns-clause-reply : goal.returns-clause-reply
returns-clause-reply c =
    let here = rw (← c.self.view_is) at c.requires in
    let queue = c.in_ok-deliveries.ensures ∙ queue-here c.args.moment.now.present c.args.moment.now.expired.items (the_view c.self.inside) c.args.client here in
    rw (c.empty-ended.ensures.ended, c.advance.ensures, ← c.self.view_is, queue)

pub returns-clause-state : goal.returns-clause-state
returns-clause-state c = rw (c.empty-ended.ensures.state, c.advance.ensures, ← c.self.view_is)
