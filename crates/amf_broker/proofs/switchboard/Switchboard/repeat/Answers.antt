-- The kept batch is handed out once more.
use Rattle.std.proofs.Common.{◌∙◌}
use Rattle.amf_broker.specs.contracts.switchboard.Switchboard.{the_view}
use Rattle.amf_broker.proofs.Advances.{connected-before, kept-here, kept_ended-here}
use Rattle.amf_broker.proofs.switchboard.Switchboard.repeat.Goals as goal

pub kept_of-requires : goal.kept_of-requires
kept_of-requires c = connected-before c.args.moment.now.present c.args.moment.now.expired.items (the_view c.self.inside) c.args.client (rw (← c.self.view_is) at c.requires)

pub kept_ended_of-requires : goal.kept_ended_of-requires
kept_ended_of-requires c = connected-before c.args.moment.now.present c.args.moment.now.expired.items (the_view c.self.inside) c.args.client (rw (← c.self.view_is) at c.requires)

pub returns-clause-reply : goal.returns-clause-reply
returns-clause-reply c =
    let here = rw (← c.self.view_is) at c.requires in
    let queue = c.in_ok-deliveries.ensures ∙ kept-here c.args.moment.now.present c.args.moment.now.expired.items (the_view c.self.inside) c.args.client here in
    let told = c.in_ok-ended.ensures ∙ kept_ended-here c.args.moment.now.present c.args.moment.now.expired.items (the_view c.self.inside) c.args.client here in
    rw (← c.self.view_is, queue, told)
