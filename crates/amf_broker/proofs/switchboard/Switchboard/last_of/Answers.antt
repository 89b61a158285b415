-- The number is that of the client, which stays.
use Rattle.std.proofs.Common.{◌∙◌}
use Rattle.amf_broker.specs.contracts.switchboard.Switchboard.{the_view}
use Rattle.amf_broker.proofs.Advances.{last-here}
use Rattle.amf_broker.proofs.switchboard.Switchboard.last_of.Goals as goal

pub returns : goal.returns
returns c =
    let here = rw (← c.self.view_is) at c.requires in
    rw (← c.self.view_is) (c.last_of.ensures ∙ last-here c.args.moment.now.present c.args.moment.now.expired.items (the_view c.self.inside) c.args.client here)
