-- Those that stay are counted.
use Rattle.std.proofs.Common.{◌∙◌, sym, ap, length}
use Rattle.amf_broker.specs.contracts.switchboard.Switchboard.{the_view}
use Rattle.amf_broker.proofs.Leavers.{length-left}
use Rattle.amf_broker.proofs.Advances.{clients-at}
use Rattle.amf_broker.proofs.switchboard.Switchboard.staying.Goals as goal

pub returns : goal.returns
returns c = rw (← c.self.view_is) (rw c.deref.ensures.value at c.staying.ensures ∙ (length-left c.args.moment.now.expired.items c.self.inside.lines.clients ∙ sym (ap length (clients-at c.args.moment.now.present c.args.moment.now.expired.items (the_view c.self.inside)))))
