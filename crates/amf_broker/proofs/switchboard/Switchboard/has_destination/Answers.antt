-- The destinations stay as they are.
use Rattle.std.proofs.Common.{◌∙◌, sym, ap}
use Rattle.std.specs.Prelude.{bytes_eq}
use Rattle.std.specs.List.{list_any}
use Rattle.amf_broker.specs.contracts.switchboard.Switchboard.{the_view}
use Rattle.amf_broker.proofs.Advances.{destinations-at}
use Rattle.amf_broker.proofs.switchboard.Switchboard.has_destination.Goals as goal

pub returns : goal.returns
returns c =
    let any = rw c.deref.ensures.value at c.is_listed.ensures in
    rw (← c.self.view_is) (any ∙ sym (ap (list_any (bytes_eq c.args.destination.now)) (destinations-at c.args.moment.now.present c.args.moment.now.expired.items (the_view c.self.inside))))
