-- The client is connected where it has a place.
use Rattle.std.proofs.Common.{◌∙◌, ap}
use Rattle.std.specs.Prelude.{is_some, map}
use Rattle.amf_broker.specs.Members.{logs_of, raised}
use Rattle.amf_broker.specs.Slots.{standing}
use Rattle.amf_broker.proofs.Waiters.{connected-place}
use Rattle.amf_broker.proofs.lines.Lines.has_client.Goals as goal

pub place_in_order-requires : goal.place_in_order-requires
place_in_order-requires c = rw c.deref.ensures.value c.self.invariant.kept.rise

pub returns : goal.returns
returns c =
    let place = rw c.deref.ensures.value at c.place_in_order.ensures.place in
    rw (← c.self.view_is) (c.is_some.ensures ∙ (ap is_some place ∙ connected-place (logs_of c.self.inside.logs) (map (raised c.self.inside.next_message) (standing c.self.inside.places)) c.args.client c.self.inside.clients.items))
