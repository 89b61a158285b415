-- The live places are the subscriptions.
use Rattle.std.proofs.Common.{◌∙◌}
use Rattle.amf_broker.specs.Slots.{standing}
use Rattle.amf_broker.proofs.Raises.{count-live}
use Rattle.amf_broker.proofs.lines.Lines.live_of.Goals as goal

pub returns : goal.returns
returns c = rw (← c.self.view_is) (c.live_of.ensures ∙ count-live c.self.inside.next_message c.args.client (standing c.self.inside.places))
