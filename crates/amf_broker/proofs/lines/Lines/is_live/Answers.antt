-- The live places are the subscriptions.
use Rattle.std.proofs.Common.{◌∙◌}
use Rattle.amf_broker.specs.Slots.{standing}
use Rattle.amf_broker.proofs.Raises.{any-live}
use Rattle.amf_broker.proofs.lines.Lines.is_live.Goals as goal

pub returns : goal.returns
returns c = rw (← c.self.view_is) (c.is_live.ensures ∙ any-live c.self.inside.next_message c.args.sub c.args.client (standing c.self.inside.places))
