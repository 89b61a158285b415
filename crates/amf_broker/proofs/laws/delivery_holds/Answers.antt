-- The law of delivery.
use Rattle.amf_broker.proofs.Law.{delivered}
use Rattle.amf_broker.proofs.laws.delivery_holds.Goals as goal

pub returns : goal.returns
returns c = delivered
