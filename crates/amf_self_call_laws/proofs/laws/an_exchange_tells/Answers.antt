use Rattle.amf_self_call_laws.proofs.Exchanges.{exchange_holds}
use Rattle.amf_self_call_laws.proofs.laws.an_exchange_tells.Goals as goal

pub returns : goal.returns
returns c = exchange_holds
