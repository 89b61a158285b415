use Rattle.amf_self_call_laws.proofs.Rounds.{round_holds}
use Rattle.amf_self_call_laws.proofs.laws.a_call_comes_back.Goals as goal

pub returns : goal.returns
returns c = round_holds
