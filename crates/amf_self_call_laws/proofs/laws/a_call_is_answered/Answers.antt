use Rattle.amf_self_call_laws.proofs.Answered.{call_is_answered}
use Rattle.amf_self_call_laws.proofs.laws.a_call_is_answered.Goals as goal

pub returns : goal.returns
returns c = call_is_answered
