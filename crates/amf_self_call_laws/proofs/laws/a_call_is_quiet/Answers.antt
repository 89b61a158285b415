use Rattle.amf_self_call_laws.proofs.Quiets.{call_is_quiet}
use Rattle.amf_self_call_laws.proofs.laws.a_call_is_quiet.Goals as goal

pub returns : goal.returns
returns c = call_is_quiet
