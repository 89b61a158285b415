use Rattle.amf_self_call_laws.proofs.Echo.{echo_comes_back}
use Rattle.amf_self_call_laws.proofs.laws.an_echo_comes_back.Goals as goal

pub returns : goal.returns
returns c = echo_comes_back
