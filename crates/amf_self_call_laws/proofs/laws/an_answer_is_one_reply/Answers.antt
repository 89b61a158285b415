use Rattle.amf_self_call_laws.proofs.Read.{answer_begins, answer_refused, answer_too_large}
use Rattle.amf_self_call_laws.proofs.laws.an_answer_is_one_reply.Goals as goal

pub returns : goal.returns
returns c = record { short = answer_begins; long = answer_refused; too_large = answer_too_large }
