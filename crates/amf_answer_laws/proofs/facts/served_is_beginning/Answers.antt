use Rattle.flex_msgs.proofs.GraphsAlike.{answers_match}
use Rattle.amf_answer_laws.proofs.Fixed.{begun_beginning}
use Rattle.amf_answer_laws.proofs.Known.{known}
use Rattle.amf_answer_laws.proofs.ServedBegins.{served_is_beginning}
use Rattle.amf_answer_laws.proofs.facts.served_is_beginning.Goals as goal

pub returns : goal.returns
returns c = served_is_beginning (begun_beginning known answers_match)
