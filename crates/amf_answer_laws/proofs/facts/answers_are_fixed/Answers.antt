use Rattle.flex_msgs.proofs.GraphsAlike.{answers_match}
use Rattle.amf_answer_laws.proofs.Fixed.{answers_fixed, begun_beginning}
use Rattle.amf_answer_laws.proofs.Known.{known}
use Rattle.amf_answer_laws.proofs.facts.answers_are_fixed.Goals as goal

pub returns-clause-fixed : goal.returns-clause-fixed
returns-clause-fixed c = answers_fixed known answers_match

pub returns-clause-begun : goal.returns-clause-begun
returns-clause-begun c = begun_beginning known answers_match
