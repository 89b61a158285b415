-- What is told is meant.
use Rattle.amf_text.proofs.ToldNodes.{told_meant}
use Rattle.amf_text.proofs.facts.told_meant.Goals as goal

pub returns : goal.returns
returns c = told_meant
