use Rattle.amf0_spelling.proofs.Clean0 as law
use Rattle.amf0_spelling.proofs.facts.fields_agree0.Goals as goal

pub returns : goal.returns
returns c = law.clean0
