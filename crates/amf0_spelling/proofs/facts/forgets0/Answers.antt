use Rattle.amf0_spelling.proofs.Forget0 as law
use Rattle.amf0_spelling.proofs.facts.forgets0.Goals as goal

pub returns : goal.returns
returns c = law.forget0
