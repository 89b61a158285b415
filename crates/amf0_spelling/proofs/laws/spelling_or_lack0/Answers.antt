use Rattle.amf0_spelling.proofs.LackTwice0 as law
use Rattle.amf0_spelling.proofs.laws.spelling_or_lack0.Goals as goal

pub returns : goal.returns
returns c = law.spelling_or_lack0
