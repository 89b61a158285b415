use Rattle.amf0_spelling.proofs.LackTwice0 as law
use Rattle.amf0_spelling.proofs.laws.met_again_is_twice.Goals as goal

pub returns : goal.returns
returns c = law.met_again_is_twice
