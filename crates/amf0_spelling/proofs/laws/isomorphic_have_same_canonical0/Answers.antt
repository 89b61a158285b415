use Rattle.amf0_spelling.proofs.Decides0 as law
use Rattle.amf0_spelling.proofs.laws.isomorphic_have_same_canonical0.Goals as goal

pub returns : goal.returns
returns c = law.same_canonical0
