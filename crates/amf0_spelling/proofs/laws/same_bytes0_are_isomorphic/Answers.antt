use Rattle.amf0_spelling.proofs.Decides0 as law
use Rattle.amf0_spelling.proofs.laws.same_bytes0_are_isomorphic.Goals as goal

pub returns : goal.returns
returns c = law.same_bytes_isomorphic0
