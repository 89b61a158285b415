-- Isomorphic graphs have the same canonical spelling.
use Rattle.amf3_spelling.proofs.Decides3.{same_canonical}
use Rattle.amf3_spelling.proofs.laws.isomorphic_have_same_canonical.Goals as goal

pub returns : goal.returns
returns c = same_canonical
