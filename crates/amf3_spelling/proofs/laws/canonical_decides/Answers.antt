-- Canonical bytes decide isomorphism.
use Rattle.amf3_spelling.proofs.Decides3.{canonical_decides}
use Rattle.amf3_spelling.proofs.laws.canonical_decides.Goals as goal

pub returns : goal.returns
returns c = canonical_decides
