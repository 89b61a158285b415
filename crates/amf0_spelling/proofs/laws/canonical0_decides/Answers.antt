use Rattle.amf0_spelling.proofs.Decides0 as law
use Rattle.amf0_spelling.proofs.laws.canonical0_decides.Goals as goal

pub returns : goal.returns
returns c = law.canonical_decides0
