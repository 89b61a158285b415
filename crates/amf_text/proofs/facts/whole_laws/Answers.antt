-- The law holds.
use Rattle.amf_text.proofs.WholeDocuments.{whole_laws}
use Rattle.amf_text.proofs.facts.whole_laws.Goals as goal

pub returns : goal.returns
returns c = whole_laws
