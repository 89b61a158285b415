-- The law holds.
use Rattle.amf_text.proofs.ToldDocuments.{document_meant_laws}
use Rattle.amf_text.proofs.facts.document_laws.Goals as goal

pub returns : goal.returns
returns c = document_meant_laws
