use Rattle.amf_listings.proofs.FileLawRows.{file_laws}
use Rattle.amf_listings.proofs.facts.file_laws.Goals as goal

pub returns : goal.returns
returns c = file_laws
