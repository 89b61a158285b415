-- The law holds.
use Rattle.amf_text.proofs.Labels.{link_laws}
use Rattle.amf_text.proofs.facts.link_laws.Goals as goal

pub returns : goal.returns
returns c = link_laws
