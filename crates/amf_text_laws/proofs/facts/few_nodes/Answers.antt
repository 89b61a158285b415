-- The law holds.
use Rattle.amf_text_laws.proofs.TextBounds.{text_bounds}
use Rattle.amf_text_laws.proofs.facts.few_nodes.Goals as goal

pub returns : goal.returns
returns c = text_bounds
