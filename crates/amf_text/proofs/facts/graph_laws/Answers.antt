-- The law holds.
use Rattle.amf_text.proofs.ReadGraph.{graph_is_read}
use Rattle.amf_text.proofs.facts.graph_laws.Goals as goal

pub returns : goal.returns
returns c = graph_is_read
