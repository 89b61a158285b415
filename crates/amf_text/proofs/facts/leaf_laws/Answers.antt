-- The laws hold.
use Rattle.amf_text.proofs.Leaves.{leaf_laws}
use Rattle.amf_text.proofs.facts.leaf_laws.Goals as goal

pub returns : goal.returns
returns c = leaf_laws
