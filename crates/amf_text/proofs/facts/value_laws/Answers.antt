-- The laws hold.
use Rattle.amf_text.proofs.ToldParts.{value_laws}
use Rattle.amf_text.proofs.facts.value_laws.Goals as goal

pub returns : goal.returns
returns c = value_laws
