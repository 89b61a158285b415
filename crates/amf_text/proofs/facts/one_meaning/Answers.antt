-- The law holds.
use Rattle.amf_text.proofs.OneMeaning.{one_meaning}
use Rattle.amf_text.proofs.facts.one_meaning.Goals as goal

pub returns : goal.returns
returns c = one_meaning
