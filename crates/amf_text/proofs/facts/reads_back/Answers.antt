-- The law holds.
use Rattle.amf_text.proofs.ReadsBack.{reads_back}
use Rattle.amf_text.proofs.facts.reads_back.Goals as goal

pub returns : goal.returns
returns c = reads_back
