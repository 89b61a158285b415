-- The law holds.
use Rattle.amf_text_laws.proofs.ThereAndBack.{there_and_back}
use Rattle.amf_text_laws.proofs.facts.there_and_back.Goals as goal

pub returns : goal.returns
returns c = there_and_back
