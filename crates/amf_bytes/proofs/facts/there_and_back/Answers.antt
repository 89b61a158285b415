use Rattle.amf_bytes.proofs.ThereAndBackRows.{text_there_and_back}
use Rattle.amf_bytes.proofs.facts.there_and_back.Goals as goal

pub returns : goal.returns
returns c = text_there_and_back
