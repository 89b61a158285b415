-- The law holds.
use Rattle.amf_text.proofs.TextsRead.{texts_read}
use Rattle.amf_text.proofs.facts.token_laws.Goals as goal

pub returns : goal.returns
returns c = texts_read
