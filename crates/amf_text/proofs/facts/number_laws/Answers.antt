-- The laws hold.
use Rattle.amf_text.proofs.Numbers.{whole_read}
use Rattle.amf_text.proofs.facts.number_laws.Goals as goal

pub returns : goal.returns
returns c = record { whole = whole_read }
