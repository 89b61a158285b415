-- The law holds.
use Rattle.amf_text.proofs.OtherDigits.{any_digits}
use Rattle.amf_text.proofs.facts.digit_laws.Goals as goal

pub returns : goal.returns
returns c = any_digits
