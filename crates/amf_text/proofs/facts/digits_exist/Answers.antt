-- There are digits.
use Rattle.amf_text.proofs.ExactDigits.{digits_exist}
use Rattle.amf_text.proofs.facts.digits_exist.Goals as goal

pub returns : goal.returns
returns c = digits_exist
