use Rattle.amf_options.proofs.OneValue.{one_value}
use Rattle.amf_options.proofs.laws.options_have_one_value.Goals as goal

pub returns : goal.returns
returns c = one_value
