-- What is accepted from nothing is what is spelled.
use Rattle.amf3_layout_laws.proofs.Values3Layout.{reading_is_value, value_is_reading}
use Rattle.amf3_layout_laws.proofs.layout_laws.values_are_spellings.Goals as goal

pub returns : goal.returns
returns c = λ fs. (reading_is_value fs, value_is_reading fs)
