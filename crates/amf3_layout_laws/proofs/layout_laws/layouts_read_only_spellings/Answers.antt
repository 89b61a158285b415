-- What is read is spelled.
use Rattle.amf3_layout_laws.proofs.Layout3Filled.{reading}
use Rattle.amf3_layout_laws.proofs.layout_laws.layouts_read_only_spellings.Goals as goal

pub returns : goal.returns
returns c = reading
