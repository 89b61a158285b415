-- What is spelled is read.
use Rattle.amf3_layout_laws.proofs.Layout3Format.{accepted_read}
use Rattle.amf3_layout_laws.proofs.layout_laws.layouts_read_spellings.Goals as goal

pub returns : goal.returns
returns c = accepted_read
