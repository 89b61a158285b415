-- Every start can be completed.
use Rattle.amf3_layout_laws.proofs.Layout3Format.{start_able}
use Rattle.amf3_layout_laws.proofs.layout_laws.layouts_complete_starts.Goals as goal

pub returns : goal.returns
returns c = start_able
