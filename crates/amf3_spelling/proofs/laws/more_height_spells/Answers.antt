-- More height spells the same.
use Rattle.amf3_spelling.proofs.Heights.{more_height}
use Rattle.amf3_spelling.proofs.laws.more_height_spells.Goals as goal

pub returns : goal.returns
returns c = more_height
