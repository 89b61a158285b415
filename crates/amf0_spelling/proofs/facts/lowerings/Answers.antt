use Rattle.amf0_spelling.proofs.LoweringRows as rows
use Rattle.amf0_spelling.proofs.facts.lowerings.Goals as goal

pub returns : goal.returns
returns c = rows.lowerings
