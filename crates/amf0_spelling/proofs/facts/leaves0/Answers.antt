use Rattle.amf0_spelling.proofs.LeafRows0 as rows
use Rattle.amf0_spelling.proofs.facts.leaves0.Goals as goal

pub returns : goal.returns
returns c = rows.leaves0
