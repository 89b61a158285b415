use Rattle.amf0_spelling.proofs.NodeRows0 as rows
use Rattle.amf0_spelling.proofs.facts.nodes0.Goals as goal

pub returns : goal.returns
returns c = rows.nodes0
