use Rattle.amf0_spelling.proofs.LackRows0 as rows
use Rattle.amf0_spelling.proofs.facts.lack_rows0.Goals as goal

pub returns : goal.returns
returns c = rows.lack_rows
