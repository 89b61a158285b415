-- A canonical spelling or a first lack.
use Rattle.amf3_spelling.proofs.FirstLack3.{spelling_or_lack}
use Rattle.amf3_spelling.proofs.laws.spelling_or_lack.Goals as goal

pub returns : goal.returns
returns c = spelling_or_lack
