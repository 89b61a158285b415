-- A graph within bounds has a canonical spelling.
use Rattle.amf3_spelling.proofs.Decides3.{canonical_exist}
use Rattle.amf3_spelling.proofs.laws.canonical_exists.Goals as goal

pub returns : goal.returns
returns c = canonical_exist
