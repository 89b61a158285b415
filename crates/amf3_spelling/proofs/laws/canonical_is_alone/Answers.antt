-- No graph has two canonical spellings.
use Rattle.amf3_spelling.proofs.Decides3.{canonical_is_alone}
use Rattle.amf3_spelling.proofs.laws.canonical_is_alone.Goals as goal

pub returns : goal.returns
returns c = canonical_is_alone
