-- The same bytes spell isomorphic graphs.
use Rattle.amf3_spelling.proofs.Decides3.{same_bytes_isomorphic}
use Rattle.amf3_spelling.proofs.laws.same_bytes_are_isomorphic.Goals as goal

pub returns : goal.returns
returns c = same_bytes_isomorphic
