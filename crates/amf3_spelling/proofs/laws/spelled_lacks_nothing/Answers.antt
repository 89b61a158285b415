-- What is spelled lacks nothing.
use Rattle.amf3_spelling.proofs.FirstLack3.{nothing_lacks}
use Rattle.amf3_spelling.proofs.laws.spelled_lacks_nothing.Goals as goal

pub returns : goal.returns
returns c = nothing_lacks
