-- What is asked of a canonical spelling alone is forgotten.
use Rattle.amf_wire.specs.Style.{canonical}
use Rattle.amf3_spelling.proofs.Forget.{forget3}
use Rattle.amf3_spelling.proofs.facts.forgets.Goals as goal

pub returns : goal.returns
returns c = λ g v t fs t'. forget3 canonical g v t fs t'
