-- The rows of refusals agree with the spellings.
use Rattle.amf_wire.specs.Style.{free}
use Rattle.amf3_spelling.proofs.Clean.{clean3}
use Rattle.amf3_spelling.proofs.facts.fields_agree.Goals as goal

pub returns : goal.returns
returns c = λ g v t fs t'. clean3 free g v t fs t'
