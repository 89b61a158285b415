-- The functions are the relations.
use Rattle.amf_wire.proofs.WholeNumbers as numbers
use Rattle.amf_wire.proofs.pattern.whole_numbers.Goals as goal

pub returns : goal.returns
returns c = numbers.whole_numbers
