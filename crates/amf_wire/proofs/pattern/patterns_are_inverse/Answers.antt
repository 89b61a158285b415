-- Patterns and whole numbers name one another.
use Rattle.amf_wire.proofs.pattern.patterns_are_inverse.Goals as goal
use Rattle.amf_wire.proofs.Doubles.{inverse}

pub returns : goal.returns
returns c = inverse
