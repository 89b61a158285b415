-- Each number has one shortest spelling.
use Rattle.amf_wire.proofs.Alone.{alone}
use Rattle.amf_wire.proofs.Digits.{has_shortest}
use Rattle.amf_wire.proofs.facts.one_shortest_u29.Goals as goal

pub returns : goal.returns
returns c = λ n. record { some = has_shortest n; one = alone n }
