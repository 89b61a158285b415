-- The worked facts hold.
use Rattle.std.proofs.Common.{refl, arith}
use Rattle.amf_wire.specs.Style.{canonical}
use Rattle.amf_wire.proofs.Shortest.{small}
use Rattle.amf_wire.proofs.TextTest.{is_text-is}
use Rattle.amf_wire.proofs.Worked as worked
use Rattle.amf_wire.proofs.facts.worked_facts.Goals as goal

pub returns : goal.returns
returns c = record {
  five = small canonical 5 (omega arith);
  five_longer = worked.five_longer;
  longer_is_not_canonical = worked.longer_is_not_canonical;
  least = worked.least;
  greatest = worked.greatest;
  minus_one = worked.minus_one;
  zero_text = worked.zero_text;
  no_text = refl;
  test = is_text-is;
}
