-- Each row computes.
use Rattle.std.proofs.Common.{refl}
use Rattle.amf_service.proofs.facts.service_rows.Goals as goal

pub returns : goal.returns
unfolding lib.Count.count_leading_zeros
returns c = record {
  two_and_three = refl;
  past_the_largest = refl;
  nothing = refl;
  below_zero = refl;
  no_number = refl;
  two_items = refl;
  one_item = refl;
  members = refl;
  nobody = refl;
  other = refl;
  sum_called = refl;
}
