use Rattle.std.proofs.Common.{refl}
use Rattle.uuid.specs.Text.{by_index}
use Rattle.amf_answer_laws.proofs.facts.text_rows.Goals as goal

pub returns : goal.returns
unfolding by_index
returns c = record {
  of_zeros = refl;
  of_ones = refl;
  high_first = refl;
  twelve = refl;
  leading_zero = refl;
  zero_itself = refl;
  signed = refl;
  no_digits = refl;
  no_number = refl;
  digit_and_more = refl;
  largest = refl;
  too_large = refl;
  two_dots = refl;
  last_byte = refl;
  no_dot = refl;
}
