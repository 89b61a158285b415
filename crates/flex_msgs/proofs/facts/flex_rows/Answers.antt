-- Each row computes.
use Rattle.std.proofs.Common.{refl}
use Rattle.std.specs.Int.Count.{count_leading_zeros}
use Rattle.flex_msgs.proofs.facts.flex_rows.Goals as goal

pub returns : goal.returns
unfolding count_leading_zeros
returns c = record { first = refl; second = refl; third = refl; fourth = refl; operation_of_text = refl; operation_of_double = refl; dynamic_members = refl; stands_twice = refl; headers_of_array = refl; no_object = refl; no_message = refl; first_wrong = refl; headers_first = refl; five = refl; five_back = refl; largest = refl; largest_back = refl; half = refl; minus_zero = refl }
