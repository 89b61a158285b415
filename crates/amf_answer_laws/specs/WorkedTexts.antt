-- Worked facts of numbers and identifiers.
use Rattle.std.specs.Prelude.{◌≡◌, [], codes, Some, None}
use Rattle.amf_answer_plan.specs.Numbers.{number_in, identifier}
use Rattle.amf_answer_plan.specs.PlainCalls.{at_last_dot}

pub record TextRows : Type 0 where
  pub of_zeros : identifier 0 0 ≡ codes "00000000-0000-4000-8000-000000000000"
  pub of_ones : identifier 0xFFFFFFFFFFFFFFFF 0xFFFFFFFFFFFFFFFF ≡ codes "ffffffff-ffff-4fff-bfff-ffffffffffff"
  pub high_first : identifier 0x0123456789ABCDEF 0xFEDCBA9876543210 ≡ codes "01234567-89ab-4def-bedc-ba9876543210"
  pub twelve : number_in (codes "12") ≡ 12
  pub leading_zero : number_in (codes "012") ≡ 0
  pub zero_itself : number_in (codes "0") ≡ 0
  pub signed : number_in (codes "+1") ≡ 0
  pub no_digits : number_in [] ≡ 0
  pub no_number : number_in (codes "nil") ≡ 0
  pub digit_and_more : number_in (codes "1a") ≡ 0
  pub largest : number_in (codes "18446744073709551615") ≡ 18446744073709551615
  pub too_large : number_in (codes "18446744073709551616") ≡ 0
  pub two_dots : at_last_dot (codes "a.b.c") ≡ Some (record { service = codes "a.b"; operation = codes "c" })
  pub last_byte : at_last_dot (codes "a.") ≡ Some (record { service = codes "a"; operation = [] })
  pub no_dot : at_last_dot (codes "abc") ≡ None
