use Rattle.std.proofs.Common.{refl, ap}
use Rattle.std.specs.Fmt.{digits}
use Rattle.std.specs.Prelude.{nat_lt, if◌then◌else◌}
use Rattle.uuid.specs.Text.{by_index}
use Rattle.amf_service.specs.Shipped.{shipped}
use Rattle.amf_answer_plan.specs.Links.{turn_away, answer_packet}
use Rattle.amf_answer_laws.proofs.facts.link_rows.Goals as goal

pub returns : goal.returns
unfolding by_index digits
returns c = record {
  no_request = refl;
  two_requests = refl;
  asks_close = refl;
  ends_inside = refl;
  is_refused = refl;
  no_packet = refl;
  longest = λ m e. ap (nat_lt 65526) e;
  too_long = λ m e. ap (nat_lt 65526) e;
  long_packet = λ p close rest e. ap (λ b. if b then turn_away 400 else answer_packet shipped close rest p) e;
  last_request = refl;
}
