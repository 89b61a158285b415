use Rattle.std.proofs.Common.{refl}
use Rattle.std.specs.Fmt.{digits}
use Rattle.uuid.specs.Text.{by_index}
use Rattle.amf_answer_laws.proofs.facts.order_rows.Goals as goal

pub returns : goal.returns
unfolding by_index digits
returns c = record {
  connects = refl;
  pings = refl;
  no_headers = refl;
  publishes = refl;
  unsubscribes = refl;
  no_subscription = refl;
  disconnects = refl;
  not_served = refl;
  no_message = refl;
}
