use Rattle.std.proofs.Common.{refl}
use Rattle.std.specs.Fmt.{digits}
use Rattle.uuid.specs.Text.{by_index}
use Rattle.amf_answer_laws.proofs.facts.client_rows.Goals as goal

pub returns : goal.returns
unfolding by_index digits
returns c = record {
  pings = refl;
  subscribes = refl;
  publishes = refl;
  polls = refl;
  polls_again = refl;
}
