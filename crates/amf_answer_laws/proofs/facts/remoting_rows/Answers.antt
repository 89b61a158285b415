use Rattle.std.proofs.Common.{refl}
use Rattle.std.specs.Fmt.{digits}
use Rattle.std.specs.Int.Count.{count_leading_zeros}
use Rattle.uuid.specs.Text.{by_index}
use Rattle.amf_answer_laws.proofs.facts.remoting_rows.Goals as goal

pub returns : goal.returns
unfolding by_index digits count_leading_zeros
returns c = record {
  adds = refl;
  adds_nothing = refl;
  echoes = refl;
  no_arguments = refl;
  no_service = refl;
  no_operation = refl;
  service_fault = refl;
  no_form = refl;
}
