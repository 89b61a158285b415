use Rattle.std.proofs.Common.{refl}
use Rattle.std.specs.Fmt.{digits}
use Rattle.std.specs.Int.Count.{count_leading_zeros}
use Rattle.uuid.specs.Text.{by_index}
use Rattle.amf_answer_laws.proofs.facts.plain_rows.Goals as goal

pub returns : goal.returns
unfolding by_index digits count_leading_zeros
returns c = record {
  echoes = refl;
  echoes_a_call = refl;
  echoes_in_amf3 = refl;
  adds = refl;
  turns_to_amf3 = refl;
  no_form = refl;
  no_form_in_amf3 = refl;
  no_service = refl;
  no_operation = refl;
  service_fault = refl;
  no_dot = refl;
  no_arguments = refl;
  to_status = refl;
  to_result = refl;
}
