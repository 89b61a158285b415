use Rattle.std.proofs.Common.{refl}
use Rattle.std.specs.Fmt.{digits}
use Rattle.uuid.specs.Text.{by_index}
use Rattle.amf_answer_laws.proofs.facts.poll_rows.Goals as goal

pub returns : goal.returns
unfolding by_index digits
returns c = record {
  first_time = refl;
  once_more = refl;
  bad_number = refl;
  no_text = refl;
  null_number = refl;
  no_client = refl;
  ended = refl;
  ended_alone = refl;
  no_stored_message = refl;
}
