use Rattle.std.proofs.Common.{refl}
use Rattle.std.specs.Fmt.{digits}
use Rattle.uuid.specs.Text.{by_index}
use Rattle.amf_answer_laws.proofs.facts.run_out_rows.Goals as goal

pub returns : goal.returns
unfolding by_index digits
returns c = record {
  no_moment = refl;
  no_reply = refl;
  no_word = refl;
  no_second_moment = refl;
  no_word_to_invalidate = refl;
  left = refl;
}
