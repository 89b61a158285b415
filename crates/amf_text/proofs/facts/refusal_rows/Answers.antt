-- The worked refusals hold.
use Rattle.std.proofs.Common.{refl}
use Rattle.json.specs.Lex.{lex}
use Rattle.json.specs.Text.{content, code_unit, short_escape}
use Rattle.json.specs.Word.{word, after_number}
use Rattle.amf_text.specs.Tags.{tag_of}
use Rattle.amf_text.specs.Asks.{step, node_key, value_key, vector_tag, class_key, begun_key, fault_at}
use Rattle.amf_text.specs.Scan.{places, mode_after, scan_from}
use Rattle.amf_text.proofs.facts.refusal_rows.Goals as goal

pub returns : goal.returns
unfolding lex content code_unit short_escape word after_number tag_of step node_key value_key vector_tag class_key begun_key fault_at places mode_after scan_from
returns c = record {
  cut_between_stop = refl;
  cut_behind_comma_stop = refl;
  cut_word_stop = refl;
  cut_number_stop = refl;
  cut_string_stop = refl;
  cut_key = refl;
  cut_key_stop = refl;
  no_comma_stop = refl;
  no_word_stop = refl;
  lone_surrogate_stop = refl;
  other_key = refl;
  other_tag = refl;
  no_key = refl;
  key_in_list = refl;
  falling_names = refl;
  other_name = refl;
  twice_named = refl;
  other_word = refl;
  row_no_node = refl;
  infinite = refl;
  half_int = refl;
  no_pattern = refl;
  no_hex = refl;
  no_text = refl;
  same_label = refl;
  behind = refl;
  behind_stop = refl;
  comma_behind = refl;
  comma_behind_stop = refl;
  bad_version = refl;
  no_label = refl;
}
