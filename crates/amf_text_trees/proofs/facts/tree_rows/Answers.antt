-- The worked texts come to what they mean.
use Rattle.std.proofs.Common.{refl}
use Rattle.std.specs.Fmt.{digits}
use Rattle.amf_text.specs.Tags.{tag_of}
use Rattle.amf_text.specs.Scalars.{hex_byte, told_text, told_pattern, told_double}
use Rattle.amf_text.specs.Told.{told_body, told}
use Rattle.amf_text.specs.Meant.{meant}
use Rattle.amf_text.specs.Asks.{step, node_key, value_key, vector_tag, class_key, begun_key}
use Rattle.amf_text_trees.specs.Gathering.{gather}
use Rattle.amf_text_trees.proofs.facts.tree_rows.Goals as goal

pub returns : goal.returns
unfolding digits tag_of hex_byte told_text told_pattern told_double told_body told meant step node_key value_key vector_tag class_key begun_key gather
returns c = record {
  save_gathered = refl;
  packet_gathered = refl;
  cycle_gathered = refl;
  shared_gathered = refl;
  sealed_gathered = refl;
  vector_gathered = refl;
  dictionary_gathered = refl;
  byte_array_gathered = refl;
  date_gathered = refl;
  nan_gathered = refl;
  labels_gathered = refl;
  number_gathered = refl;
  kinds_gathered = refl;
  twins_gathered = refl;
  file3_gathered = refl;
  mail_gathered = refl;
  deep_gathered = refl;
}
