-- The worked texts hold.
use Rattle.std.proofs.Common.{refl}
use Rattle.std.specs.Fmt.{digits}
use Rattle.json.specs.Print.{escape_byte, print_from}
use Rattle.json.specs.Layout.{pretty_from}
use Rattle.amf_text.specs.Scalars.{hex_byte, told_text, told_pattern, told_double}
use Rattle.amf_text.specs.Told.{told_body, told}
use Rattle.amf_text.proofs.facts.text_rows.Goals as goal

pub returns : goal.returns
unfolding digits escape_byte print_from pretty_from hex_byte told_text told_pattern told_double told_body told
returns c = record {
  save_text = refl;
  packet_text = refl;
  cycle_text = refl;
  shared_text = refl;
  sealed_text = refl;
  vector_text = refl;
  dictionary_text = refl;
  byte_array_text = refl;
  date_text = refl;
  nan_text = refl;
  labels_text = refl;
  number_text = refl;
  kinds_text = refl;
  twins_text = refl;
  file3_text = refl;
  mail_text = refl;
  deep_text = refl;
}
