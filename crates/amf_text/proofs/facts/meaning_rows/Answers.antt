-- The worked meanings hold.
use Rattle.std.proofs.Common.{refl}
use Rattle.std.specs.Fmt.{digits}
use Rattle.amf_text.specs.Tags.{tag_of}
use Rattle.amf_text.specs.Scalars.{hex_byte, told_text, told_pattern, told_double}
use Rattle.amf_text.specs.Told.{told_body, told}
use Rattle.amf_text.specs.Meant.{meant}
use Rattle.amf_text.proofs.facts.meaning_rows.Goals as goal

pub returns : goal.returns
unfolding digits tag_of hex_byte told_text told_pattern told_double told_body told meant
returns c = record {
  save_meant = refl;
  packet_meant = refl;
  cycle_meant = refl;
  shared_meant = refl;
  sealed_meant = refl;
  vector_meant = refl;
  dictionary_meant = refl;
  byte_array_meant = refl;
  date_meant = refl;
  nan_meant = refl;
  labels_meant = refl;
  number_meant = refl;
  kinds_meant = refl;
  twins_meant = refl;
  file3_meant = refl;
  mail_meant = refl;
  deep_meant = refl;
}
