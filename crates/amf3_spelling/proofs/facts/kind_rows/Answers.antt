-- The worked rows of the kinds hold.
use Rattle.amf3_spelling.proofs.KindRows as rows
use Rattle.amf3_spelling.proofs.facts.kind_rows.Goals as goal

pub returns : goal.returns
returns c = record {
  class_alone = rows.class_alone;
  traits_by_place = rows.traits_by_place;
  unused_bits = rows.unused_bits;
  no_unused_bits = rows.no_unused_bits;
  no_values = rows.no_values;
  two_counts_as_fixed = rows.two_counts_as_fixed;
  no_canonical_flag = rows.no_canonical_flag;
  fixed_ints = rows.fixed_ints;
  no_document = rows.no_document;
  an_xml = rows.an_xml;
  two_bytes = rows.two_bytes;
  greatest_uint = rows.greatest_uint;
  five_as_double = rows.five_as_double;
  sealed_before_member = rows.sealed_before_member;
  name_before_item = rows.name_before_item;
  one_entry = rows.one_entry;
}
