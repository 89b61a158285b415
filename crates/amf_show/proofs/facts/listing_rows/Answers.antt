-- The worked listings hold.
use Rattle.std.proofs.Common.{refl}
use Rattle.std.specs.Fmt.{digits}
use Rattle.amf_show.specs.Shown.{hex_byte, shown_byte, shown_text, shown_double}
use Rattle.amf_show.specs.Listing.{shown_number, shown_contents}
use Rattle.amf_show.proofs.Rows as rows
use Rattle.amf_show.proofs.facts.listing_rows.Goals as goal

pub returns : goal.returns
unfolding digits hex_byte shown_byte shown_text shown_double shown_number shown_contents
returns c = record {
  members_by_name = rows.members_by_name;
  wrapper_over_an_array = rows.wrapper_over_an_array;
  reached_alone = rows.reached_alone;
  no_node = rows.no_node;
  escapes = refl;
  names_behind_items = refl;
  sealed_in_its_order = refl;
  documents = refl;
  byte_array = refl;
  numbers = refl;
  some_doubles = refl;
  vector_of_values = refl;
  weak_dictionary = refl;
}
