-- The worked rows hold.
use Rattle.amf3_spelling.proofs.Amf3Rows as rows
use Rattle.amf3_spelling.proofs.PlaceRows as places
use Rattle.amf3_spelling.proofs.facts.rows3.Goals as goal

pub returns : goal.returns
returns c = record {
  shortest_integer = rows.shortest_integer;
  longer_integer = rows.longer_integer;
  text_twice = rows.text_twice;
  text_by_place = rows.text_by_place;
  second_place = places.second_place;
  not_canonical = places.not_canonical;
  cycle = rows.cycle;
  members_on_the_wire = rows.members_on_the_wire;
  members_by_name = rows.members_by_name;
  shared_on_the_wire = rows.shared_on_the_wire;
  shared_by_name = rows.shared_by_name;
  collection_canonical = rows.collection_canonical;
  collection_free = rows.collection_free;
}
