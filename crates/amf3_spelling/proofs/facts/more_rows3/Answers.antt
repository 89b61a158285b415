-- More worked rows hold.
use Rattle.amf3_spelling.proofs.MoreRows as rows
use Rattle.amf3_spelling.proofs.facts.more_rows3.Goals as goal

pub returns : goal.returns
returns c = record {
  order_stays = rows.order_stays;
  name_twice = rows.name_twice;
  name_by_place = rows.name_by_place;
  open_node = rows.open_node;
  wrapper_traits_by_place = rows.wrapper_traits_by_place;
  typed_values = rows.typed_values;
  class_by_place = rows.class_by_place;
}
