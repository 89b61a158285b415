-- A stable sort gives by-name order.
use Rattle.amf_graph.proofs.NameOrder.{by_name_from_sort, by_name_again}
use Rattle.amf3_spelling.proofs.laws.sort_is_by_name.Goals as goal

pub returns : goal.returns
returns c = record { sorted = by_name_from_sort; again = by_name_again }
