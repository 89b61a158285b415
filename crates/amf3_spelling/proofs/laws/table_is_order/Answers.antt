-- The table of nodes is the canonical order.
use Rattle.amf3_spelling.proofs.Decides3.{table_is_order}
use Rattle.amf3_spelling.proofs.laws.table_is_order.Goals as goal

pub returns : goal.returns
returns c = table_is_order
