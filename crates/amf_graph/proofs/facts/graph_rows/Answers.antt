-- The worked facts hold.
use Rattle.std.proofs.Common.{refl}
use Rattle.amf_graph.proofs.Rows as rows
use Rattle.amf_graph.proofs.facts.graph_rows.Goals as goal

pub returns : goal.returns
returns c = record { different = rows.different; different_back = rows.different_back; by_name_is_stable = refl; names_before_items = rows.names_before_items; sealed_before_members = rows.sealed_before_members; same = rows.same; in_order = rows.in_order }
