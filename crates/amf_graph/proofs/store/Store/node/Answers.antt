-- A node of values and pairs has the parts of its kind.
use Rattle.std.proofs.Common.{sym, subst}
use Rattle.amf_graph.specs.Arena.{StoredNode}
use Rattle.amf_graph.specs.Bodies.{HasParts}
use Rattle.amf_graph.specs.Building.{stored_at}
use Rattle.amf_graph.specs.Views.{Shows}
use Rattle.amf_graph.proofs.HeldCopies.{has_parts}
use Rattle.amf_graph.proofs.store.Store.node.Goals as goal

pub parts_view-requires : goal.parts_view-requires
parts_view-requires c =
    subst (λ (n : StoredNode). HasParts n.head n.names n.values) c.in-Parts.ensures
    (has_parts c.args.self.now (stored_at c.args.self.now c.args.node.0) c.requires.whole c.requires.closed)

pub returns-in-Parts : goal.returns-in-Parts
returns-in-Parts c = subst (λ (n : StoredNode). Shows c.args.self.now n c.parts_view.result) (sym c.in-Parts.ensures) (c.parts_view.ensures c.args.self.now)
