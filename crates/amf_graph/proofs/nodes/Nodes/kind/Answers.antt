-- The kind stands beside the row.
use Rattle.std.proofs.Common.{length, ap, ◌∙◌, arith}
use Rattle.std.proofs.lemmas.List.{length-map}
use Rattle.amf_graph.specs.Arena.{StoredNode}
use Rattle.amf_graph.specs.Building.{kind_of}
use Rattle.amf_graph.specs.NodeRows.{row_nodes, kinds_of}
use Rattle.amf_graph.proofs.NodeKinds.{kind_at}
use Rattle.amf_graph.proofs.nodes.Nodes.kind.Goals as goal

pub index-requires : goal.index-requires
index-requires c =
    let nodes = row_nodes c.self.inside.pools c.self.inside.slots.items c.self.inside.rows.items in
    omega (arith, ap length c.self.invariant.same, length-map nodes (λ (n : StoredNode). kind_of n.head), ap length c.self.view_is, c.requires)

pub returns : goal.returns
returns c = kind_at c.self.inside.kinds.items c.args.self.now c.args.place c.index.result.now (c.self.invariant.same ∙ ap kinds_of c.self.view_is) c.requires c.index.ensures
