-- The first rows alone.
use Rattle.amf_graph.proofs.NodeKept.{nodes_take}
use Rattle.amf_graph.proofs.NodeKinds.{are_taken}
use Rattle.amf_graph.proofs.nodes.Nodes.truncate.Goals as goal

pub invariant_of-self : goal.invariant_of-self
invariant_of-self c =
    are_taken c.self.inside.pools c.self.inside.slots.items c.self.inside.used c.args.count c.self.inside.rows.items c.truncate.new.self.items c.self.inside.kinds.items c.truncate-2.new.self.items
    c.truncate.ensures.items c.truncate-2.ensures.items c.self.invariant

pub returns : goal.returns
returns c = nodes_take c.self.inside.pools c.self.inside.slots.items c.args.count c.self.inside.rows.items c.truncate.new.self.items c.args.self.now c.truncate.ensures.items c.self.view_is
