-- An open node that is kept leaves the arena built.
use Rattle.std.proofs.Common.{arith}
use Rattle.amf_graph.specs.Arena.{HeadNames}
use Rattle.amf_graph.specs.Building.{shape_head}
use Rattle.amf_graph.proofs.Built.{built_node, within_node}
use Rattle.amf_graph.proofs.Begun.{begun_in, begun_within}
use Rattle.amf_graph.proofs.builder.Builder.open_node.Goals as goal

pub invariant_of-self-2 : goal.invariant_of-self-2
invariant_of-self-2 c =
    let own : HeadNames c.self.inside.store (shape_head c.args.shape) = rw (← c.self.view_is) at c.requires in
    rw (c.in_ok-open_node.ensures.ok) (built_node _ _ c.self.invariant.0 (begun_in _ c.args.shape own), within_node _ _ c.self.invariant.1 (omega arith) (begun_within c.args.shape))
