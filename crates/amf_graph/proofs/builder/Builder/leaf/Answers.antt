-- A leaf that is kept leaves the arena built.
use Rattle.std.proofs.Common.{arith}
use Rattle.amf_graph.specs.Arena.{HeadNames}
use Rattle.amf_graph.specs.Building.{leaf_head}
use Rattle.amf_graph.proofs.Built.{built_node, within_node}
use Rattle.amf_graph.proofs.Begun.{leaf_in, leaf_within}
use Rattle.amf_graph.proofs.builder.Builder.leaf.Goals as goal

pub invariant_of-self-2 : goal.invariant_of-self-2
invariant_of-self-2 c =
    let a = c.self.inside.store in
    let own : HeadNames a (leaf_head c.args.leaf) = rw (← c.self.view_is) at c.requires in
    rw (c.in_ok-keep_node.ensures.ok) (built_node a _ c.self.invariant.0 (leaf_in a c.args.leaf c.self.invariant.0.texts own c.numbers_fit.ensures), within_node a _ c.self.invariant.1 (omega arith) (leaf_within c.args.leaf (omega arith)))
