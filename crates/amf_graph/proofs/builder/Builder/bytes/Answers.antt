-- A byte array that is kept leaves the arena built.
use Rattle.std.proofs.Common.{arith}
use Rattle.amf_graph.proofs.Built.{built_node, within_node}
use Rattle.amf_graph.proofs.Begun.{bytes_in, bytes_within}
use Rattle.amf_graph.proofs.builder.Builder.bytes.Goals as goal

pub invariant_of-self-2 : goal.invariant_of-self-2
invariant_of-self-2 c =
    rw c.in_ok-keep_node.ensures.ok (built_node _ _ c.self.invariant.0 (bytes_in _ c.args.array.now c.bytes_fit.ensures), within_node _ _ c.self.invariant.1 (omega arith) (bytes_within c.args.array.now (omega arith)))
