-- A text that is kept leaves the arena built.
use Rattle.std.proofs.Common.{arith}
use Rattle.amf_graph.proofs.Built.{built_text, within_text}
use Rattle.amf_graph.proofs.builder.Builder.text.Goals as goal

pub invariant_of-self-2 : goal.invariant_of-self-2
invariant_of-self-2 c =
    rw c.in_ok-keep_text.ensures.ok (built_text _ _ c.self.invariant.0 c.requires, within_text _ _ c.self.invariant.1 (omega arith) (omega arith))
