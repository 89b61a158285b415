use Rattle.std.proofs.Common.{refl}
use Rattle.amf_graph.specs.Rooted.{content}
use Rattle.amf3_write.proofs.Least.{lack_of_node}
use Rattle.amf3_write.proofs.WroteNodes.{true_is}
use Rattle.amf3_write.proofs.first_lack.lack_at.Goals as goal

pub returns : goal.returns
returns c = lack_of_node (content c.args.graph.now) c.args.numbering.now c.args.node.0 c.in_ok-number.number c.in_ok-number.ensures.number (λ k e. c.in_ok-number.ensures.alone c.in_ok-number.number k refl e) (c.is_unnamed.ensures.0 (true_is c.is_unnamed.result c.if-not-is_unnamed.false))
