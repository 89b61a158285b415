-- A node's kind tells it.
use Rattle.std.proofs.Common.{sym}
use Rattle.amf0_write.proofs.WrapperNodes.{wrapper_by_kind, other_by_kind}
use Rattle.amf0_write.proofs.chains.is_wrapper.Goals as goal

pub returns-in-Wrapper : goal.returns-in-Wrapper
returns-in-Wrapper c = sym (wrapper_by_kind c.args.graph.now.arena c.args.graph.now.root c.args.node.0 c.in-Wrapper.ensures)

pub returns-in_default : goal.returns-in_default
returns-in_default c = sym (other_by_kind c.args.graph.now.arena c.args.graph.now.root c.args.node.0 c.kind_of.result c.kind_of.ensures c.in_default.not-Wrapper)
