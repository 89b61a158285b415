use Rattle.std.proofs.Common.{sym, ◌∙◌}
use Rattle.amf0_write.proofs.WrapperNodes.{values_in, wrapper_unwraps, not_wrapped, other_stays}
use Rattle.amf0_write.proofs.chains.unwrapped.Goals as goal

pub returns-then-not-is_wrapper-clause-content : goal.returns-then-not-is_wrapper-clause-content
returns-then-not-is_wrapper-clause-content c = not_wrapped c.args.graph.now.arena c.args.graph.now.root c.args.node.0 (sym c.is_wrapper.ensures ∙ c.if-not-is_wrapper.true)

pub returns-in-Wrapper-clause-content : goal.returns-in-Wrapper-clause-content
returns-in-Wrapper-clause-content c = wrapper_unwraps c.args.graph.now.arena c.args.graph.now.root c.args.node.0 c.in-Wrapper.class c.in-Wrapper.value c.in-Wrapper.ensures

pub returns-in-Wrapper-clause-names : goal.returns-in-Wrapper-clause-names
returns-in-Wrapper-clause-names c = (values_in c.args.graph.now.arena c.args.node.0 _ c.is_finished.ensures.finished c.requires c.in-Wrapper.ensures).0

pub returns-in_default-clause-content : goal.returns-in_default-clause-content
returns-in_default-clause-content c = other_stays c.args.graph.now.arena c.args.graph.now.root c.args.node.0 c.node.result c.node.ensures c.in_default.not-Wrapper
