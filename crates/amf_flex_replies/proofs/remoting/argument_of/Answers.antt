use Rattle.std.proofs.Common.{◌≡◌, IfOk, sym, subst, arith}
use Rattle.std.proofs.lemmas.Result.{IfOk-weaker}
use Rattle.amf_graph.specs.declared.value.Value.{Value as Stored}
use Rattle.amf_graph.specs.Rooted.{content}
use Rattle.amf_flex_replies.specs.KeptArguments.{IsArgument}
use Rattle.amf_flex_replies.proofs.Arguments.{other_argument}
use Rattle.amf_flex_replies.proofs.remoting.argument_of.Goals as goal

pub returns-in-Null-clause-args : goal.returns-in-Null-clause-args
returns-in-Null-clause-args c = IfOk-weaker c.empty_array.result _ _ (λ x e. subst (λ (v : Stored). IsArgument (content c.args.graph.now) c.args.graph.now.arena v x) (sym c.in-Null.is) e) c.empty_array.ensures.graph

pub returns-in_default-clause-args : goal.returns-in_default-clause-args
returns-in_default-clause-args c = IfOk-weaker c.copied.result _ _ (λ x i. other_argument (content c.args.graph.now) c.args.graph.now.arena c.args.body x c.in_default.not-Null i) c.copied.ensures.same

pub returns-in_default-clause-light : goal.returns-in_default-clause-light
returns-in_default-clause-light c = IfOk-weaker c.copied.result _ _ (λ x h. omega (arith, h, c.requires.light)) c.copied.ensures.light
