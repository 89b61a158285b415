use Rattle.std.proofs.Common.{◌≡◌, Option, sym, subst}
use Rattle.amf_graph.specs.Rooted.{RootedArena, content}
use Rattle.amf_graph.specs.Arena.{value_content}
use Rattle.amf_flex_replies.specs.KeptArguments.{KeepsArguments}
use Rattle.amf_answer_plan.specs.Remoting.{arguments}
use Rattle.amf_flex_replies.proofs.Arguments.{arguments_some, arguments_none, by_test}
use Rattle.amf_flex_replies.proofs.remoting.arguments.Goals as goal

pub returns-clause-args : goal.returns-clause-args
returns-clause-args c =
    let g = c.args.graph.now in
    let x = c.in_ok-args.args in
    let P = λ (o : Option RootedArena). KeepsArguments (arguments (content g) (value_content g.arena c.args.body)) o in
    subst P (sym c.then_some.ensures)
    (by_test c.has_items.result x P
    (λ e. let some = c.has_items.ensures.some e in arguments_some g.arena g.root x c.is_finished.ensures.finished c.is_finished-2.ensures.finished c.is_finished-2.ensures.names c.args.body c.requires.names c.in_ok-args.ensures.args some.0 some.1)
    (λ e. arguments_none g.arena g.root x c.is_finished.ensures.finished c.is_finished-2.ensures.finished c.is_finished-2.ensures.names c.args.body c.in_ok-args.ensures.args (c.has_items.ensures.none e)))
