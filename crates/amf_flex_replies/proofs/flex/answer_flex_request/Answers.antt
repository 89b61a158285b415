use Rattle.std.proofs.Common.{◌≡◌, IfOk, OnErr, rules, subst}
use Rattle.std.proofs.lemmas.Int.{to_z-of_z}
use Rattle.std.specs.Prelude.{ℤ}
use mir.Val.{SFits}
use mir.Syntax.{w64}
use Rattle.amf_graph.specs.Rooted.{content}
use Rattle.flex_msgs.specs.Asked.{told}
use Rattle.amf_answer_plan.specs.Commands.{command}
use Rattle.amf_answer_plan.specs.Did.{Stopped}
use Rattle.amf_answer_plan.specs.Says.{Says}
use Rattle.amf_answer_plan.proofs.Doing.{at_err}
use Rattle.amf_flex_replies.proofs.flex.answer_flex_request.Goals as goal

pub returns-in_err-answer-in-Remoting-clause-stopped : goal.returns-in_err-answer-in-Remoting-clause-stopped
returns-in_err-answer-in-Remoting-clause-stopped g c = at_err c.from_residual.result (rw c.in-Remoting.is c.in_err-answer-in-Remoting.ensures.stopped)

pub returns-in_ok-answer-in-Remoting-clause-says : goal.returns-in_ok-answer-in-Remoting-clause-says
returns-in_ok-answer-in-Remoting-clause-says g c = rw c.in-Remoting.is c.in_ok-answer-in-Remoting.ensures.says

pub returns-in-Command-clause-says : goal.returns-in-Command-clause-says
returns-in-Command-clause-says g c =
    let fits : SFits w64 c.in-Command.operation = search rules in
    rw c.in-Command.is (subst (λ (z : ℤ). IfOk c.command.result (λ a. Says g.O.Outside.handed (command (content c.args.graph.now) (told c.args.graph.now.arena c.in-Command.common) z) c.args.outside.now c.command.new.outside a)) (to_z-of_z w64 c.in-Command.operation fits) c.command.ensures.says)

pub returns-in-Command-clause-stopped : goal.returns-in-Command-clause-stopped
returns-in-Command-clause-stopped g c =
    let fits : SFits w64 c.in-Command.operation = search rules in
    rw c.in-Command.is (subst (λ (z : ℤ). OnErr c.command.result (Stopped g.O.Outside.handed (command (content c.args.graph.now) (told c.args.graph.now.arena c.in-Command.common) z) c.args.outside.now c.command.new.outside)) (to_z-of_z w64 c.in-Command.operation fits) c.command.ensures.stopped)

pub returns-in-Async-clause-says : goal.returns-in-Async-clause-says
returns-in-Async-clause-says g c = rw c.in-Async.is c.publish.ensures.says

pub returns-in-Async-clause-stopped : goal.returns-in-Async-clause-stopped
returns-in-Async-clause-stopped g c = rw c.in-Async.is c.publish.ensures.stopped
