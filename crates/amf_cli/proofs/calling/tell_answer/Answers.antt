-- The line of a lack is that of any command.
use Rattle.std.proofs.Common.{refl, sym, subst}
use Rattle.amf_dial_and_call.specs.declared.answer.CallAnswer.{CallAnswer}
use Rattle.amf_commands.specs.Lines.{line_of}
use Rattle.amf_cli.specs.CallEnds.{AnswerEnds}
use Rattle.amf_cli.proofs.calling.tell_answer.Goals as goal

pub returns-in-NoSpelling-clause-ends : goal.returns-in-NoSpelling-clause-ends
unfolding line_of
returns-in-NoSpelling-clause-ends g c =
    subst (λ (x : CallAnswer). AnswerEnds g.O.Sink g.E.Sink c.args.out.now c.args.out.now c.args.err.now c.end_with.new.err x c.end_with.result) (sym c.in-NoSpelling.is)
    (c.end_with.ensures.status, (refl, c.end_with.ensures.line))
