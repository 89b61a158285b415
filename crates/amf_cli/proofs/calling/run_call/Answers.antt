-- The input was judged before anything was dialled, or the call was made.
use Rattle.amf_graph.specs.Rooted.{RootedArena, content}
use Rattle.amf_commands.specs.declared.format.Format.TheVariants.{Amf3}
use Rattle.amf_commands.specs.Content.{value}
use Rattle.amf_commands.specs.Run.{IsInputOf}
use Rattle.amf_cli.proofs.CallAlike.{answered_with}
use Rattle.amf_cli.proofs.CallLaws.{judged}
use Rattle.amf_cli.proofs.calling.run_call.Goals as goal

pub returns-in-Err-clause-ends : goal.returns-in-Err-clause-ends
returns-in-Err-clause-ends g c =
    judged g.I.Source g.O.Sink g.E.Sink g.D.Dial g.D.Link.Link (λ (x : RootedArena). IsInputOf Amf3 (value (content x)) (g.I.Source.left c.args.input.now))
    c.args.options.now c.in-Err.end _ c.args.input.now c.arguments.new.input c.args.out.now c.args.err.now c.end_with.new.err c.args.dial.now
    c.end_with.ensures.status c.in-Err.ensures.reads c.in-Err.ensures.ends c.end_with.ensures.line

pub returns-clause-ends : goal.returns-clause-ends
returns-clause-ends g c =
    answered_with g.I.Source g.O.Sink g.E.Sink g.D.Dial g.D.Link.Link c.args.options.now c.tell_answer.result c.args.input.now c.arguments.new.input c.args.out.now c.tell_answer.new.out c.args.err.now c.tell_answer.new.err c.args.dial.now c.call_keyed-answer.new.dial
    (content c.in-Ok.args) c.call_keyed-answer.result c.in-Ok.ensures.reads c.call_keyed-answer.ensures.calls c.call_keyed-answer.ensures.arguments c.call_keyed-answer.ensures.cause c.call_keyed-answer.ensures.numbered c.tell_answer.ensures.ends
