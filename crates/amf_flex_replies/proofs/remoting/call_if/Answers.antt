use Rattle.std.proofs.Common.{◌≡◌, Option, Some, None, IfOk, subst}
use Rattle.std.proofs.lemmas.Result.{IfOk-weaker, on_err_weaker}
use Rattle.amf_graph.specs.Graph.{Graph}
use Rattle.amf_graph.specs.Rooted.{RootedArena}
use Rattle.flex_msgs.specs.Asked.{Told}
use Rattle.amf_flex_replies.specs.KeptArguments.{KeepsArguments}
use Rattle.amf_flex_replies.proofs.Remote.{said_called, stopped_called, said_bad, stopped_bad}
use Rattle.amf_flex_replies.proofs.remoting.call_if.Goals as goal

pub returns-in-Some-clause-says : goal.returns-in-Some-clause-says
returns-in-Some-clause-says g c =
    IfOk-weaker c.call_with.result _ _ (λ a h (t : Told) (o : Option Graph) named same keeps. said_called g.O.Outside.handed _ t c.args.operation.now c.args.service.now named _ same c.args.outside.now c.call_with.new.outside o c.in-Some.args a (subst (λ (z : Option RootedArena). KeepsArguments o z) c.in-Some.is keeps) h) c.call_with.ensures.says

pub returns-in-Some-clause-stopped : goal.returns-in-Some-clause-stopped
returns-in-Some-clause-stopped g c =
    on_err_weaker c.call_with.result (λ h (t : Told) (o : Option Graph) named same keeps. stopped_called g.O.Outside.handed _ t c.args.operation.now c.args.service.now named _ same c.args.outside.now c.call_with.new.outside o c.in-Some.args (subst (λ (z : Option RootedArena). KeepsArguments o z) c.in-Some.is keeps) h) c.call_with.ensures.stopped

pub returns-in-None-clause-says : goal.returns-in-None-clause-says
returns-in-None-clause-says g c =
    IfOk-weaker c.say_no_arguments.result _ _ (λ a h (t : Told) (o : Option Graph) named same keeps. said_bad g.O.Outside.handed _ t c.args.operation.now c.args.service.now named _ same c.args.outside.now c.say_no_arguments.new.outside o a (subst (λ (z : Option RootedArena). KeepsArguments o z) c.in-None.is keeps) h) c.say_no_arguments.ensures.says

pub returns-in-None-clause-stopped : goal.returns-in-None-clause-stopped
returns-in-None-clause-stopped g c =
    on_err_weaker c.say_no_arguments.result (λ h (t : Told) (o : Option Graph) named same keeps. stopped_bad g.O.Outside.handed _ t c.args.operation.now c.args.service.now named _ same c.args.outside.now c.say_no_arguments.new.outside o (subst (λ (z : Option RootedArena). KeepsArguments o z) c.in-None.is keeps) h) c.say_no_arguments.ensures.stopped
