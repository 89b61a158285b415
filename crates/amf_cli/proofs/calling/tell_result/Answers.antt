-- No name of a result is empty, so it lacks nothing.
use Rattle.std.proofs.Common.{Err, ap}
use Rattle.amf_graph.specs.Rooted.{content}
use Rattle.amf_dial_and_call.proofs.Lackless.{lacks_nothing}
use Rattle.amf_cli.proofs.calling.tell_result.Goals as goal

pub unreachable-requires : goal.unreachable-requires
unreachable-requires g c =
    let e = c.in-Err-NoSpelling in
    let l = e.field-0-0 in
    lacks_nothing (content c.args.graph.now) c.requires l.node l.kind (e.ensures.lack l (ap Err e.field-0-is))
