use Rattle.std.proofs.Common.{Err, ap}
use Rattle.amf_graph.specs.Rooted.{content}
use Rattle.amf_commands.proofs.MadeAgain.{never_lacks}
use Rattle.amf_commands.proofs.making.canonical.Goals as goal

pub unreachable-requires : goal.unreachable-requires
unreachable-requires c =
    let l = c.in-Err-NoSpelling.field-0-0 in
    never_lacks (content c.args.graph.now) c.requires l.node l.kind (c.in-Err-NoSpelling.ensures.lack l (ap Err c.in-Err-NoSpelling.field-0-is))
