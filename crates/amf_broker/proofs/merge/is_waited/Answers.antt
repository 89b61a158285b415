-- One that has ended is waited for where it covers a message.
use Rattle.std.proofs.Common.{◌∙◌, ap, sym}
use Rattle.std.specs.List.{list_any}
use Rattle.amf_broker.specs.Lines.{posts_of, is_covered}
use Rattle.amf_broker.specs.Members.{raised, logs_of}
use Rattle.amf_broker.proofs.Raises.{waited-dead}
use Rattle.amf_broker.proofs.merge.is_waited.Goals as goal

pub returns-else-is_live : goal.returns-else-is_live
returns-else-is_live c =
    let u = raised c.args.next c.args.place.now in
    c.covers_any.ensures
    ∙ (ap (list_any (is_covered u.start u.stop)) (c.posts_of.ensures ∙ ap (λ t. posts_of t (logs_of c.args.logs.now)) c.topic.ensures)
    ∙ waited-dead (logs_of c.args.logs.now) c.args.next c.args.place.now (sym c.is_live.ensures ∙ c.if-is_live.false))
