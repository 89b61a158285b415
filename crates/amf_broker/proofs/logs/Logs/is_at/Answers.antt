-- A line of the topic is the first of it.
use Rattle.std.proofs.Common.{◌<◌, ◌∙◌, ap, sym, length, arith}
use Rattle.amf_broker.specs.Machine.{is_same_topic}
use Rattle.amf_broker.specs.Members.{Line}
use Rattle.amf_broker.proofs.Noted.{place-is}
use Rattle.amf_broker.proofs.logs.Logs.is_at.Goals as goal

pub returns-clause-place : goal.returns-clause-place
returns-clause-place c =
    let full = c.self.inside.list.ok.0 in
    let less : c.args.place < length c.self.inside.list.items = omega arith in
    rw (← c.self.view_is)
    (λ yes. place-is c.args.topic.now c.self.inside.list.items c.args.place c.index.result.now c.self.invariant.0 less (ap (λ (l : Line). is_same_topic c.args.topic.now l.topic) (sym c.index.ensures) ∙ (sym c.is_of.ensures ∙ yes)))
