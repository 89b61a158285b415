-- One log more is noted.
use Rattle.std.proofs.Common.{◌≡◌, ◌∙◌, ap, sym, true, get_or}
use Rattle.amf_broker.specs.Members.{Line}
use Rattle.amf_broker.specs.Index.{topic_hash, is_noted}
use Rattle.amf_broker.proofs.Noted.{noted-next}
use Rattle.amf_broker.proofs.logs.places_of.Goals as goal

pub loop-log-preserved : goal.loop-log-preserved
loop-log-preserved c =
    let logs = c.args.logs.now in
    let log = c.log-item.result in
    let here : is_noted c.note.new.places (topic_hash c.args.start (get_or logs c.loop-log.log-index log).topic) ≡ true =
    ap (λ (l : Line). is_noted c.note.new.places (topic_hash c.args.start l.topic)) (sym c.log-item.is)
    ∙ (ap (is_noted c.note.new.places) (sym (c.hash_of.ensures ∙ ap (topic_hash c.args.start) c.topic.ensures)) ∙ c.in_ok-note.ensures.ok) in
    noted-next c.args.start c.loop-log.places c.note.new.places logs c.loop-log.log-index log c.loop-log-test.true c.in_ok-note.ensures.stays here c.loop-log.invariant
