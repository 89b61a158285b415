-- A topic whose hash is not noted has no log, and a place that is noted is tried.
use Rattle.std.proofs.Common.{◌≡◌, ◌∙◌, ap, sym, false}
use Rattle.std.specs.Prelude.{is_some}
use Rattle.amf_broker.specs.Machine.{is_same_topic}
use Rattle.amf_broker.specs.Members.{Line}
use Rattle.amf_broker.specs.Index.{topic_hash, is_noted}
use Rattle.amf_broker.proofs.Firsts.{not-some, no-place}
use Rattle.amf_broker.proofs.Noted.{absent-noted}
use Rattle.amf_broker.proofs.logs.Logs.place_of.Goals as goal

pub returns-in_default-clause-place : goal.returns-in_default-clause-place
returns-in_default-clause-place c =
    let none : is_noted c.self.inside.places (topic_hash c.self.inside.start c.args.topic.now) ≡ false =
    ap (is_noted c.self.inside.places) (sym c.hash_of.ensures) ∙ sym (ap is_some (not-some c.noted_at.result c.in_default.not-Some ∙ c.noted_at.ensures)) in
    rw (← c.self.view_is) (no-place (λ (l : Line). is_same_topic c.args.topic.now l.topic) c.self.inside.list.items (absent-noted c.self.inside.start c.self.inside.places c.args.topic.now c.self.inside.list.items c.self.invariant.1 none))

pub returns-clause-place : goal.returns-clause-place
returns-clause-place c = rw (← c.self.view_is) (rw c.deref.ensures.value at c.place_of_log.ensures.place)

pub returns-clause-bound : goal.returns-clause-bound
returns-clause-bound c = rw (← c.self.view_is) (rw c.deref.ensures.value at c.place_of_log.ensures.bound)
