-- The line of the topic is changed, and its topic stays.
use Rattle.std.proofs.Common.{◌∙◌, ap, sym}
use Rattle.std.specs.Prelude.{slice_set}
use Rattle.amf_broker.specs.Machine.{is_same_topic}
use Rattle.amf_broker.specs.Members.{Line, line_parted}
use Rattle.amf_broker.proofs.Firsts.{first-changed, absent-any, not-some}
use Rattle.amf_broker.proofs.Noted.{apart-set, noted-set}
use Rattle.amf_broker.proofs.Owners.{first-line, no-line-changed}
use Rattle.amf_broker.proofs.logs.Logs.part.Goals as goal

pub invariant_of-self : goal.invariant_of-self
invariant_of-self c =
    let lines = c.self.inside.list.items in
    let same = ap (λ (l : Line). l.topic) c.part.ensures ∙ ap (λ (l : Line). l.topic) c.index_mut.ensures.value in (
      apart-set lines c.in-Some.place c.part.new.self c.index_mut.result.now same ∙ c.self.invariant.0,
      noted-set c.self.inside.start c.self.inside.places lines c.in-Some.place c.part.new.self c.index_mut.result.now same ∙ c.self.invariant.1,
    )

pub returns-in-Some : goal.returns-in-Some
returns-in-Some c =
    let lines = c.self.inside.list.items in
    let topic = c.args.topic.now in
    let change = line_parted c.args.client in
    let place = rw (← c.self.view_is) at c.place_of.ensures.place in
    let is = sym c.in-Some.is ∙ place in
    rw (← c.self.view_is)
    (ap (slice_set lines c.in-Some.place) c.part.ensures
    ∙ (ap (λ l. slice_set lines c.in-Some.place (change l)) c.index_mut.ensures.value
    ∙ (first-changed (λ (l : Line). is_same_topic topic l.topic) change c.index_mut.result.now lines c.in-Some.place is ∙ first-line topic change lines)))

pub returns-in_default : goal.returns-in_default
returns-in_default c =
    let lines = c.self.inside.list.items in
    let topic = c.args.topic.now in
    let place = rw (← c.self.view_is) at c.place_of.ensures.place in
    let absent = absent-any (λ (l : Line). is_same_topic topic l.topic) lines (not-some c.place_of.result c.in_default.not-Some ∙ place) in
    rw (← c.self.view_is) (no-line-changed topic (line_parted c.args.client) lines absent)
