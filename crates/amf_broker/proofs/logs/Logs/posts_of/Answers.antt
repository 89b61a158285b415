-- They are those of the line at the topic's place.
use Rattle.std.proofs.Common.{◌∙◌, ap, sym}
use Rattle.amf_broker.specs.Machine.{is_same_topic}
use Rattle.amf_broker.specs.Members.{Line}
use Rattle.amf_broker.proofs.Firsts.{found-any, absent-any, place-of}
use Rattle.amf_broker.proofs.Noted.{found-line, no-line}
use Rattle.amf_broker.proofs.logs.Logs.posts_of.Goals as goal

pub returns-in-Some : goal.returns-in-Some
returns-in-Some c =
    let lines = c.self.inside.list.items in
    let topic = c.args.topic.now in
    let place = rw (← c.self.view_is) at c.place_of.ensures.place in
    let is = sym c.in-Some.is ∙ place in
    let found = found-line topic lines c.index.result.now (found-any (λ (l : Line). is_same_topic topic l.topic) lines c.in-Some.place is) c.in-Some.place (place-of (λ (l : Line). is_same_topic topic l.topic) lines c.in-Some.place is) in
    rw (← c.self.view_is) (c.posts.ensures ∙ (ap (λ (l : Line). l.posts) c.index.ensures ∙ sym found.1))

pub returns-in-None : goal.returns-in-None
returns-in-None c =
    let lines = c.self.inside.list.items in
    let topic = c.args.topic.now in
    let place = rw (← c.self.view_is) at c.place_of.ensures.place in
    rw (← c.self.view_is) (sym (no-line topic lines (absent-any (λ (l : Line). is_same_topic topic l.topic) lines (sym c.in-None.is ∙ place))).1)
