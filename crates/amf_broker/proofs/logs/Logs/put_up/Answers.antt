-- The message comes to the back of the log of its topic.
use Rattle.std.proofs.Common.{◌≡◌, ◌∙◌, sym, ap, length, set}
use Rattle.std.specs.Prelude.{◌==◌, slice_set}
use Rattle.std.proofs.lemmas.Result.{on_ok_weaker, on_err_weaker}
use Rattle.std.proofs.lemmas.List.{set-get_or}
use Rattle.amf_broker.specs.Machine.{is_same_topic}
use Rattle.amf_broker.specs.Members.{Line, with_post}
use Rattle.amf_broker.proofs.Firsts.{first-changed, absent-any, not-some}
use Rattle.amf_broker.proofs.Published.{first-posted, unposted, none-at}
use Rattle.amf_broker.proofs.Noted.{apart-set, noted-set}
use Rattle.amf_broker.proofs.logs.Logs.put_up.Goals as goal

pub invariant_of-self : goal.invariant_of-self
invariant_of-self c =
    let lines = c.self.inside.list.items in
    let same = c.push.ensures.topic ∙ ap (λ (l : Line). l.topic) c.index_mut.ensures.value in (
      apart-set lines c.in-Some.place c.push.new.self c.index_mut.result.now same ∙ c.self.invariant.0,
      noted-set c.self.inside.start c.self.inside.places lines c.in-Some.place c.push.new.self c.index_mut.result.now same ∙ c.self.invariant.1,
    )

pub returns-in-Some-clause-ok : goal.returns-in-Some-clause-ok
returns-in-Some-clause-ok c =
    let lines = c.self.inside.list.items in
    let place = rw (← c.self.view_is) at c.place_of.ensures.place in
    let is = sym c.in-Some.is ∙ place in
    let changed =
    ap (λ l. slice_set lines c.in-Some.place (with_post c.args.post l)) c.index_mut.ensures.value
    ∙ (first-changed (λ (l : Line). is_same_topic c.args.topic.now l.topic) (with_post c.args.post) c.index_mut.result.now lines c.in-Some.place is
    ∙ first-posted c.args.topic.now c.args.post lines) in
    rw (← c.self.view_is) (on_ok_weaker c.push.result (λ (new : c.push.new.self ≡ with_post c.args.post c.index_mut.result.now). ap (slice_set lines c.in-Some.place) new ∙ changed) c.push.ensures.ok)

pub returns-in-Some-clause-err : goal.returns-in-Some-clause-err
returns-in-Some-clause-err c =
    let lines = c.self.inside.list.items in
    rw (← c.self.view_is) (on_err_weaker c.push.result (λ (new : c.push.new.self ≡ c.index_mut.result.now). ap (set lines c.in-Some.place) (new ∙ c.index_mut.ensures.value) ∙ set-get_or lines c.in-Some.place c.index_mut.result.now) c.push.ensures.err)

pub returns-clause-ok : goal.returns-clause-ok
returns-clause-ok c =
    let lines = c.self.inside.list.items in
    let place = rw (← c.self.view_is) at c.place_of.ensures.place in
    let absent = absent-any (λ (l : Line). is_same_topic c.args.topic.now l.topic) lines (not-some c.place_of.result c.in_default.not-Some ∙ place) in
    rw (← c.self.view_is) (unposted c.args.topic.now c.args.post lines (ap (λ ms. length ms == 0) (none-at c.args.topic.now lines absent)))
