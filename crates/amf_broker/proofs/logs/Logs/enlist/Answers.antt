-- The member comes to the back of the line of its topic, or of a new one.
use Rattle.std.proofs.Common.{◌≡◌, ◌∙◌, ◌∷◌, ◌++◌, [], sym, ap, set}
use Rattle.std.specs.Prelude.{slice_set}
use Rattle.std.specs.List.{list_any}
use Rattle.std.proofs.lemmas.Result.{on_ok_weaker, on_err_weaker}
use Rattle.std.proofs.lemmas.List.{set-get_or}
use Rattle.amf_broker.specs.Machine.{is_same_topic}
use Rattle.amf_broker.specs.Members.{Line, with_member}
use Rattle.amf_broker.proofs.Firsts.{first-changed, found-any, absent-any, not-some}
use Rattle.amf_broker.proofs.Enlists.{enlisted-found, enlisted-new}
use Rattle.amf_broker.proofs.Noted.{apart-set, noted-set}
use Rattle.amf_broker.proofs.logs.Logs.enlist.Goals as goal

pub invariant_of-self : goal.invariant_of-self
invariant_of-self c =
    let lines = c.self.inside.list.items in
    let same = c.join.ensures.topic ∙ ap (λ (l : Line). l.topic) c.index_mut.ensures.value in (
      apart-set lines c.in-Some.place c.join.new.self c.index_mut.result.now same ∙ c.self.invariant.0,
      noted-set c.self.inside.start c.self.inside.places lines c.in-Some.place c.join.new.self c.index_mut.result.now same ∙ c.self.invariant.1,
    )

pub returns-in-Some-clause-ok : goal.returns-in-Some-clause-ok
returns-in-Some-clause-ok c =
    let lines = c.self.inside.list.items in
    let place = rw (← c.self.view_is) at c.place_of.ensures.place in
    let is = sym c.in-Some.is ∙ place in
    let changed =
    ap (λ l. slice_set lines c.in-Some.place (with_member c.args.member l)) c.index_mut.ensures.value
    ∙ (first-changed (λ (l : Line). is_same_topic c.args.topic.now l.topic) (with_member c.args.member) c.index_mut.result.now lines c.in-Some.place is
    ∙ enlisted-found c.args.topic.now c.args.member lines (found-any (λ (l : Line). is_same_topic c.args.topic.now l.topic) lines c.in-Some.place is)) in
    rw (← c.self.view_is) (on_ok_weaker c.join.result (λ (new : c.join.new.self ≡ with_member c.args.member c.index_mut.result.now). ap (slice_set lines c.in-Some.place) new ∙ changed) c.join.ensures.ok)

pub returns-in-Some-clause-err : goal.returns-in-Some-clause-err
returns-in-Some-clause-err c =
    let lines = c.self.inside.list.items in
    rw (← c.self.view_is) (on_err_weaker c.join.result (λ (new : c.join.new.self ≡ c.index_mut.result.now). ap (set lines c.in-Some.place) (new ∙ c.index_mut.ensures.value) ∙ set-get_or lines c.in-Some.place c.index_mut.result.now) c.join.ensures.err)

pub add-requires : goal.add-requires
add-requires c =
    let place = c.place_of.ensures.place in
    let absent = absent-any (λ (l : Line). is_same_topic c.args.topic.now l.topic) _ (not-some c.place_of.result c.in_default.not-Some ∙ place) in
    ap (λ (l : Line). list_any (λ (x : Line). is_same_topic l.topic x.topic) c.args.self.now) c.in_ok-log.ensures ∙ absent

pub returns-clause-ok : goal.returns-clause-ok
returns-clause-ok c =
    let place = c.place_of.ensures.place in
    let absent = absent-any (λ (l : Line). is_same_topic c.args.topic.now l.topic) _ (not-some c.place_of.result c.in_default.not-Some ∙ place) in
    on_ok_weaker c.add.result (λ (new : c.add.new.self ≡ c.args.self.now ++ (c.in_ok-log.log ∷ [])). new ∙ (ap (λ l. c.args.self.now ++ (l ∷ [])) c.in_ok-log.ensures ∙ enlisted-new c.args.topic.now c.args.member c.args.self.now absent)) c.add.ensures.ok
