-- The subscriptions have ended.
use Rattle.std.proofs.Common.{◌∙◌, ◌+◌, sym, ap, refl}
use Rattle.std.specs.Prelude.{◌==◌, filter}
use Rattle.amf_broker.specs.Members.{logs_of, members_at, ends_for, remains_of}
use Rattle.amf_broker.specs.Slots.{standing}
use Rattle.amf_broker.proofs.Leavers.{empty-none}
use Rattle.amf_broker.proofs.Publishes.{is_over}
use Rattle.amf_broker.proofs.Gone.{lines-same, some-ended}
use Rattle.amf_broker.proofs.Owners.{kept-own, stopped-all}
use Rattle.amf_broker.proofs.lines.end_all.Goals as goal

pub returns-then-is_empty-clause-logs : goal.returns-then-is_empty-clause-logs
returns-then-is_empty-clause-logs c =
    let none = empty-none c.args.ended.now.subs.items (ap (λ n. n == 0) (sym c.args.ended.now.subs.ok.0) ∙ (sym c.is_empty.ensures ∙ c.if-is_empty.true)) in
    rw none (sym (lines-same c.args.logs.now))

pub returns-then-is_empty-clause-places : goal.returns-then-is_empty-clause-places
returns-then-is_empty-clause-places c =
    let none = empty-none c.args.ended.now.subs.items (ap (λ n. n == 0) (sym c.args.ended.now.subs.ok.0) ∙ (sym c.is_empty.ensures ∙ c.if-is_empty.true)) in
    rw none refl

pub returns-clause-logs : goal.returns-clause-logs
returns-clause-logs c = c.drop_subs.ensures ∙ c.requires.alone

pub returns-clause-places : goal.returns-clause-places
returns-clause-places c =
    let e = c.args.ended.now.subs.items in
    let n = c.args.number in
    let logs = logs_of c.args.logs.now in
    let own = ends_for (is_over e) (members_at c.args.topic.now c.args.logs.now) in
    let some = ap (λ n. n == 0) (sym c.args.ended.now.subs.ok.0) ∙ (sym c.is_empty.ensures ∙ c.if-is_empty.false) in
    rw (c.end_members.ensures, c.members_of.ensures)
    (kept-own own n (n + 1) (is_over e) logs c.args.places.now
    ∙ (ap (filter (remains_of own (is_over e) logs (n + 1))) (stopped-all own n (is_over e) (standing c.args.places.now) c.requires.theirs) ∙ sym (some-ended own e n logs (standing c.args.places.now) some)))
