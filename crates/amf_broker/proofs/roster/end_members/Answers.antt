-- One member more, that ends or stays.
use Rattle.std.proofs.Common.{ℕ, ◌∙◌, List, ap, sym, map, arith}
use Rattle.std.specs.Prelude.{◌==◌}
use Rattle.std.proofs.lemmas.List.{take_all}
use Rattle.amf_broker.specs.Members.{Listener, logs_of, ends_for}
use Rattle.amf_broker.specs.Slots.{own_ended}
use Rattle.amf_broker.proofs.Publishes.{is_over}
use Rattle.amf_broker.proofs.Owners.{ended-none, ended-member-more, ended-member-less}
use Rattle.amf_broker.proofs.roster.end_members.Goals as goal
use Rattle.amf_broker.proofs.roster.end_members.Goals.{then-has, else-has}

pub loop-member-init : goal.loop-member-init
loop-member-init c = ended-none c.args.number c.args.next (is_over c.args.ended.now.subs.items) (logs_of c.args.logs.now) c.args.places.now

pub loop-member-preserved : goal.loop-member-preserved
loop-member-preserved c =
    let e = is_over c.args.ended.now.subs.items in
    let i = c.loop-member.member-index in
    let ms = c.args.members.now in
    let d = c.member-item.result in
    let logs = logs_of c.args.logs.now in
    let over = ap (λ (m : Listener). e m.sub) (sym c.member-item.is) ∙ (ap e (sym c.sub.ensures) ∙ sym c.has.ensures) in
    elim c.if-has.branch [
      | then-has w ↦
          let ended = w.end_own.ensures
          ∙ ap (λ (j : ℕ). map (own_ended (λ k. k == j) c.args.number c.args.next e logs) c.loop-member.places) (w.client.ensures ∙ ap (λ (m : Listener). m.client) c.member-item.is) in
          w.places-is
          ∙ ended-member-more c.args.number c.args.next e logs ms i d c.loop-member-test.true c.args.places.now c.loop-member.places w.end_own.new.self (over ∙ w.if-has.true) c.loop-member.invariant ended
      | else-has w ↦ w.places-is ∙ ended-member-less c.args.number c.args.next e logs ms i d c.loop-member-test.true c.args.places.now c.loop-member.places (over ∙ w.if-has.false) c.loop-member.invariant
    ]

pub returns : goal.returns
returns c =
    let e = is_over c.args.ended.now.subs.items in
    let past = c.loop-member-test.false in
    c.loop-member.invariant
    ∙ ap (λ (ms : List Listener). map (own_ended (ends_for e ms) c.args.number c.args.next e (logs_of c.args.logs.now)) c.args.places.now) (take_all c.loop-member.member-index c.args.members.now (omega (arith, past)))
