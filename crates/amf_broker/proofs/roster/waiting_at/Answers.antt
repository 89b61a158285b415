-- What waits for one place more is put among the others.
use Rattle.std.proofs.Common.{◌∙◌, true, take, get_or, map, ap, sym}
use Rattle.std.specs.Prelude.{slice_index}
use Rattle.std.proofs.lemmas.List.{take_more}
use Rattle.amf_broker.specs.declared.slot.Slot.{Slot}
use Rattle.amf_broker.specs.Lines.{waits, posts_of, put_all}
use Rattle.amf_broker.specs.Members.{raised, covered_in, logs_of}
use Rattle.amf_broker.specs.Slots.{nothing, own_of}
use Rattle.amf_broker.proofs.Raises.{waits-step}
use Rattle.amf_broker.proofs.Slots.{own-yes, own-no, own-client, at-any}
use Rattle.amf_broker.proofs.roster.waiting_at.Goals as goal
use Rattle.amf_broker.proofs.roster.waiting_at.Goals.{then-is_own_at+in_ok-put_covered, else-is_own_at}

pub loop-at-preserved : goal.loop-at-preserved
loop-at-preserved c =
    let i = c.loop-at.at-index in
    let is = c.args.spots.now in
    let ss = c.args.slots.now in
    let k = c.args.client in
    let logs = logs_of c.args.logs.now in
    let at = slice_index is i in
    let u = (get_or ss at nothing).place in
    let more = take_more is i 0 c.loop-at-test.true in
    elim c.if-is_own_at.branch [
      | then-is_own_at+in_ok-put_covered w ↦
          let own = sym c.is_own_at.ensures.own ∙ w.if-is_own_at.true in
          let within = c.is_own_at.ensures.bound w.if-is_own_at.true in
          let x = w.index-slots-at.result in
          let same = at-any ss at x nothing within in
          let posts = w.posts_of.ensures ∙ (ap (λ t. posts_of t logs) w.topic.ensures ∙ ap (λ (s : Slot). posts_of s.place.topic logs) same) in
          let put-is = w.in_ok-put_covered.ensures
          ∙ (ap (λ ms. put_all (covered_in c.args.next (get_or ss at x).place ms) c.loop-at.queue.items) posts
          ∙ ap (λ (s : Slot). put_all (covered_in c.args.next s.place (posts_of u.topic logs)) c.loop-at.queue.items) same) in
          ap (λ v. v.items) w.queue-is
          ∙ (waits-step logs c.args.next (own_of k ss (take i is)) u k c.loop-at.queue.items w.put_covered.new.queue.items true (own-client k (get_or ss at nothing) own) c.loop-at.invariant put-is
          ∙ ap (λ l. waits logs (map (raised c.args.next) l) k) (sym (own-yes k ss (take i is) at own) ∙ ap (own_of k ss) (sym more)))
      | else-is_own_at w ↦
          let own = sym c.is_own_at.ensures.own ∙ w.if-is_own_at.false in
          ap (λ v. v.items) w.queue-is
          ∙ (c.loop-at.invariant ∙ ap (λ l. waits logs (map (raised c.args.next) l) k) (sym (own-no k ss (take i is) at own) ∙ ap (own_of k ss) (sym more)))
    ]
