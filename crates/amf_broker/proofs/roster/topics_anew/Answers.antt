-- One slot more, if its place is there.
use Rattle.std.proofs.Common.{◌≡◌, ◌∷◌, ◌++◌, ◌+◌, ◌∙◌, [], take, length, sym, ap, arith}
use Rattle.std.specs.Prelude.{◌==◌, filter, if◌then◌else◌}
use Rattle.std.proofs.lemmas.List.{take_more}
use Rattle.amf_broker.specs.declared.slot.Slot.{Slot}
use Rattle.amf_broker.specs.Index.{topic_hash}
use Rattle.amf_broker.specs.Slots.{spots_of}
use Rattle.amf_broker.proofs.Slots.{fresh-yes, fresh-no, length-end}
use Rattle.amf_broker.proofs.Among.{among-noted}
use Rattle.amf_broker.proofs.roster.topics_anew.Goals as goal
use Rattle.amf_broker.proofs.roster.topics_anew.Goals.{then-slot+in_ok-note_spot, else-slot}

pub loop-slot-preserved : goal.loop-slot-preserved
loop-slot-preserved c =
    let i = c.loop-slot.slot-index in
    let ss = c.args.slots.now in
    let s = c.slot-item.result in
    let h = topic_hash c.args.start in
    let before = filter (λ (x : Slot). x.kept) (take i ss) in
    let more = take_more ss i s c.loop-slot-test.true in
    let all : take (i + 1) ss ≡ take i ss ++ (s ∷ []) = more ∙ ap (λ x. take i ss ++ (x ∷ [])) (sym c.slot-item.is) in
    elim c.if-slot.branch [
      | then-slot+in_ok-note_spot w ↦
          let now = ap (filter (λ (x : Slot). x.kept)) all ∙ fresh-yes (take i ss) s w.if-slot.true in
          let fits = c.loop-slot.invariant.fits in
          let is = w.at-is in
          let hash = w.hash_of-hash.result in
          let under = w.hash_of-hash.ensures ∙ ap h w.topic.ensures in
          record {
            among = λ t.
                let noted = w.in_ok-note_spot.ensures.ok (h t) ∙ ap (λ n. if hash == h t then spots_of c.loop-slot.spots (h t) ++ (n ∷ []) else spots_of c.loop-slot.spots (h t)) c.loop-slot.invariant.count in
                rw (w.spots-is, now) (among-noted h t (spots_of c.loop-slot.spots (h t)) (spots_of w.note_spot.new.spots (h t)) before s hash under noted (c.loop-slot.invariant.among t));
            count = w.at-is ∙ (ap (λ n. n + 1) c.loop-slot.invariant.count ∙ sym (ap length now ∙ length-end before s));
            fits = omega (arith, is, fits);
          }
      | else-slot w ↦
          let now = ap (filter (λ (x : Slot). x.kept)) all ∙ fresh-no (take i ss) s w.if-slot.false in
          let fits = c.loop-slot.invariant.fits in
          let is = w.at-is in
          record {
            among = λ t. rw (w.spots-is, now) (c.loop-slot.invariant.among t);
            count = w.at-is ∙ (c.loop-slot.invariant.count ∙ sym (ap length now));
            fits = omega (arith, is, fits);
          }
    ]
