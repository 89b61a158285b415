-- One slot more, if its place is there.
use Rattle.std.proofs.Common.{◌≡◌, ◌∷◌, ◌++◌, ◌+◌, ◌∙◌, [], take, length, sym, ap, arith}
use Rattle.std.specs.Prelude.{◌==◌, filter, if◌then◌else◌}
use Rattle.std.proofs.lemmas.List.{take_more}
use Rattle.amf_broker.specs.declared.slot.Slot.{Slot}
use Rattle.amf_broker.specs.Slots.{spots_of}
use Rattle.amf_broker.proofs.Slots.{found-noted, fresh-yes, fresh-no, length-end}
use Rattle.amf_broker.proofs.roster.spots_anew.Goals as goal
use Rattle.amf_broker.proofs.roster.spots_anew.Goals.{then-slot+in_ok-note_spot, else-slot}

pub loop-slot-preserved : goal.loop-slot-preserved
loop-slot-preserved c =
    let i = c.loop-slot.slot-index in
    let ss = c.args.slots.now in
    let s = c.slot-item.result in
    let before = filter (λ (x : Slot). x.kept) (take i ss) in
    let more = take_more ss i s c.loop-slot-test.true in
    let all : take (i + 1) ss ≡ take i ss ++ (s ∷ []) = more ∙ ap (λ x. take i ss ++ (x ∷ [])) (sym c.slot-item.is) in
    elim c.if-slot.branch [
      | then-slot+in_ok-note_spot w ↦
          let now = ap (filter (λ (x : Slot). x.kept)) all ∙ fresh-yes (take i ss) s w.if-slot.true in
          let fits = c.loop-slot.invariant.fits in
          let is = w.at-is in
          record {
            found = λ k.
                let noted = w.in_ok-note_spot.ensures.ok k ∙ ap (λ n. if w.note_spot.inside.0 == k then spots_of c.loop-slot.spots k ++ (n ∷ []) else spots_of c.loop-slot.spots k) c.loop-slot.invariant.count in
                rw (w.spots-is, now) (found-noted k w.note_spot.inside.0 (spots_of c.loop-slot.spots k) (spots_of w.note_spot-then-slot.new.spots k) before s w.if-slot.true (sym (w.note_spot.view_is ∙ w.client.ensures)) noted (c.loop-slot.invariant.found k));
            count = w.at-is ∙ (ap (λ n. n + 1) c.loop-slot.invariant.count ∙ sym (ap length now ∙ length-end before s));
            fits = omega (arith, is, fits);
          }
      | else-slot w ↦
          let now = ap (filter (λ (x : Slot). x.kept)) all ∙ fresh-no (take i ss) s w.if-slot.false in
          let fits = c.loop-slot.invariant.fits in
          let is = w.at-is in
          record {
            found = λ k. rw (w.spots-is, now) (c.loop-slot.invariant.found k);
            count = w.at-is ∙ (c.loop-slot.invariant.count ∙ sym (ap length now));
            fits = omega (arith, is, fits);
          }
    ]
