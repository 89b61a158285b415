-- The place is noted.
use Rattle.std.proofs.Common.{◌≡◌, ◌∷◌, ◌++◌, ◌∙◌, [], true, length, sym, ap, rules}
use Rattle.std.specs.Prelude.{◌==◌, if◌then◌else◌}
use Rattle.amf_broker.specs.declared.slot.Slot.{Slot}
use Rattle.amf_broker.specs.Index.{topic_hash}
use Rattle.amf_broker.specs.Slots.{spots_of}
use Rattle.amf_broker.proofs.Slots.{found-noted}
use Rattle.amf_broker.proofs.Among.{among-noted}
use Rattle.amf_broker.proofs.roster.Roster.push.Goals as goal

pub invariant_of-self-2 : goal.invariant_of-self-2
invariant_of-self-2 c =
    let ss = c.self.inside.slots.items in
    let s = c.new.result in
    let pushed : c.push.new.self.items ≡ c.reserve.new.self.items ++ (s ∷ []) = search rules in
    let all = pushed ∙ ap (λ m. m ++ (s ∷ [])) c.in_ok-reserve.ensures.items in
    let at : c.len-at.result ≡ length ss = c.len-at.ensures ∙ (c.reserve.new.self.ok.0 ∙ ap length c.in_ok-reserve.ensures.items) in
    let kept : s.kept ≡ true = ap (λ (x : Slot). x.kept) c.new.ensures in
    let key = c.note_spot-2.inside.0 in
    let client : s.place.client ≡ key = ap (λ (x : Slot). x.place.client) c.new.ensures ∙ sym (c.note_spot-2.view_is ∙ c.client.ensures) in
    let h = topic_hash c.self.inside.start in
    let hash = c.hash_of-hash.result in
    let under : hash ≡ h s.place.topic = c.hash_of-hash.ensures ∙ ap h (c.topic.ensures ∙ sym (ap (λ (x : Slot). x.place.topic) c.new.ensures)) in (
      λ k.
          let noted = c.in_ok-note_spot-2.ensures.ok k ∙ ap (λ n. if key == k then spots_of c.self.inside.spots k ++ (n ∷ []) else spots_of c.self.inside.spots k) at in
          rw all (found-noted k key (spots_of c.self.inside.spots k) (spots_of c.note_spot-3.new.spots k) ss s kept client noted (c.self.invariant.0 k)),
      λ t.
          let noted = c.in_ok-note_spot.ensures.ok (h t) ∙ ap (λ n. if hash == h t then spots_of c.self.inside.topics (h t) ++ (n ∷ []) else spots_of c.self.inside.topics (h t)) at in
          rw all (among-noted h t (spots_of c.self.inside.topics (h t)) (spots_of c.note_spot.new.spots (h t)) ss s hash under noted (c.self.invariant.1 t)),
    )
