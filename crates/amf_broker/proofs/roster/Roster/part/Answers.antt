-- The client's places go, by what is noted of it.
use Rattle.std.proofs.Common.{◌≡◌, ◌∙◌, sym, map, not}
use Rattle.std.specs.Prelude.{◌==◌}
use Rattle.amf_broker.specs.Slots.{kept_if, spots_of}
use Rattle.amf_broker.specs.Index.{topic_hash}
use Rattle.amf_broker.proofs.Rounds.{mapped}
use Rattle.amf_broker.proofs.Among.{among-map, of-if}
use Rattle.amf_broker.proofs.Slots.{changed-all}
use Rattle.amf_broker.proofs.Parts.{part-idle, found-parted}
use Rattle.amf_broker.proofs.roster.Roster.part.Goals as goal

pub invariant_of-self : goal.invariant_of-self
invariant_of-self c =
    let k = c.args.client in
    let g = kept_if (λ u. not (u.client == k)) in
    let ss = c.self.inside.slots.items in
    let changed : c.part.new.slots ≡ map g ss =
    (rw (c.deref_mut.ensures.value, c.spots_of.ensures) at c.part.ensures) ∙ changed-all k g (part-idle k) (spots_of c.self.inside.spots k) ss (c.self.invariant.0 k) in
    let is = mapped g c.self.inside.slots.len ss c.part.new.slots (sym c.self.inside.slots.ok.0) changed in (
      λ j. rw is (found-parted k j (spots_of c.self.inside.spots j) (spots_of c.drop_spots.new.spots j) ss (c.drop_spots.ensures j) (c.self.invariant.0 j)),
      λ t. rw is (among-map t g (of-if t (λ u. not (u.client == k))) (spots_of c.self.inside.topics (topic_hash c.self.inside.start t)) ss (c.self.invariant.1 t)),
    )

pub returns : goal.returns
returns c =
    let k = c.args.client in
    let g = kept_if (λ u. not (u.client == k)) in
    let ss = c.self.inside.slots.items in
    let changed : c.part.new.slots ≡ map g ss =
    (rw (c.deref_mut.ensures.value, c.spots_of.ensures) at c.part.ensures) ∙ changed-all k g (part-idle k) (spots_of c.self.inside.spots k) ss (c.self.invariant.0 k) in
    rw (← c.self.view_is) (mapped g c.self.inside.slots.len ss c.part.new.slots (sym c.self.inside.slots.ok.0) changed)
