-- The client's places begin anew, by what is noted of it.
use Rattle.std.proofs.Common.{◌≡◌, ◌∙◌, sym, ap, map}
use Rattle.amf_broker.specs.Slots.{standing, slot_begun, spots_of}
use Rattle.amf_broker.specs.Index.{topic_hash}
use Rattle.amf_broker.proofs.Rounds.{mapped}
use Rattle.amf_broker.proofs.Among.{among-map, of-begun}
use Rattle.amf_broker.proofs.Slots.{changed-all, begun-idle, found-map, found-pruning, less-begun, kept-begun}
use Rattle.amf_broker.proofs.roster.Roster.begin_anew.Goals as goal

pub invariant_of-self : goal.invariant_of-self
invariant_of-self c =
    let k = c.args.client in
    let g = slot_begun k c.args.next in
    let ss = c.self.inside.slots.items in
    let changed : c.begin_anew.new.slots ≡ map g ss =
    (rw (c.deref_mut.ensures.value, c.spots_of.ensures) at c.begin_anew.ensures) ∙ changed-all k g (begun-idle k c.args.next) (spots_of c.self.inside.spots k) ss (c.self.invariant.0 k) in
    let is = mapped g c.self.inside.slots.len ss c.begin_anew.new.slots (sym c.self.inside.slots.ok.0) changed in (
      λ j.
          let noted = rw (c.deref.ensures.value, is) at (c.prune_spots.ensures j) in
          rw is (found-pruning k j (spots_of c.self.inside.spots j) (spots_of c.prune_spots.new.spots j) (map g ss) noted (found-map j g (less-begun j k c.args.next) (spots_of c.self.inside.spots j) ss (c.self.invariant.0 j))),
      λ t. rw is (among-map t g (of-begun t k c.args.next) (spots_of c.self.inside.topics (topic_hash c.self.inside.start t)) ss (c.self.invariant.1 t)),
    )

pub returns : goal.returns
returns c =
    let k = c.args.client in
    let g = slot_begun k c.args.next in
    let ss = c.self.inside.slots.items in
    let changed : c.begin_anew.new.slots ≡ map g ss =
    (rw (c.deref_mut.ensures.value, c.spots_of.ensures) at c.begin_anew.ensures) ∙ changed-all k g (begun-idle k c.args.next) (spots_of c.self.inside.spots k) ss (c.self.invariant.0 k) in
    let is = mapped g c.self.inside.slots.len ss c.begin_anew.new.slots (sym c.self.inside.slots.ok.0) changed in
    rw (← c.self.view_is) (ap standing is ∙ kept-begun k c.args.next ss)
