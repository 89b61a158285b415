-- Those in which a place is stay noted.
use Rattle.amf_broker.specs.Index.{topic_hash}
use Rattle.amf_broker.specs.Slots.{spots_of}
use Rattle.amf_broker.proofs.Among.{among-pruned}
use Rattle.amf_broker.proofs.roster.Roster.prune_topic.Goals as goal

pub invariant_of-self : goal.invariant_of-self
invariant_of-self c =
    let h = topic_hash c.self.inside.start in (
      c.self.invariant.0,
      λ t.
          among-pruned h t (spots_of c.self.inside.topics (h t)) (spots_of c.prune_gone.new.spots (h t)) c.self.inside.slots.items c.hash_of-hash.result (rw c.deref.ensures.value at (c.prune_gone.ensures (h t)))
          (c.self.invariant.1 t),
    )
