-- Where the places so far are, and how many are there.
use Rattle.std.proofs.Common.{◌≡◌, ◌≤◌, take, length}
use Rattle.std.specs.Prelude.{filter}
use Rattle.amf_broker.specs.declared.topic.Topic.{Topic}
use Rattle.amf_broker.specs.Index.{topic_hash}
use Rattle.amf_broker.specs.Slots.{AreAmong, spots_of}
use Rattle.amf_broker.proofs.roster.topics_anew.Given as goal

abbrev pub invariant-loop-slot : goal.invariant-loop-slot
invariant-loop-slot l = record {
  among : (t : Topic) → AreAmong t (spots_of l.spots (topic_hash l.start t)) (filter (λ s. s.kept) (take l.slot-index l.slots));
  count : l.at ≡ length (filter (λ s. s.kept) (take l.slot-index l.slots));
  fits : l.at ≤ l.slot-index;
}
