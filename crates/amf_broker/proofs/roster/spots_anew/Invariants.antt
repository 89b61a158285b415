-- Where the places so far are, and how many are there.
use Rattle.std.proofs.Common.{◌≡◌, ◌≤◌, ℕ, take, length}
use Rattle.std.specs.Prelude.{filter}
use Rattle.amf_broker.specs.Slots.{IsFound, spots_of}
use Rattle.amf_broker.proofs.roster.spots_anew.Given as goal

abbrev pub invariant-loop-slot : goal.invariant-loop-slot
invariant-loop-slot l = record {
  found : (k : ℕ) → IsFound k (spots_of l.spots k) (filter (λ s. s.kept) (take l.slot-index l.slots));
  count : l.at ≡ length (filter (λ s. s.kept) (take l.slot-index l.slots));
  fits : l.at ≤ l.slot-index;
}
