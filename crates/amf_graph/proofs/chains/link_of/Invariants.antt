use Rattle.std.proofs.Common.{◌≤◌, ℕ, length}
use Rattle.std.specs.Int.Bits.{bit_and}
use Rattle.amf_graph.specs.Chains.{LeadsTo, bucket_at, hashes_of, nexts_of, AreNexts}
use Rattle.amf_graph.proofs.Links.{OnTheWay}
use Rattle.amf_graph.proofs.chains.link_of.Given as goal

abbrev pub invariant-loop-link : goal.invariant-loop-link
invariant-loop-link l = record {
  within : l.link ≤ length l.links;
  way : (mask bound : ℕ) → AreNexts mask (length l.links) (hashes_of l.links) (nexts_of l.links) → LeadsTo (bucket_at mask (hashes_of l.links)) bound (bit_and l.hash mask) l.from → bound ≤ length l.links → OnTheWay mask bound (hashes_of l.links) l.hash l.link;
}

abbrev pub decreases-loop-link : goal.decreases-loop-link
decreases-loop-link l = l.link
