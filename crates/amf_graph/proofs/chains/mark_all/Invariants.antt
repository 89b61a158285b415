use Rattle.std.proofs.Common.{◌≡◌, ℕ, ◌<◌, length}
use Rattle.amf_graph.specs.Chains.{hash_at, hashes_of, IsMarked}
use Rattle.amf_graph.proofs.chains.mark_all.Given as goal

abbrev pub invariant-loop-link : goal.invariant-loop-link
invariant-loop-link l = record {
  marked : (i : ℕ) → i < l.link-index → IsMarked l.marks (hash_at (hashes_of l.links) i);
  count : length l.marks ≡ length l.fn.marks;
}
