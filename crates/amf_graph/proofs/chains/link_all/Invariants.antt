use Rattle.std.proofs.Common.{◌≡◌, ◌-◌, length}
use Rattle.amf_graph.specs.Chains.{hashes_of, nexts_of, AreLinked}
use Rattle.amf_graph.proofs.chains.link_all.Given as goal

abbrev pub invariant-loop-place : goal.invariant-loop-place
invariant-loop-place l = record {
  same : hashes_of l.links ≡ hashes_of l.fn.links;
  count : length l.buckets ≡ length l.fn.buckets;
  linked : AreLinked (length l.fn.buckets - 1) l.place (hashes_of l.fn.links) (nexts_of l.links) l.buckets;
}
