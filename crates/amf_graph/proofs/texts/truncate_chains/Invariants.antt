use Rattle.std.proofs.Common.{◌≡◌, ◌≤◌, length, take}
use Rattle.amf_graph.proofs.texts.truncate_chains.Given as goal

abbrev pub invariant-loop-chains : goal.invariant-loop-chains
invariant-loop-chains l = record {
  enough : l.count ≤ length l.chains;
  front : take l.count l.chains ≡ take l.count l.fn.chains;
}

abbrev pub decreases-loop-chains : goal.decreases-loop-chains
decreases-loop-chains l = length l.chains
