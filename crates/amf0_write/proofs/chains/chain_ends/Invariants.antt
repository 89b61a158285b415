use Rattle.std.proofs.Common.{◌<◌, ◌-◌, length}
use Rattle.amf0_write.specs.Chained.{AreAfter}
use Rattle.amf0_write.proofs.chains.chain_ends.Given as goal

abbrev pub invariant-loop-steps : goal.invariant-loop-steps
invariant-loop-steps l = record {
  some : 0 < l.steps;
  after : AreAfter l.graph l.steps l.ends.items;
}

abbrev pub decreases-loop-steps : goal.decreases-loop-steps
decreases-loop-steps l = length l.graph.arena.nodes - l.steps
