use Rattle.amf0_write.specs.Chained.{AreFor, IsAfter}
use Rattle.amf0_write.proofs.chains.first_steps.Given as goal

abbrev pub invariant-loop-number : goal.invariant-loop-number
invariant-loop-number l = AreFor l.graph (IsAfter l.graph 1) l.number l.ends.items
