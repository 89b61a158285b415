use Rattle.amf0_write.specs.Chained.{AreFor, IsLowFor}
use Rattle.amf0_write.proofs.chains.stand_ins.Given as goal

abbrev pub invariant-loop-end : goal.invariant-loop-end
invariant-loop-end l = AreFor l.graph (IsLowFor l.graph) l.end-index l.stand_ins.items
